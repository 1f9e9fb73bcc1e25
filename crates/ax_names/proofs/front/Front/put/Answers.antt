use Rattle.std.proofs.Common.{string_bytes, ap, arith}
use Rattle.std.specs.Fmt.{char_count}
use Rattle.ax_names.proofs.Openings.{puts_none, puts_one, count_push}
use Rattle.ax_names.proofs.front.Front.put.Goals as goal

pub returns-then-self-eq-MOST : goal.returns-then-self-eq-MOST
returns-then-self-eq-MOST c = puts_none c.args.self.now _ _ c.args.c c.self.view_is c.if-self.false (omega arith)

pub invariant_of-self-2 : goal.invariant_of-self-2
invariant_of-self-2 c = (omega (arith, ap char_count c.in_ok-push.ensures.bytes, count_push (string_bytes c.self.inside.string) c.args.c), omega arith)

pub returns : goal.returns
returns c = puts_one c.args.self.now (string_bytes c.self.inside.string) _ c.self.inside.more c.args.c c.self.view_is c.if-self.false (omega arith) c.in_ok-push.ensures.bytes
