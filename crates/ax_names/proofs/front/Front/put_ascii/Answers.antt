use Rattle.std.proofs.Common.{string_bytes, true, ap, arith}
use Rattle.std.specs.Fmt.{char_count}
use Rattle.ax_names.proofs.Evenly.{count_even}
use Rattle.ax_names.proofs.Openings.{count_append, puts_text}
use Rattle.ax_names.proofs.front.Front.put_ascii.Goals as goal

pub invariant_of-self-then-text-self : goal.invariant_of-self-then-text-self
invariant_of-self-then-text-self c =
    let all = ap char_count c.in_ok-push_str.ensures.bytes in
    let both = count_append (string_bytes c.self.inside.string) c.args.text.now in
    let counted = count_even true c.args.text.now c.requires in
    (omega arith, omega arith)

pub returns-then-text-self : goal.returns-then-text-self
returns-then-text-self c =
    let counted = count_even true c.args.text.now c.requires in
    puts_text c.args.self.now (string_bytes c.self.inside.string) c.args.text.now (string_bytes c.push_str.new.self) c.self.inside.more c.self.view_is c.if-self.false (omega arith) c.in_ok-push_str.ensures.bytes
