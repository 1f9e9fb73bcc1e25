use Rattle.std.proofs.Common.{string_bytes, chars, drop, take, arith, sym, append-nil}
use Rattle.std.proofs.lemmas.Iterator.{YieldsList-from_chars, YieldsList-from_take}
use Rattle.std.proofs.lemmas.Iterator.Adapters.{YieldsList-from_skip}
use Rattle.std.proofs.lemmas.Iterator.Consumers.{YieldsList-end, YieldsList-turn}
use Rattle.text_marker.proofs.Pushing.{cut_more, cut_all, cut_long}
use Rattle.text_marker.proofs.contents.push_cut.Goals as goal

pub loop-c-init : goal.loop-c-init
loop-c-init c = (sym (append-nil (string_bytes c.args.out.now)), omega arith)

pub returns-then-left-eq0 : goal.returns-then-left-eq0
returns-then-left-eq0 c =
    let turn = YieldsList-turn (YieldsList-from_skip c.args.low (YieldsList-from_take c.args.high (YieldsList-from_chars c.args.text.now c.utf8.text cc) cc) cc) c.loop-c.yielded _ c.loop-c.yielded_by _ _ c.in-Some.c c.in-Some.is c.next.ensures.steps in
    cut_long (drop c.args.low (take c.args.high (chars c.args.text.now))) c.loop-c.yielded c.loop-c.left c.args.left c.loop-c.invariant.1 c.if-left-eq0.true turn.0

pub loop-c-preserved : goal.loop-c-preserved
loop-c-preserved c =
    cut_more (string_bytes c.args.out.now) (string_bytes c.loop-c.out) (string_bytes c.push.new.self) c.loop-c.yielded c.in-Some.c c.loop-c.left c.args.left c.loop-c.invariant.0 c.loop-c.invariant.1 (omega (arith, c.if-left-eq0.false)) c.in-Ok.ensures.bytes

pub returns : goal.returns
returns c =
    let whole = YieldsList-end (YieldsList-from_skip c.args.low (YieldsList-from_take c.args.high (YieldsList-from_chars c.args.text.now c.utf8.text cc) cc) cc) c.loop-c.yielded _ c.loop-c.yielded_by _ _ c.in-None.is c.next.ensures.steps in
    cut_all (string_bytes c.args.out.now) (string_bytes c.loop-c.out) c.loop-c.yielded (drop c.args.low (take c.args.high (chars c.args.text.now))) c.loop-c.left c.args.left c.loop-c.invariant.0 c.loop-c.invariant.1 whole.0
