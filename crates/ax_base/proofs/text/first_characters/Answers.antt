use Rattle.std.proofs.lemmas.Iterator.{YieldsList-from_chars, YieldsList-from_take}
use Rattle.std.proofs.lemmas.Iterator.Consumers.{YieldsList-end}
use Rattle.ax_base.proofs.CutCharacters.{copied_front, encodes-push}
use Rattle.ax_base.proofs.text.first_characters.Goals as goal

pub loop-c-preserved : goal.loop-c-preserved
loop-c-preserved c = encodes-push c.loop-c.yielded c.in-Some.c _ _ c.loop-c.invariant c.in_ok-push.ensures.bytes

pub returns : goal.returns
returns c =
    let whole = YieldsList-end (YieldsList-from_take 512 (YieldsList-from_chars c.args.text.now c.utf8.text cc) cc) c.loop-c.yielded _ c.loop-c.yielded_by _ _ c.in-None.is c.next.ensures.steps in
    copied_front 512 c.args.text.now _ c.loop-c.yielded c.utf8.text c.loop-c.invariant whole.0
