use Rattle.std.proofs.Common.{◌∙◌, sym, string_bytes}
use Rattle.std.proofs.lemmas.Iterator.{YieldsList-from_chars}
use Rattle.std.proofs.lemmas.Iterator.Consumers.{YieldsList-end}
use Rattle.ax_base.proofs.Flattening.{flattened, flat_white, flat_ink}
use Rattle.ax_base.proofs.white.flat.Goals as goal

pub loop-c-preserved-then-is_ascii_whitespace : goal.loop-c-preserved-then-is_ascii_whitespace
loop-c-preserved-then-is_ascii_whitespace c = flat_white _ c.loop-c.yielded c.loop-c.apart c.in-Some.c c.loop-c.invariant (sym c.is_ascii_whitespace.ensures.value ∙ c.if-is_ascii_whitespace.true)

pub loop-c-preserved : goal.loop-c-preserved
loop-c-preserved c =
    flat_ink (string_bytes c.loop-c.out) (string_bytes c.push_gap.new.out) _ c.loop-c.yielded c.loop-c.apart c.in-Some.c c.loop-c.invariant (sym c.is_ascii_whitespace.ensures.value ∙ c.if-is_ascii_whitespace.false)
    c.in_ok-push_gap.ensures c.in_ok-push.ensures.bytes

pub returns : goal.returns
returns c =
    let whole = YieldsList-end (YieldsList-from_chars c.args.text.now c.utf8.text cc) c.loop-c.yielded _ c.loop-c.yielded_by _ _ c.in-None.is c.next.ensures.steps in
    c.from_string.ensures ∙ flattened c.args.text.now _ c.loop-c.yielded _ c.utf8.text c.loop-c.invariant whole.0
