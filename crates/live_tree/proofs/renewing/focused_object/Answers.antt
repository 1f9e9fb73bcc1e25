use Rattle.std.proofs.Common.{◌≡◌, ◌∙◌, false, true, Some, ap, sym, arith}
use Rattle.std.specs.Prelude.{find}
use Rattle.std.specs.Option.{option_and_then}
use Rattle.ax_base.specs.Document.{lineage}
use Rattle.ax_record.specs.Records.{is_object}
use Rattle.ax_fresh.proofs.Above.{parent_higher, find_above, find_top, find_here}
use Rattle.live_tree.proofs.Counting.{focus_few}
use Rattle.live_tree.proofs.renewing.focused_object.Goals as goal

pub returns-in_err-at-2-clause-value : goal.returns-in_err-at-2-clause-value
returns-in_err-at-2-clause-value g c =
    let d = c.args.dom.now in
    let off : is_object d c.up.at ≡ false = sym c.is_object.ensures ∙ c.up-test.true in
    c.from_residual-in_err-at-2.ensures ∙ sym (find_top d (is_object d) c.up.at (sym c.in_err-at-2.ensures.value) off) ∙ c.up.invariant.value

pub up-smaller : goal.up-smaller
up-smaller g c = parent_higher c.args.dom.now c.requires.tree c.up.at c.in_ok-at-2.at (sym c.in_ok-at-2.ensures.value)

pub up-preserved : goal.up-preserved
up-preserved g c =
    let d = c.args.dom.now in
    let off : is_object d c.up.at ≡ false = sym c.is_object.ensures ∙ c.up-test.true in
    let higher = parent_higher d c.requires.tree c.up.at c.in_ok-at-2.at (sym c.in_ok-at-2.ensures.value) in
    let before = c.up.invariant.counted in
    let second = c.in_ok-at-2.ensures.counted in
    record {
      value = sym (find_above d c.requires.tree (is_object d) c.up.at c.in_ok-at-2.at (sym c.in_ok-at-2.ensures.value) off) ∙ c.up.invariant.value;
      counted = omega arith;
    }

pub returns-clause-value : goal.returns-clause-value
returns-clause-value g c =
    let d = c.args.dom.now in
    let on : is_object d c.up.at ≡ true = sym c.is_object.ensures ∙ c.up-test.false in
    sym (find_here d (is_object d) c.up.at on) ∙ c.up.invariant.value

pub up-init : goal.up-init
up-init g c =
    let d = c.args.dom.now in
    let at = c.in_ok-at.at in
    let is : d.focus ≡ Some at = sym c.in_ok-at.ensures in
    let few = focus_few d c.requires.tree c.args.nodes.now c.requires.closed at (c.requires.tree.focused at is) (c.requires.focus at is) in
    record { value = sym (ap (option_and_then (λ n. find (is_object d) (lineage d n))) is); counted = omega arith }
