use Rattle.std.proofs.Common.{sym, ◌∙◌, refl}
use Rattle.text_marker.proofs.Climbing.{parent_known, climbs, uneven, both_top, parents_level, parents_order, kids_tell}
use Rattle.text_marker.proofs.ancestors.precedes_beside.Goals as goal

pub loop-parent-init : goal.loop-parent-init
loop-parent-init g c = (c.requires.one_known, c.requires.other_known, c.requires.level, c.requires.apart, refl)

pub returns-in_default-parent_of : goal.returns-in_default-parent_of
returns-in_default-parent_of g c =
    absurd (uneven (g.T.TreeView.tree c.args.t.now) c.parent_of.ensures.is_tree c.loop-parent.left c.loop-parent.right c.in-Some.parent c.loop-parent.invariant.0 c.loop-parent.invariant.2 c.in-Some.ensures.value c.in_default-parent_of.ensures.value)

pub returns-then-eq : goal.returns-then-eq
returns-then-eq g c =
    kids_tell (g.T.TreeView.tree c.args.t.now) c.parent_of.ensures.is_tree c.loop-parent.left c.loop-parent.right c.in-Some.parent c.in-Some-parent_of.beside c.is_earlier_kid.result
    c.loop-parent.invariant.0 c.loop-parent.invariant.1 c.loop-parent.invariant.3 c.in-Some.ensures.value c.in-Some-parent_of.ensures.value (sym c.eq.ensures ∙ c.if-eq.true) c.is_earlier_kid.ensures
    ∙ sym c.loop-parent.invariant.4

pub loop-parent-smaller : goal.loop-parent-smaller
loop-parent-smaller g c = climbs (g.T.TreeView.tree c.args.t.now) c.parent_of.ensures.is_tree c.loop-parent.left c.in-Some.parent c.loop-parent.invariant.0 c.in-Some.ensures.value

pub loop-parent-preserved : goal.loop-parent-preserved
loop-parent-preserved g c = (
  parent_known (g.T.TreeView.tree c.args.t.now) c.parent_of.ensures.is_tree c.loop-parent.left c.in-Some.parent c.loop-parent.invariant.0 c.in-Some.ensures.value,
  parent_known (g.T.TreeView.tree c.args.t.now) c.parent_of.ensures.is_tree c.loop-parent.right c.in-Some-parent_of.beside c.loop-parent.invariant.1 c.in-Some-parent_of.ensures.value,
  parents_level (g.T.TreeView.tree c.args.t.now) c.parent_of.ensures.is_tree c.loop-parent.left c.loop-parent.right c.in-Some.parent c.in-Some-parent_of.beside
      c.loop-parent.invariant.0 c.loop-parent.invariant.1 c.loop-parent.invariant.2 c.in-Some.ensures.value c.in-Some-parent_of.ensures.value,
  sym c.eq.ensures ∙ c.if-eq.false,
  c.loop-parent.invariant.4 ∙ parents_order (g.T.TreeView.tree c.args.t.now) c.parent_of.ensures.is_tree c.loop-parent.left c.loop-parent.right c.in-Some.parent c.in-Some-parent_of.beside
      c.loop-parent.invariant.0 c.loop-parent.invariant.1 c.loop-parent.invariant.2 c.in-Some.ensures.value c.in-Some-parent_of.ensures.value (sym c.eq.ensures ∙ c.if-eq.false),
)

pub returns : goal.returns
returns g c = absurd (both_top (g.T.TreeView.tree c.args.t.now) c.parent_of.ensures.is_tree c.loop-parent.left c.loop-parent.right c.loop-parent.invariant.0 c.loop-parent.invariant.1 c.loop-parent.invariant.2 c.loop-parent.invariant.3 c.in_default.ensures.value)
