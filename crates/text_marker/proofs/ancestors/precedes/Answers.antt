use Rattle.std.proofs.Common.{sym, ◌∙◌}
use Rattle.std.proofs.lemmas.Bool.{eqb-true}
use Rattle.text_marker.proofs.Climbing.{are_lifted, one_there, other_there, level, one_above, as_above}
use Rattle.text_marker.proofs.ancestors.precedes.Goals as goal

pub returns-then-eq-clause-order : goal.returns-then-eq-clause-order
returns-then-eq-clause-order g c =
    one_above (g.T.TreeView.tree c.args.t.now) c.depth-from_a.ensures.is_tree c.args.a c.args.b c.depth-from_a.result c.depth-from_b.result c.ancestor-one.result c.ancestor-other.result
    (are_lifted (g.T.TreeView.tree c.args.t.now) c.depth-from_a.ensures.is_tree c.args.a c.args.b c.depth-from_a.result c.depth-from_b.result c.saturating_sub.result c.saturating_sub-2.result c.ancestor-one.result c.ancestor-other.result
    c.requires.a_known c.requires.b_known c.depth-from_a.ensures.deep c.depth-from_b.ensures.deep c.saturating_sub.ensures c.saturating_sub-2.ensures c.ancestor-one.ensures c.ancestor-other.ensures) (eqb-true c.ancestor-one.result c.ancestor-other.result (sym c.eq.ensures ∙ c.if-eq.true))

pub precedes_beside-requires-clause-one_known : goal.precedes_beside-requires-clause-one_known
precedes_beside-requires-clause-one_known g c =
    one_there (g.T.TreeView.tree c.args.t.now) c.depth-from_a.ensures.is_tree c.args.a c.args.b c.depth-from_a.result c.depth-from_b.result c.ancestor-one.result c.ancestor-other.result
    (are_lifted (g.T.TreeView.tree c.args.t.now) c.depth-from_a.ensures.is_tree c.args.a c.args.b c.depth-from_a.result c.depth-from_b.result c.saturating_sub.result c.saturating_sub-2.result c.ancestor-one.result c.ancestor-other.result
    c.requires.a_known c.requires.b_known c.depth-from_a.ensures.deep c.depth-from_b.ensures.deep c.saturating_sub.ensures c.saturating_sub-2.ensures c.ancestor-one.ensures c.ancestor-other.ensures)

pub precedes_beside-requires-clause-other_known : goal.precedes_beside-requires-clause-other_known
precedes_beside-requires-clause-other_known g c =
    other_there (g.T.TreeView.tree c.args.t.now) c.depth-from_a.ensures.is_tree c.args.a c.args.b c.depth-from_a.result c.depth-from_b.result c.ancestor-one.result c.ancestor-other.result
    (are_lifted (g.T.TreeView.tree c.args.t.now) c.depth-from_a.ensures.is_tree c.args.a c.args.b c.depth-from_a.result c.depth-from_b.result c.saturating_sub.result c.saturating_sub-2.result c.ancestor-one.result c.ancestor-other.result
    c.requires.a_known c.requires.b_known c.depth-from_a.ensures.deep c.depth-from_b.ensures.deep c.saturating_sub.ensures c.saturating_sub-2.ensures c.ancestor-one.ensures c.ancestor-other.ensures)

pub precedes_beside-requires-clause-level : goal.precedes_beside-requires-clause-level
precedes_beside-requires-clause-level g c =
    level (g.T.TreeView.tree c.args.t.now) c.depth-from_a.ensures.is_tree c.args.a c.args.b c.depth-from_a.result c.depth-from_b.result c.ancestor-one.result c.ancestor-other.result
    (are_lifted (g.T.TreeView.tree c.args.t.now) c.depth-from_a.ensures.is_tree c.args.a c.args.b c.depth-from_a.result c.depth-from_b.result c.saturating_sub.result c.saturating_sub-2.result c.ancestor-one.result c.ancestor-other.result
    c.requires.a_known c.requires.b_known c.depth-from_a.ensures.deep c.depth-from_b.ensures.deep c.saturating_sub.ensures c.saturating_sub-2.ensures c.ancestor-one.ensures c.ancestor-other.ensures)

pub returns-clause-order : goal.returns-clause-order
returns-clause-order g c =
    as_above (g.T.TreeView.tree c.args.t.now) c.depth-from_a.ensures.is_tree c.args.a c.args.b c.depth-from_a.result c.depth-from_b.result c.ancestor-one.result c.ancestor-other.result
    (are_lifted (g.T.TreeView.tree c.args.t.now) c.depth-from_a.ensures.is_tree c.args.a c.args.b c.depth-from_a.result c.depth-from_b.result c.saturating_sub.result c.saturating_sub-2.result c.ancestor-one.result c.ancestor-other.result
    c.requires.a_known c.requires.b_known c.depth-from_a.ensures.deep c.depth-from_b.ensures.deep c.saturating_sub.ensures c.saturating_sub-2.ensures c.ancestor-one.ensures c.ancestor-other.ensures) c.precedes_beside.result (sym c.eq.ensures ∙ c.if-eq.false) c.precedes_beside.ensures
