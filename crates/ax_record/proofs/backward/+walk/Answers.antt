use Rattle.std.proofs.Common.{◌-◌, length, take, length-take, sym, ◌∙◌, arith}
use Rattle.std.proofs.lemmas.Result.{IfOk-weaker}
use Rattle.ax_record.specs.Orders.{wanted_at, back_within}
use Rattle.ax_record.proofs.Found.{none_back, back_in_kids, back_wanted, back_unwanted, below_none, below_some}
use Rattle.ax_record.proofs.Joined.{ends_with, none_of, last_here, last_later}
use Rattle.ax_record.proofs.backward.+walk.Goals as goal

pub last_among-loop-left-preserved : goal.last_among-loop-left-preserved
last_among-loop-left-preserved g t c = (
  c.loop-left.invariant.0 ∙ last_later (wanted_at (g.T.TreeView.tree c.args.tree.now) (g.W.Wanted.wants c.args.wanted.now)) (back_within (g.T.TreeView.tree c.args.tree.now) c.args.levels)
      c.loop-left.left.now (take (length c.loop-left.left.now - 1) c.loop-left.left.now) c.id-item.result (ends_with c.loop-left.left.now (length c.loop-left.left.now - 1) c.id-item.result (omega arith) (sym c.id-item.is))
      (sym c.in_default-2.is ∙ c.in_ok-found.ensures.found),
  grind (arith, length-take),
)

pub last_among-returns-in-Some : goal.last_among-returns-in-Some
last_among-returns-in-Some g t c =
    last_here (wanted_at (g.T.TreeView.tree c.args.tree.now) (g.W.Wanted.wants c.args.wanted.now)) (back_within (g.T.TreeView.tree c.args.tree.now) c.args.levels)
    c.loop-left.left.now (take (length c.loop-left.left.now - 1) c.loop-left.left.now) c.id-item.result c.in-Some.found (ends_with c.loop-left.left.now (length c.loop-left.left.now - 1) c.id-item.result (omega arith) (sym c.id-item.is))
    (sym c.in-Some.is ∙ c.in_ok-found.ensures.found) ∙ sym c.loop-left.invariant.0

pub last_among-returns : goal.last_among-returns
last_among-returns g t c =
    none_of (wanted_at (g.T.TreeView.tree c.args.tree.now) (g.W.Wanted.wants c.args.wanted.now)) (back_within (g.T.TreeView.tree c.args.tree.now) c.args.levels) c.loop-left.left.now (omega arith) ∙ sym c.loop-left.invariant.0

pub last_below-returns-then-levels-eq0 : goal.last_below-returns-then-levels-eq0
last_below-returns-then-levels-eq0 g t c =
    below_none (g.T.TreeView.tree c.args.tree.now) (g.W.Wanted.wants c.args.wanted.now) c.args.levels c.args.ids.now c.if-levels-eq0.true

pub last_below-returns : goal.last_below-returns
last_below-returns g t c =
    IfOk-weaker c.last_among.result _ _ (λ found got. below_some (g.T.TreeView.tree c.args.tree.now) (g.W.Wanted.wants c.args.wanted.now) c.args.levels c.args.ids.now found _ (omega arith) got) c.last_among.ensures

pub last_within-returns-in_default-clause-found : goal.last_within-returns-in_default-clause-found
last_within-returns-in_default-clause-found g t c = none_back (g.T.TreeView.tree c.args.tree.now) (g.W.Wanted.wants c.args.wanted.now) c.args.levels c.args.id c.in_default.ensures.value

pub last_within-returns-in-Some-2-clause-found : goal.last_within-returns-in-Some-2-clause-found
last_within-returns-in-Some-2-clause-found g t c =
    back_in_kids (g.T.TreeView.tree c.args.tree.now) (g.W.Wanted.wants c.args.wanted.now) c.args.levels c.args.id c.in-Some-2.found c.in-Some.object.now c.as_slice.result.now
    c.in-Some.ensures.value c.as_slice.ensures (sym c.in-Some-2.is ∙ c.in_ok-found.ensures)

pub last_within-returns-then-branch-clause-found : goal.last_within-returns-then-branch-clause-found
last_within-returns-then-branch-clause-found g t c =
    back_wanted (g.T.TreeView.tree c.args.tree.now) (g.W.Wanted.wants c.args.wanted.now) c.args.levels c.args.id c.in-Some.object.now c.as_slice.result.now c.in_ok-is_wanted.field-0
    c.in-Some.ensures.value c.as_slice.ensures (sym c.in_default-2.is ∙ c.in_ok-found.ensures) c.in_ok-is_wanted.ensures c.if-branch.true

pub last_within-returns-clause-found : goal.last_within-returns-clause-found
last_within-returns-clause-found g t c =
    back_unwanted (g.T.TreeView.tree c.args.tree.now) (g.W.Wanted.wants c.args.wanted.now) c.args.levels c.args.id c.in-Some.object.now c.as_slice.result.now c.in_ok-is_wanted.field-0
    c.in-Some.ensures.value c.as_slice.ensures (sym c.in_default-2.is ∙ c.in_ok-found.ensures) c.in_ok-is_wanted.ensures c.if-branch.false

pub last_within-is_wanted-requires : goal.last_within-is_wanted-requires
last_within-is_wanted-requires g t c = c.in-Some.ensures.is_tree.within c.args.id c.in-Some.object.now (sym c.in-Some.ensures.value)
