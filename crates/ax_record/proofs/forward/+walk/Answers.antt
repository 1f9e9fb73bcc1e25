use Rattle.std.proofs.Common.{sym, ◌∙◌, refl, arith}
use Rattle.std.proofs.lemmas.Result.{IfOk-weaker}
use Rattle.ax_record.specs.Tree.{objects_within}
use Rattle.ax_record.specs.Orders.{wanted_at}
use Rattle.ax_record.proofs.Found.{none_there, wanted_itself, lowest_unwanted, among_kids}
use Rattle.ax_record.proofs.Joined.{first_here, none_more, none_of_all}
use Rattle.ax_record.proofs.forward.+walk.Goals as goal

pub first_among-loop-id-init : goal.first_among-loop-id-init
first_among-loop-id-init g t c = refl

pub first_among-returns-in-Some : goal.first_among-returns-in-Some
first_among-returns-in-Some g t c =
    first_here (wanted_at (g.T.TreeView.tree c.args.tree.now) (g.W.Wanted.wants c.args.wanted.now)) (objects_within (g.T.TreeView.tree c.args.tree.now) c.args.levels)
    c.args.ids.now c.loop-id.id-index c.id-item.result c.in-Some.found (omega arith) (sym c.id-item.is) c.loop-id.invariant (sym c.in-Some.is ∙ c.in_ok-found.ensures.found)

pub first_among-loop-id-preserved : goal.first_among-loop-id-preserved
first_among-loop-id-preserved g t c =
    none_more (wanted_at (g.T.TreeView.tree c.args.tree.now) (g.W.Wanted.wants c.args.wanted.now)) (objects_within (g.T.TreeView.tree c.args.tree.now) c.args.levels)
    c.args.ids.now c.loop-id.id-index _ c.id-item.result (omega arith) (omega arith) (sym c.id-item.is) c.loop-id.invariant (sym c.in_default.is ∙ c.in_ok-found.ensures.found)

pub first_among-returns : goal.first_among-returns
first_among-returns g t c =
    none_of_all (wanted_at (g.T.TreeView.tree c.args.tree.now) (g.W.Wanted.wants c.args.wanted.now)) (objects_within (g.T.TreeView.tree c.args.tree.now) c.args.levels)
    c.args.ids.now c.loop-id.id-index (omega arith) c.loop-id.invariant

pub first_within-returns-in_default-clause-found : goal.first_within-returns-in_default-clause-found
first_within-returns-in_default-clause-found g t c = none_there (g.T.TreeView.tree c.args.tree.now) (g.W.Wanted.wants c.args.wanted.now) c.args.levels c.args.id c.in_default.ensures.value

pub first_within-returns-then-branch-clause-found : goal.first_within-returns-then-branch-clause-found
first_within-returns-then-branch-clause-found g t c =
    wanted_itself (g.T.TreeView.tree c.args.tree.now) (g.W.Wanted.wants c.args.wanted.now) c.args.levels c.args.id c.in-Some.object.now c.in_ok-is_wanted.field-0
    c.in-Some.ensures.value c.in_ok-is_wanted.ensures c.if-branch.true

pub first_within-returns-then-levels-eq0-clause-found : goal.first_within-returns-then-levels-eq0-clause-found
first_within-returns-then-levels-eq0-clause-found g t c =
    lowest_unwanted (g.T.TreeView.tree c.args.tree.now) (g.W.Wanted.wants c.args.wanted.now) c.args.levels c.args.id c.in-Some.object.now c.in_ok-is_wanted.field-0
    c.in-Some.ensures.value c.in_ok-is_wanted.ensures c.if-branch.false c.if-levels-eq0.true

pub first_within-returns-clause-found : goal.first_within-returns-clause-found
first_within-returns-clause-found g t c =
    IfOk-weaker c.first_among.result _ _ (λ found got. among_kids (g.T.TreeView.tree c.args.tree.now) (g.W.Wanted.wants c.args.wanted.now) c.args.levels c.args.id c.in-Some.object.now c.in_ok-is_wanted.field-0
    c.as_slice.result.now found _ c.in-Some.ensures.value c.in_ok-is_wanted.ensures c.if-branch.false (omega arith) c.as_slice.ensures got) c.first_among.ensures

pub first_within-is_wanted-requires : goal.first_within-is_wanted-requires
first_within-is_wanted-requires g t c = c.in-Some.ensures.is_tree.within c.args.id c.in-Some.object.now (sym c.in-Some.ensures.value)
