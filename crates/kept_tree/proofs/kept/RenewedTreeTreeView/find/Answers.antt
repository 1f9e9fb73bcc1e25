use Rattle.std.proofs.Common.{◌∙◌, ap}
use Rattle.ax_record.specs.Tree.{record_at}
use Rattle.kept_tree.specs.Renewing.{TwoTrees}
use Rattle.kept_tree.proofs.Overlaying.{found_fresh, found_kept}
use Rattle.kept_tree.proofs.kept.RenewedTreeTreeView.find.Goals as goal

pub returns-then-is_among-clause-value : goal.returns-then-is_among-clause-value
returns-then-is_among-clause-value c =
    let t = c.self.inside in
    found_fresh t.kept t.fresh t.ids t.focus c.self.invariant c.as_slice.result.now c.args.id _ c.as_slice.ensures c.if-is_among.ensures c.find.ensures
    ∙ ap (λ (x : TwoTrees). record_at x.after c.args.id) c.self.view_is

pub returns-clause-value : goal.returns-clause-value
returns-clause-value c =
    let t = c.self.inside in
    found_kept t.kept t.fresh t.ids t.focus c.self.invariant c.as_slice.result.now c.args.id _ c.as_slice.ensures c.if-is_among.ensures c.find-2.ensures.value
    ∙ ap (λ (x : TwoTrees). record_at x.after c.args.id) c.self.view_is
