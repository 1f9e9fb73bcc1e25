use Rattle.std.proofs.Common.{◌∙◌, sym, subst, ap}
use Rattle.ax_record.specs.ObjectTrees.{IsObjectTree}
use Rattle.kept_tree.specs.Renewing.{TwoTrees}
use Rattle.kept_tree.proofs.Overlaying.{settled_is}
use Rattle.kept_tree.proofs.kept.RenewedTree.settle.Goals as goal

pub invariant_of-result : goal.invariant_of-result
invariant_of-result c =
    let t = c.self.inside in
    subst IsObjectTree (sym (settled_is _ _ t.kept t.fresh _ t.ids t.focus c.kept.view_is c.in_ok-records.ensures)) c.self.invariant.becomes

pub returns : goal.returns
returns c =
    let t = c.self.inside in
    settled_is _ _ t.kept t.fresh _ t.ids t.focus c.kept.view_is c.in_ok-records.ensures ∙ ap (λ (x : TwoTrees). x.after) c.self.view_is
