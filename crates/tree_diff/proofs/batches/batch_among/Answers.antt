use Rattle.std.proofs.Common.{◌∙◌}
use Rattle.tree_diff.proofs.Among.{batch_made}
use Rattle.tree_diff.proofs.batches.batch_among.Goals as goal

pub returns : goal.returns
returns g c =
    (λ i. record { added = c.in_ok-push_differing.ensures.added i; changed = c.in_ok-push_differing.ensures.changed i; removed = c.in_ok-push_differing.ensures.removed i; focus = (c.in_ok-push_differing.ensures.focus ∙ c.focus_change-focus.ensures) i })
    ∙ batch_made (g.A.TreeView.tree c.args.a.now) (g.B.TreeView.tree c.args.b.now) c.find-from.ensures.is_tree c.find-to.ensures.is_tree c.args.ids.now c.requires _ _ _ _ _
    c.new.ensures c.new-2.ensures c.new-3.ensures c.focus.ensures c.focus-2.ensures
