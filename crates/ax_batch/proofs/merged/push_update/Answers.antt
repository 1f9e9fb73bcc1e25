use Rattle.std.proofs.Common.{◌++◌, ◌∷◌, [], Some, sym, ap, ◌∙◌}
use Rattle.ax_batch.specs.Rising.{by_rising}
use Rattle.ax_batch.specs.Fates.{joint_fate, fate_at}
use Rattle.ax_batch.proofs.Orders.{finds_alike}
use Rattle.ax_batch.proofs.merged.push_update.Goals as goal

pub returns : goal.returns
returns c =
    let found = c.get.ensures.value ∙ sym (finds_alike c.number-key.result c.args.fates.now.entries) ∙ ap (fate_at (by_rising c.args.fates.now.entries)) c.number-key.ensures in
    let next = c.in_ok-next.ensures ∙ ap (λ o. joint_fate o (Some c.args.fate)) found in
    c.in_ok-push.ensures.items ∙ (λ i. c.args.updates.now.items ++ (c.number-key.ensures i, next i) ∷ [])
