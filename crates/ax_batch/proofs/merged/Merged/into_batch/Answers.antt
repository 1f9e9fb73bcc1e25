use Rattle.std.proofs.Common.{◌++◌, ap, ◌∙◌}
use Rattle.std.specs.Map.{keys_of}
use Rattle.ax_batch.proofs.Splitting.{sorted_keys}
use Rattle.ax_batch.proofs.merged.Merged.into_batch.Goals as goal

pub move_all-requires-clause-keys : goal.move_all-requires-clause-keys
move_all-requires-clause-keys c =
    sorted_keys c.self.inside.fates.entries c.into_vec-ids.result.items c.sort_unstable.new.self.items c.list_keys.ensures.unique
    (c.into_vec-ids.ensures ∙ c.list_keys.ensures.keys ∙ ap (λ l. l ++ keys_of c.self.inside.fates.entries) c.self.invariant.0.none.0)
    c.sort_unstable.ensures.permutation c.sort_unstable.ensures.sorted
