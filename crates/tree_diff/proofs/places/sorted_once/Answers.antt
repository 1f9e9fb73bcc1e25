use Rattle.std.proofs.Common.{◌∙◌, eqb, subst}
use Rattle.std.proofs.lemmas.List.Filters.{dedup_is}
use Rattle.std.specs.List.Sorted.{IsPermutation}
use Rattle.tree_diff.proofs.Sorting.{sorted_from}
use Rattle.tree_diff.proofs.places.sorted_once.Goals as goal

pub returns : goal.returns
returns c = sorted_from c.args.ids c.sort_unstable.new.self.items c.from_vec.result (subst (λ l. IsPermutation l c.sort_unstable.new.self.items) c.into_vec-ids.ensures c.sort_unstable.ensures.permutation) c.sort_unstable.ensures.sorted
    (c.from_vec.ensures ∙ dedup_is eqb c.sort_unstable.new.self.items c.dedup.new.self.items c.dedup.ensures.filtered)
