-- A list that is sorted, and then has each number once.
use Rattle.std.proofs.Common.{◌≡◌, ℕ, List, Contains, sym, subst, eqb}
use Rattle.std.specs.List.{dedup}
use Rattle.std.specs.List.Sorted.{IsPermutation, IsSorted, IsStrictlyIncreasing}
use Rattle.std.specs.Ordering.{nat_cmp}
use Rattle.std.proofs.lemmas.List.Kept.{Contains-dedup_nat, Contains-from_dedup}
use Rattle.std.proofs.lemmas.List.Sorted.{Contains-permutation, IsPermutation-sym}
use Rattle.std.proofs.lemmas.Map.Keys.{IsStrictlyIncreasing-dedup}
use Rattle.tree_diff.specs.Candidates.{IsSortedFrom}

pub sorted_from : (xs ys zs : List ℕ) → IsPermutation xs ys → IsSorted nat_cmp ys → zs ≡ dedup eqb ys → IsSortedFrom xs zs
sorted_from xs ys zs moved sorted is = record {
  rising = subst IsStrictlyIncreasing (sym is) (IsStrictlyIncreasing-dedup ys sorted);
  all = λ n inside. subst (λ l. Contains l n) (sym is) (Contains-dedup_nat ys n (Contains-permutation xs ys n moved inside));
  only = λ n inside. Contains-permutation ys xs n (IsPermutation-sym xs ys moved) (Contains-from_dedup eqb ys n (subst (λ l. Contains l n) is inside));
}
