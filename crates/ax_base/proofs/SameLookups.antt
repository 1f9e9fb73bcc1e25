-- Lists of entries by rising keys, in which the same is found.
use Rattle.std.proofs.Common.{T, ◌≡◌, ℕ, Bool, true, false, cond, ◌&&◌, List, [], ◌∷◌, Some, refl, sym, ap, ◌∙◌}
use Rattle.std.specs.List.{AllByRecursion}
use Rattle.std.specs.List.Sorted.{IsStrictlySortedBy, IsStrictlyIncreasing}
use Rattle.std.specs.declared.cmp.Ordering.TheVariants.{Less}
use Rattle.std.specs.Ordering.{nat_cmp}
use Rattle.std.specs.Cmp.{nat_cmp_total}
use Rattle.std.specs.Map.{lookup, keys_of}
use Rattle.std.specs.BTreeMap.{is_at}
use Rattle.std.specs.FinMap.Entries.{find, is_sorted, below_all, same_entries}
use Rattle.std.proofs.lemmas.Map.Keys.{sorted_from_strictly_increasing}
use Rattle.std.proofs.lemmas.Map.Lookups.{exact_unsigned}

found_alike : {X : Type 0} (q : ℕ) (es : List (ℕ × X)) → find nat_cmp q es ≡ lookup (is_at (nat_cmp q)) es
found_alike q [] = refl
found_alike q (e ∷ es) = ap (λ o. cond (is_at (nat_cmp q) e.0) (Some e.1) o) (found_alike q es)

below_each : {X : Type 0} (k : ℕ) (es : List (ℕ × X)) → AllByRecursion (λ y. nat_cmp k y ≡ Less) (keys_of es) → T (below_all nat_cmp k es)
below_each k [] all = tt
below_each k (e ∷ es) all = rw all.0 (below_each k es all.1)

rising_is : {X : Type 0} (es : List (ℕ × X)) → IsStrictlySortedBy nat_cmp (keys_of es) → T (is_sorted nat_cmp es)
unfolding IsStrictlySortedBy
rising_is [] sorted = tt
rising_is (e ∷ es) sorted = both (below_all nat_cmp e.0 es) (is_sorted nat_cmp es) (below_each e.0 es sorted.0) (rising_is es sorted.1)
  where
    both : (a b : Bool) → T a → T b → T (a && b)
    both true b p q = q
    both false b p q = p

-- two such lists are equal
pub same_lookups : {X : Type 0} (es fs : List (ℕ × X)) → IsStrictlyIncreasing (keys_of es) → IsStrictlyIncreasing (keys_of fs)
    → ((q : ℕ) → lookup (is_at (nat_cmp q)) es ≡ lookup (is_at (nat_cmp q)) fs) → es ≡ fs
same_lookups es fs rises climbs same =
    same_entries nat_cmp nat_cmp_total exact_unsigned es fs (rising_is es (sorted_from_strictly_increasing (keys_of es) rises)) (rising_is fs (sorted_from_strictly_increasing (keys_of fs) climbs)) (λ q. found_alike q es ∙ same q ∙ sym (found_alike q fs))
