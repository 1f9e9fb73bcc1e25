-- How many ids there are after one is put in or taken out.
use Rattle.std.proofs.Common.{◌≡◌, ℕ, ◌+◌, ◌||◌, List, [], ◌∷◌, length, Bool, true, false, cond, refl, sym, ap, ◌∙◌, arith}
use Rattle.std.specs.declared.cmp.Ordering.{Ordering}
use Rattle.std.specs.declared.cmp.Ordering.TheVariants.{Less, Equal, Greater}
use Rattle.std.specs.List.{list_any}
use Rattle.std.specs.Ordering.{nat_cmp, match_ordering}
use Rattle.std.specs.FinMap.{nat_cmp-IsAntisymmetric}
use Rattle.std.specs.Set.{remove_key}
use Rattle.std.specs.BTreeMap.{is_at}
use Rattle.std.specs.BTreeSet.{insert_key}
use Rattle.std.proofs.lemmas.Bool.{false≢true}
use Rattle.ax_base.proofs.Lookups.{finds, finds_same}

-- a new id is one more
pub length-put : (k : ℕ) (ks : List ℕ) → list_any (is_at (nat_cmp k)) ks ≡ false → length ks + 1 ≡ length (insert_key nat_cmp ks k)
length-put k [] fresh = refl
length-put k (x ∷ xs) fresh = go (nat_cmp k x) refl (finds k x) refl fresh (length-put k xs)
  where
    go : (r : Ordering) → nat_cmp k x ≡ r → (b : Bool) → finds k x ≡ b → (b || list_any (is_at (nat_cmp k)) xs) ≡ false
        → (list_any (is_at (nat_cmp k)) xs ≡ false → length xs + 1 ≡ length (insert_key nat_cmp xs k))
        → length (x ∷ xs) + 1 ≡ length (match_ordering r (k ∷ x ∷ xs) (x ∷ xs) (x ∷ insert_key nat_cmp xs k))
    go r is true at gone rest = absurd (false≢true (sym gone))
    go Less is false at gone rest = omega arith
    go Equal is false at gone rest = absurd (false≢true (sym at ∙ finds_same k x (nat_cmp-IsAntisymmetric k x is)))
    go Greater is false at gone rest = let more = rest gone in omega arith

-- an id that is taken out was one
pub length-out : (test : ℕ → Bool) (ks : List ℕ) → list_any test ks ≡ true → length (remove_key test ks) + 1 ≡ length ks
length-out test [] there = absurd (false≢true there)
length-out test (x ∷ xs) there = go (test x) there (length-out test xs)
  where
    go : (b : Bool) → (b || list_any test xs) ≡ true → (list_any test xs ≡ true → length (remove_key test xs) + 1 ≡ length xs) → length (cond b xs (x ∷ remove_key test xs)) + 1 ≡ length (x ∷ xs)
    go true found rest = omega arith
    go false found rest = let more = rest found in omega arith

-- where none is found nothing is taken out
pub nothing_out : (test : ℕ → Bool) (ks : List ℕ) → list_any test ks ≡ false → ks ≡ remove_key test ks
nothing_out test [] off = refl
nothing_out test (x ∷ xs) off = go (test x) off (nothing_out test xs)
  where
    go : (b : Bool) → (b || list_any test xs) ≡ false → (list_any test xs ≡ false → xs ≡ remove_key test xs) → x ∷ xs ≡ cond b xs (x ∷ remove_key test xs)
    go true found rest = absurd (false≢true (sym found))
    go false found rest = ap (λ l. x ∷ l) (rest found)
