-- Lists in which an id is looked for.
use Rattle.std.proofs.Common.{◌≡◌, ℕ, zero, suc, ◌+◌, ◌-◌, ◌<◌, ◌≤◌, ◌||◌, ◌==◌, List, [], ◌∷◌, Bool, false, cond, not, length, take, drop, filter, refl, sym, ap, ◌∙◌, arith, eqb}
use Rattle.std.specs.Prelude.{slice_index}
use Rattle.std.specs.List.{list_any, remove}
use Rattle.std.proofs.Math.Seq.{take-add}
use Rattle.std.proofs.lemmas.Bool.{eq-eqb, or_parts}
use Rattle.std.proofs.lemmas.List.Folds.{list_any-append}

-- none before a place, and none from there to another
pub none_before : (p : ℕ → Bool) (xs : List ℕ) (i past : ℕ) → i ≤ past → list_any p (take i xs) ≡ false → list_any p (take (past - i) (drop i xs)) ≡ false → list_any p (take past xs) ≡ false
none_before p xs i past low before between =
    ap (λ n. list_any p (take n xs)) whole ∙ ap (list_any p) (take-add i (past - i) xs) ∙ list_any-append p (take i xs) (take (past - i) (drop i xs)) ∙ (λ j. before j || between j)
  where
    whole : past ≡ i + (past - i)
    whole = omega arith

-- without what is not there
pub none_goes : (n : ℕ) (xs : List ℕ) → list_any (λ x. x == n) xs ≡ false → filter (λ x. not (x == n)) xs ≡ xs
none_goes n [] none = refl
none_goes n (x ∷ xs) none =
    let parts = or_parts (eqb x n) (list_any (λ x. x == n) xs) none in
    ap (λ b. cond (not b) (x ∷ filter (λ x. not (x == n)) xs) (filter (λ x. not (x == n)) xs)) parts.0 ∙ ap (λ l. x ∷ l) (none_goes n xs parts.1)

-- one fewer of those that go
pub one_fewer : (n : ℕ) (xs : List ℕ) (i : ℕ) → i < length xs → slice_index xs i ≡ n → filter (λ x. not (x == n)) (remove xs i) ≡ filter (λ x. not (x == n)) xs
one_fewer n [] i low is = absurd (omega arith)
one_fewer n (x ∷ xs) zero low is = sym (ap (λ b. cond (not b) (x ∷ filter (λ x. not (x == n)) xs) (filter (λ x. not (x == n)) xs)) (eq-eqb x n is))
one_fewer n (x ∷ xs) (suc i) low is = ap (λ l. cond (not (eqb x n)) (x ∷ l) l) (one_fewer n xs i (omega arith) is)

-- what is taken out leaves the ids before it
pub front_stays : (xs : List ℕ) (i : ℕ) → i < length xs → take i (remove xs i) ≡ take i xs
front_stays [] i low = absurd (omega arith)
front_stays (x ∷ xs) zero low = refl
front_stays (x ∷ xs) (suc i) low = ap (λ l. x ∷ l) (front_stays xs i (omega arith))
