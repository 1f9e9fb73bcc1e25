-- Which of two comes first in a list.
use Rattle.std.proofs.Common.{◌≡◌, ℕ, ◌<◌, List, [], ◌∷◌, ◌++◌, length, filter, Contains, Bool, true, false, cond, eqb, refl, sym, ap, ◌∙◌, arith, inl, inr}
use Rattle.std.proofs.lemmas.Bool.Decides.{eqb_tells}
use Rattle.ax_base.proofs.Joins.{Contains-cases}
use Rattle.ax_record.specs.Orders.{before}
use Rattle.text_order.proofs.Filters.{kept}

here : (x y : ℕ) (ys : List ℕ) → eqb y x ≡ true → before x (y ∷ ys) ≡ []
here x y ys e = ap (λ b. cond b [] (y ∷ before x ys)) e

further : (x y : ℕ) (ys : List ℕ) → eqb y x ≡ false → before x (y ∷ ys) ≡ y ∷ before x ys
further x y ys e = ap (λ b. cond b [] (y ∷ before x ys)) e

-- what comes before one that comes later
pub between : (x y : ℕ) (zs : List ℕ) → length (before x zs) < length (before y zs) → (mid : List ℕ) × (before y zs ≡ before x zs ++ x ∷ mid)
between x y [] less = absurd (omega arith)
between x y (z ∷ zs) less = elim (eqb_tells z y) [
  | inl (e, is) ↦ let none = ap length (here y z zs e) in absurd (omega arith)
  | inr (e, apart) ↦ elim (eqb_tells z x) [
    | inl (f, is) ↦ (before y zs, further y z zs e ∙ ap (λ k. k ∷ before y zs) is ∙ sym (ap (λ l. l ++ x ∷ before y zs) (here x z zs f)))
    | inr (f, off) ↦
        let a = ap length (further y z zs e) in
        let b = ap length (further x z zs f) in
        let rest = between x y zs (omega arith) in
        (rest.0, further y z zs e ∙ ap (λ l. z ∷ l) rest.1 ∙ sym (ap (λ l. l ++ x ∷ rest.0) (further x z zs f)))
  ]
]

-- one that as many come before is the same
pub same_place : (x y : ℕ) (zs : List ℕ) → Contains zs x → length (before x zs) ≡ length (before y zs) → x ≡ y
same_place x y [] inside level = absurd (omega arith)
same_place x y (z ∷ zs) inside level = elim (eqb_tells z x) [
  | inl (e, is) ↦ elim (eqb_tells z y) [
    | inl (f, same) ↦ sym is ∙ same
    | inr (f, off) ↦ let a = ap length (here x z zs e) in let b = ap length (further y z zs f) in absurd (omega arith)
  ]
  | inr (e, apart) ↦ elim (eqb_tells z y) [
    | inl (f, same) ↦ let a = ap length (further x z zs e) in let b = ap length (here y z zs f) in absurd (omega arith)
    | inr (f, off) ↦
        let a = ap length (further x z zs e) in
        let b = ap length (further y z zs f) in
        same_place x y zs (elim (Contains-cases x z zs inside) [ inl is ↦ absurd (apart is) | inr more ↦ more ]) (omega arith)
  ]
]

-- what comes before one that is kept, among those that are
pub before-filter : (q : ℕ → Bool) (n : ℕ) → q n ≡ true → (xs : List ℕ) → before n (filter q xs) ≡ filter q (before n xs)
before-filter q n passes [] = refl
before-filter q n passes (x ∷ xs) = elim (eqb_tells x n) [
  | inl (e, is) ↦ ap (before n) (kept q x xs true (ap q is ∙ passes)) ∙ here n x (filter q xs) e ∙ sym (ap (filter q) (here n x xs e))
  | inr (e, apart) ↦ go e (before-filter q n passes xs) (q x) refl
]
  where
    go : eqb x n ≡ false → before n (filter q xs) ≡ filter q (before n xs) → (b : Bool) → q x ≡ b → before n (filter q (x ∷ xs)) ≡ filter q (before n (x ∷ xs))
    go e rest true b =
        ap (before n) (kept q x xs true b) ∙ further n x (filter q xs) e ∙ ap (λ l. x ∷ l) rest
        ∙ sym (ap (filter q) (further n x xs e) ∙ kept q x (before n xs) true b)
    go e rest false b = ap (before n) (kept q x xs false b) ∙ rest ∙ sym (ap (filter q) (further n x xs e) ∙ kept q x (before n xs) false b)
