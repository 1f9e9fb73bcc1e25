-- A rising list is no longer than one that has all of it.
use Rattle.std.proofs.Common.{◌≡◌, inl, inr, ℕ, ◌<◌, ◌≤◌, length, List, [], ◌∷◌, Contains, sym, arith}
use Rattle.std.specs.List.Sorted.{IsStrictlyIncreasing}
use Rattle.std.proofs.lemmas.List.Kept.{AllPairs-from_increasing}
use Rattle.std.proofs.lemmas.Bool.Decides.{eqb_tells}
use Rattle.ax_base.proofs.Joins.{Contains-cases}
use Rattle.ax_base.proofs.Membership.{Contains-head, Contains-tail}
use Rattle.ax_base.proofs.Rising.{Rises, rises_from}

-- what is in a rising list is its head or above that
from_head : (x : ℕ) (xs : List ℕ) → Rises (x ∷ xs) → (n : ℕ) → Contains (x ∷ xs) n → x ≤ n
from_head x xs a n inside = elim (Contains-cases n x xs inside) [
  | inl is ↦ omega arith
  | inr more ↦ (let low = a.0 n more in omega arith)
]

-- what is above the head of a list and in it is in its tail
in_tail : (y : ℕ) (ys : List ℕ) (n : ℕ) → y < n → Contains (y ∷ ys) n → Contains ys n
in_tail y ys n low inside = elim (Contains-cases n y ys inside) [
  | inl is ↦ absurd (omega arith)
  | inr more ↦ more
]

no_longer : (xs ys : List ℕ) → Rises xs → Rises ys → ((n : ℕ) → Contains xs n → Contains ys n) → length xs ≤ length ys
no_longer [] ys a b each = omega arith
no_longer (x ∷ xs) [] a b each = absurd (nothing (each x (Contains-head x xs)))
  where
    nothing : Contains [] x → ⊥
    nothing inside = omega arith
no_longer (x ∷ xs) (y ∷ ys) a b each = elim (eqb_tells x y) [
  | inl (_, is) ↦
      (let rest = no_longer xs ys a.1 b.1 (λ n inside. in_tail y ys n (let low = a.0 n inside in omega arith) (each n (Contains-tail x n xs inside))) in omega arith)
  | inr (_, apart) ↦
      (let low : y < x = above (each x (Contains-head x xs)) apart in
      let rest = no_longer (x ∷ xs) ys a b.1 (λ n inside. in_tail y ys n (let up = from_head x xs a n inside in omega arith) (each n inside)) in omega arith)
]
  where
    above : Contains (y ∷ ys) x → (x ≡ y → ⊥) → y < x
    above inside apart = elim (Contains-cases x y ys inside) [
      | inl is ↦ absurd (apart (sym is))
      | inr more ↦ b.0 x more
    ]

pub fits_in : (xs ys : List ℕ) → IsStrictlyIncreasing xs → IsStrictlyIncreasing ys → ((n : ℕ) → Contains xs n → Contains ys n) → length xs ≤ length ys
fits_in xs ys a b each = no_longer xs ys (rises_from xs (AllPairs-from_increasing xs a)) (rises_from ys (AllPairs-from_increasing ys b)) each
