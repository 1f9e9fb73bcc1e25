-- A list in three parts, of which the outer two stand in another list too.
use Rattle.std.proofs.Common.{◌≡◌, inl, inr, ℕ, ◌+◌, ◌-◌, ◌≤◌, ◌<◌, List, ◌++◌, length, take, drop, get_or, Bool, true, false, not, eqb, Contains, refl, sym, ap, subst, ◌∙◌, arith}
use Rattle.std.proofs.lemmas.Bool.{false≢true, eqb-true}
use Rattle.std.proofs.lemmas.List.{take-append-drop, drop-drop, drop_more}
use Rattle.std.proofs.lemmas.List.Elements.{Contains-append_left, Contains-append_right, Contains-append_cases, Contains-get_or}
use Rattle.std.proofs.Math.Seq.{take-add}
use Rattle.ax_base.proofs.Joins.{Contains-cases}
use Rattle.ax_base.specs.Splices.{AreSharedBut}

pub in_three : (xs : List ℕ) (start end : ℕ) → start ≤ end → take start xs ++ (take (end - start) (drop start xs) ++ drop end xs) ≡ xs
in_three xs start end order = (λ i. take start xs ++ (take (end - start) (drop start xs) ++ rest i)) ∙ ap (λ l. take start xs ++ l) (take-append-drop (end - start) (drop start xs)) ∙ take-append-drop start xs
  where
    reached : end ≡ start + (end - start)
    reached = omega arith

    rest : drop end xs ≡ drop (end - start) (drop start xs)
    rest = ap (λ n. drop n xs) reached ∙ sym (drop-drop (end - start) start xs)

from_start : (k : ℕ) (xs : List ℕ) (n : ℕ) → Contains (take k xs) n → Contains xs n
from_start k xs n inside = subst (λ l. Contains l n) (take-append-drop k xs) (Contains-append_left (take k xs) (drop k xs) n inside)

-- what stands before the first difference is in the other list
pub in_front : (start end : ℕ) (ids others : List ℕ) → AreSharedBut start end ids others → (n : ℕ) → Contains (take start ids) n → Contains others n
in_front start end ids others shared n inside = from_start start others n (subst (λ l. Contains l n) shared.front inside)

not_apart : (x y : ℕ) → false ≡ not (eqb x y) → x ≡ y
not_apart x y found = go (eqb x y) refl found
  where
    go : (b : Bool) → eqb x y ≡ b → false ≡ not b → x ≡ y
    go true is off = eqb-true x y is
    go false is off = absurd (false≢true off)

-- one element more from behind, which is in the other list
pub one_earlier : (ids others : List ℕ) (at k behind j x y : ℕ) → at < length ids → k ≡ at → behind ≡ at + 1 → j < length others → x ≡ get_or ids at x → y ≡ get_or others j y → false ≡ not (eqb x y)
    → ((n : ℕ) → Contains (drop behind ids) n → Contains others n) → (n : ℕ) → Contains (drop k ids) n → Contains others n
one_earlier ids others at k behind j x y low here next far is other found shared n inside =
    elim (Contains-cases n (get_or ids at x) (drop (at + 1) ids) (subst (λ l. Contains l n) (ap (λ m. drop m ids) here ∙ drop_more ids at x low) inside)) [
      | inl first ↦ subst (Contains others) (sym other ∙ sym (not_apart x y found) ∙ is ∙ first) (Contains-get_or others j y far)
      | inr more ↦ shared n (subst (λ m. Contains (drop m ids) n) (sym next) more)
    ]

-- one block more that is the same, from the start on
pub block_more : (ids others : List ℕ) (at next size k j : ℕ) → next ≡ at + size → k ≡ size → j ≡ size → take at ids ≡ take at others → take k (drop at ids) ≡ take j (drop at others) → take next ids ≡ take next others
block_more ids others at next size k j here one other before found =
    ap (λ n. take n ids) here ∙ take-add at size ids ∙ (λ i. before i ++ same i) ∙ sym (take-add at size others) ∙ ap (λ n. take n others) (sym here)
  where
    same : take size (drop at ids) ≡ take size (drop at others)
    same = ap (λ n. take n (drop at ids)) (sym one) ∙ found ∙ ap (λ n. take n (drop at others)) other

in_part : (size at : ℕ) (xs : List ℕ) (n : ℕ) → Contains (take size (drop at xs)) n → Contains xs n
in_part size at xs n inside = subst (λ l. Contains l n) (take-append-drop at xs) (Contains-append_right (take at xs) (drop at xs) n (from_start size (drop at xs) n inside))

-- one block more from behind, which is in the other list
pub block_earlier : (ids others : List ℕ) (at behind size i j a b : ℕ) → behind ≡ at + size → a ≡ size → i ≡ at → take a (drop i ids) ≡ take b (drop j others)
    → ((n : ℕ) → Contains (drop behind ids) n → Contains others n) → (n : ℕ) → Contains (drop at ids) n → Contains others n
block_earlier ids others at behind size i j a b here size_is place found shared n inside = elim (Contains-append_cases (take size (drop at ids)) (drop behind ids) n (subst (λ l. Contains l n) parts inside)) [
  | inl first ↦ in_part b j others n (subst (λ l. Contains l n) same first)
  | inr more ↦ shared n more
]
  where
    parts : drop at ids ≡ take size (drop at ids) ++ drop behind ids
    parts = sym (take-append-drop size (drop at ids)) ∙ ap (λ l. take size (drop at ids) ++ l) (drop-drop size at ids ∙ ap (λ m. drop m ids) (sym here))

    same : take size (drop at ids) ≡ take b (drop j others)
    same = (λ k. take (sym size_is k) (drop (sym place k) ids)) ∙ found
