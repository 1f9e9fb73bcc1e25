-- Where what is below an object stands in the preorder.
use Rattle.std.proofs.Common.{◌≡◌, ◌≢◌, ℕ, suc, ◌+◌, ◌-◌, ◌<◌, ◌≤◌, List, ◌∷◌, ◌++◌, length, nat_lt, sym, ap, ◌∙◌, arith, ◌⊎◌, inl, inr, length-append, lt-ltb, le-ltb}
use Rattle.std.specs.List.{flat_map}
use Rattle.std.proofs.lemmas.List.Concat.{flat_map-append}
use Rattle.std.proofs.lemmas.Bool.Decides.{leb_tells}
use Rattle.ax_base.proofs.Reached.{reached-below}
use Rattle.ax_record.specs.Tree.{Tree, kids_of, preorder, IsKid, objects_within}
use Rattle.ax_record.specs.ObjectTrees.{IsObjectTree}
use Rattle.ax_record.specs.Orders.{before, after}
use Rattle.ax_record.proofs.Lists.{parted}
use Rattle.ax_record.proofs.Climbs.{before_kid}
use Rattle.text_marker.proofs.Ahead.{between, same_place}

-- how many objects come before one in preorder, and how many an object and all below it are
abbrev pub spot : Tree → ℕ → ℕ
spot t n = length (before n (preorder t))

abbrev pub size : Tree → ℕ → ℕ
size t n = length (objects_within t 128 n)

module _ (t : Tree) (hangs : IsObjectTree t) where
  rank : ℕ → ℕ
  rank n = 128 - hangs.level n

  low : (n : ℕ) → rank n ≤ 128
  unfolding rank
  low n = omega arith

  falls : (n k : ℕ) → IsKid t n k → rank k < rank n
  unfolding rank
  falls n k kid = let e = hangs.deeper n k kid in let s = hangs.shallow k in omega arith

  abbrev branches : List ℕ → List ℕ
  branches ns = flat_map (objects_within t 128) ns

  joined : (xs : List ℕ) (n : ℕ) (ys : List ℕ) → length (branches (xs ++ n ∷ ys)) ≡ length (branches xs) + (size t n + length (branches ys))
  joined xs n ys =
      ap length (flat_map-append (objects_within t 128) xs (n ∷ ys)) ∙ length-append (branches xs) (branches (n ∷ ys))
      ∙ ap (λ k. length (branches xs) + k) (length-append (objects_within t 128 n) (branches ys))

  size-kids : (n : ℕ) → size t n ≡ suc (length (branches (kids_of t n)))
  size-kids n = ap length (reached-below (kids_of t) rank 128 low falls n)

  spot-kid : (p n : ℕ) → IsKid t p n → spot t n ≡ spot t p + suc (length (branches (before n (kids_of t p))))
  spot-kid p n kid = ap length (before_kid t hangs p n kid) ∙ length-append (before p (preorder t)) (p ∷ branches (before n (kids_of t p)))

  -- a kid comes after its parent, and what is below it before what is past the parent's branch
  pub kid_after : (p n : ℕ) → IsKid t p n → spot t p < spot t n
  kid_after p n kid = let e = spot-kid p n kid in omega arith

  pub kid_within : (p n : ℕ) → IsKid t p n → spot t n + size t n ≤ spot t p + size t p
  kid_within p n kid =
      let e = spot-kid p n kid in
      let s = size-kids p in
      let k = ap (λ l. length (branches l)) (parted n (kids_of t p) kid) ∙ joined (before n (kids_of t p)) n (after n (kids_of t p)) in
      omega arith

  -- an object is in its own branch
  pub not_empty : (n : ℕ) → 0 < size t n
  not_empty n = let e = size-kids n in omega arith

  -- the branch of a kid comes before the later kids
  pub earlier_kid : (p x y : ℕ) → IsKid t p x → IsKid t p y → length (before x (kids_of t p)) < length (before y (kids_of t p)) → spot t x + size t x ≤ spot t y
  earlier_kid p x y one other less =
      let a = spot-kid p x one in
      let b = spot-kid p y other in
      let m = between x y (kids_of t p) less in
      let k = ap (λ l. length (branches l)) m.1 ∙ joined (before x (kids_of t p)) x m.0 in
      omega arith

  -- the branch of one comes before the other, or the branch of the other before the one
  abbrev pub AreApart : ℕ → ℕ → Type 0
  AreApart x y = (spot t x + size t x ≤ spot t y) ⊎ (spot t y + size t y ≤ spot t x)

  pub kids_apart : (p x y : ℕ) → IsKid t p x → IsKid t p y → x ≢ y → AreApart x y
  kids_apart p x y one other apart = elim (leb_tells (length (before x (kids_of t p))) (length (before y (kids_of t p)))) [
    | inr (_, more) ↦ inr (earlier_kid p y x other one more)
    | inl (_, most) ↦ elim (leb_tells (length (before y (kids_of t p))) (length (before x (kids_of t p)))) [
      | inr (_, less) ↦ inl (earlier_kid p x y one other less)
      | inl (_, least) ↦ absurd (apart (same_place x y (kids_of t p) one (omega arith)))
    ]
  ]

  -- which of two kids comes first is told by their list
  pub kids_order : (p x y : ℕ) → IsKid t p x → IsKid t p y → x ≢ y → nat_lt (length (before x (kids_of t p))) (length (before y (kids_of t p))) ≡ nat_lt (spot t x) (spot t y)
  kids_order p x y one other apart = elim (leb_tells (suc (length (before x (kids_of t p)))) (length (before y (kids_of t p)))) [
    | inl (e, less) ↦ let far = earlier_kid p x y one other less in let s = not_empty x in e ∙ sym (lt-ltb (spot t x) (spot t y) (omega arith))
    | inr (e, most) ↦ elim (leb_tells (length (before x (kids_of t p))) (length (before y (kids_of t p)))) [
      | inl (_, least) ↦ absurd (apart (same_place x y (kids_of t p) one (omega arith)))
      | inr (_, more) ↦ let far = earlier_kid p y x other one more in let s = not_empty y in e ∙ sym (le-ltb (spot t x) (spot t y) (omega arith))
    ]
  ]

  -- what is in branches that are apart is ordered as they are
  pub in_branches : (x y a b : ℕ) → AreApart x y → spot t x ≤ spot t a → spot t a < spot t x + size t x → spot t y ≤ spot t b → spot t b < spot t y + size t y
      → nat_lt (spot t x) (spot t y) ≡ nat_lt (spot t a) (spot t b)
  in_branches x y a b (inl front) a_from a_to b_from b_to =
      let s = not_empty x in lt-ltb (spot t x) (spot t y) (omega arith) ∙ sym (lt-ltb (spot t a) (spot t b) (omega arith))
  in_branches x y a b (inr behind) a_from a_to b_from b_to =
      let s = not_empty y in le-ltb (spot t x) (spot t y) (omega arith) ∙ sym (le-ltb (spot t a) (spot t b) (omega arith))
