-- A search that halves rising ids.
use Rattle.std.proofs.Common.{◌≡◌, ◌≢◌, ◌⊎◌, inl, inr, ℕ, zero, suc, ◌+◌, ◌≤◌, ◌<◌, List, [], ◌∷◌, length, get_or, Bool, true, false, ◌||◌, Contains, refl, sym, ap, subst, ◌∙◌, arith, eqb}
use Rattle.std.specs.Prelude.{nat_eq}
use Rattle.std.specs.List.{insert}
use Rattle.std.specs.List.Sorted.{IsStrictlyIncreasing}
use Rattle.std.specs.Ordering.{nat_cmp, match_ordering}
use Rattle.std.specs.BTreeSet.{insert_key}
use Rattle.std.specs.Cmp.{nat_cmp_total, tied_itself}
use Rattle.std.proofs.lemmas.Bool.{false≢true, eqb-true, eq-eqb}
use Rattle.std.proofs.lemmas.Bool.Decides.{eqb_tells, leb_tells}
use Rattle.std.proofs.lemmas.List.{get_or_default}
use Rattle.std.proofs.lemmas.Map.Views.{Contains-from_any}
use Rattle.ax_base.proofs.Filled.{less_is, greater_is}
use Rattle.ax_dom.specs.Among.{is_in}
use Rattle.ax_dom.proofs.MovedEntries.{list_any_member}

-- where an id can be: all before are below it, and none after is
pub record Halved (xs : List ℕ) (id from past : ℕ) : Type 0 where
  pub ordered : from ≤ past
  pub within : past ≤ length xs
  pub below : (k : ℕ) → k < from → get_or xs k 0 < id
  pub above : (k : ℕ) → past ≤ k → k < length xs → id ≤ get_or xs k 0

next_above : (xs : List ℕ) → IsStrictlyIncreasing xs → (j k : ℕ) → k ≡ j + 1 → k < length xs → get_or xs j 0 < get_or xs k 0
next_above xs rising j k e low = subst (λ m. get_or xs j 0 < get_or xs m 0) (sym e) (rising j (omega arith))

tail_rising : (x : ℕ) (xs : List ℕ) → IsStrictlyIncreasing (x ∷ xs) → IsStrictlyIncreasing xs
tail_rising x xs rising k low = next_above (x ∷ xs) rising (suc k) (suc (k + 1)) (omega arith) (omega arith)

rises : (xs : List ℕ) → IsStrictlyIncreasing xs → (l i j : ℕ) → j ≤ i + l → i < j → j < length xs → get_or xs i 0 < get_or xs j 0
rises xs rising zero i j near low high = absurd (omega arith)
rises xs rising (suc l) i zero near low high = absurd (omega arith)
rises xs rising (suc l) i (suc j) near low high = elim (eqb_tells i j) [
  | inl (_, is) ↦ (let step = next_above xs rising j (suc j) (omega arith) high in let e : get_or xs i 0 ≡ get_or xs j 0 = ap (λ k. get_or xs k 0) is in omega arith)
  | inr (_, apart) ↦ (let step = next_above xs rising j (suc j) (omega arith) high in let rest = rises xs rising l i j (omega arith) (omega arith) (omega arith) in omega arith)
]

pub all_left : (xs : List ℕ) (id : ℕ) → Halved xs id 0 (length xs)
all_left xs id = record { ordered = omega arith; within = omega arith; below = λ k low. absurd (omega arith); above = λ k low high. absurd (omega arith) }

pub right_half : (xs : List ℕ) (id from past middle x : ℕ) → IsStrictlyIncreasing xs → Halved xs id from past → middle < past → x ≡ get_or xs middle x → (a b : ℕ) → a ≡ x → b ≡ id → a < b → Halved xs id (middle + 1) past
right_half xs id from past middle x rising far low is a b same wanted under = record { ordered = omega arith; within = far.within; below = λ k under. at k under; above = far.above }
  where
    less : get_or xs middle 0 < id
    less = let w = far.within in subst (λ y. y < id) (is ∙ get_or_default xs middle x 0 (omega arith)) (let e : x < id = omega arith in e)

    at : (k : ℕ) → k < middle + 1 → get_or xs k 0 < id
    at k under = elim (eqb_tells k middle) [
      | inl (_, same) ↦ (let e : get_or xs k 0 ≡ get_or xs middle 0 = ap (λ j. get_or xs j 0) same in let m = less in omega arith)
      | inr (_, apart) ↦ (let w = far.within in let m = less in let r = rises xs rising middle k middle (omega arith) (omega arith) (omega arith) in omega arith)
    ]

pub left_half : (xs : List ℕ) (id from past middle x : ℕ) → IsStrictlyIncreasing xs → Halved xs id from past → from ≤ middle → middle < past → x ≡ get_or xs middle x → (a b : ℕ) → a ≡ x → b ≡ id → b ≤ a → Halved xs id from middle
left_half xs id from past middle x rising far high low is a b same wanted over = record { ordered = high; within = (let w = far.within in omega arith); below = far.below; above = λ k over under. at k over under }
  where
    more : id ≤ get_or xs middle 0
    more = let w = far.within in subst (λ y. id ≤ y) (is ∙ get_or_default xs middle x 0 (omega arith)) (let e : id ≤ x = omega arith in e)

    at : (k : ℕ) → middle ≤ k → k < length xs → id ≤ get_or xs k 0
    at k over under = elim (eqb_tells k middle) [
      | inl (_, same) ↦ (let e : get_or xs k 0 ≡ get_or xs middle 0 = ap (λ j. get_or xs j 0) same in let m = more in omega arith)
      | inr (_, apart) ↦ (let m = more in let r = rises xs rising k middle k (omega arith) (omega arith) (omega arith) in omega arith)
    ]

-- the place: how many are below
module _ (xs : List ℕ) (id at : ℕ) (rising : IsStrictlyIncreasing xs) (below : (k : ℕ) → k < at → get_or xs k 0 < id) (above : (k : ℕ) → at ≤ k → k < length xs → id ≤ get_or xs k 0) where
  -- an id that is among them stands there
  stands : Contains xs id → (at < length xs) × (get_or xs at 0 ≡ id)
  stands (k, low, at_k) = let is : get_or xs k 0 ≡ id = sym (get_or_default xs k id 0 low) ∙ at_k in elim (eqb_tells k at) [
    | inl (_, same) ↦ (omega arith, ap (λ j. get_or xs j 0) (sym same) ∙ is)
    | inr (_, apart) ↦ (elim (leb_tells at k) [
      | inl (_, high) ↦ (let first = above at (omega arith) (omega arith) in let r = rises xs rising k at k (omega arith) (omega arith) (omega arith) in absurd (omega arith))
      | inr (_, under) ↦ (let r = below k (omega arith) in absurd (omega arith))
    ])
  ]

  in_any : (k : ℕ) → k < length xs → get_or xs k 0 ≡ id → is_in xs id ≡ true
  in_any k low is = go (is_in xs id) refl
    where
      go : (b : Bool) → is_in xs id ≡ b → b ≡ true
      go true on = refl
      go false off = absurd (false≢true (sym (list_any_member (nat_eq id) xs id (k, low, get_or_default xs k id 0 low ∙ is) off) ∙ eq-eqb id id refl))

  nowhere : ((at < length xs) → (get_or xs at 0 ≢ id)) → false ≡ is_in xs id
  nowhere other = go (is_in xs id) refl
    where
      go : (b : Bool) → is_in xs id ≡ b → false ≡ b
      go false off = refl
      go true on = (let s = stands (Contains-from_any eqb-true id xs on) in absurd (other s.0 s.1))

  -- the id that stands there tells whether it is among them
  pub tells_there : (x a b : ℕ) → at < length xs → x ≡ get_or xs at x → a ≡ x → b ≡ id → nat_eq a b ≡ is_in xs id
  tells_there x a b low is e f = (λ i. nat_eq (e i) (f i)) ∙ go (eqb_tells x id)
    where
      here : get_or xs at 0 ≡ x
      here = sym (is ∙ get_or_default xs at x 0 low)

      go : ((eqb x id ≡ true) × (x ≡ id)) ⊎ ((eqb x id ≡ false) × (x ≢ id)) → nat_eq x id ≡ is_in xs id
      go (inl (on, same)) = on ∙ sym (in_any at low (here ∙ same))
      go (inr (off, apart)) = off ∙ nowhere (λ _ same. apart (sym here ∙ same))

  pub tells_past : length xs ≤ at → false ≡ is_in xs id
  tells_past past = nowhere (λ low. absurd (omega arith))

-- to put a key in its place is to insert it
inserted : (xs : List ℕ) (id at : ℕ) → at ≤ length xs → ((k : ℕ) → k < at → get_or xs k 0 < id) → ((k : ℕ) → at ≤ k → k < length xs → id < get_or xs k 0) → insert xs at id ≡ insert_key nat_cmp xs id
inserted [] id zero within below above = refl
inserted [] id (suc at) within below above = absurd (omega arith)
inserted (x ∷ xs) id zero within below above =
    ap (λ r. match_ordering r (id ∷ x ∷ xs) (x ∷ xs) (x ∷ insert_key nat_cmp xs id)) (sym (less_is id x (above 0 (omega arith) (omega arith))))
inserted (x ∷ xs) id (suc at) within below above =
    ap (λ l. x ∷ l) (inserted xs id at (omega arith) (λ k low. below (suc k) (omega arith)) (λ k high low. above (suc k) (omega arith) (omega arith)))
    ∙ ap (λ r. match_ordering r (id ∷ x ∷ xs) (x ∷ xs) (x ∷ insert_key nat_cmp xs id)) (sym (greater_is id x (below 0 (omega arith))))

placed_key : (xs : List ℕ) (id at : ℕ) → at ≤ length xs → ((k : ℕ) → k < at → get_or xs k 0 < id) → ((k : ℕ) → at ≤ k → k < length xs → id ≤ get_or xs k 0) → false ≡ is_in xs id
    → insert xs at id ≡ insert_key nat_cmp xs id
placed_key xs id at within below above off = inserted xs id at within below (λ k high low. strict k high low)
  where
    strict : (k : ℕ) → at ≤ k → k < length xs → id < get_or xs k 0
    strict k high low = elim (eqb_tells id (get_or xs k 0)) [
      | inl (_, is) ↦ absurd (false≢true (sym (list_any_member (nat_eq id) xs id (k, low, get_or_default xs k id 0 low ∙ sym is) (sym off)) ∙ eq-eqb id id refl))
      | inr (_, apart) ↦ (let a = above k high low in omega arith)
    ]

-- the same of a list that is the one that was searched
pub placed_in : (xs ys zs : List ℕ) (id at : ℕ) → ys ≡ xs → zs ≡ xs → at ≤ length ys → ((k : ℕ) → k < at → get_or ys k 0 < id) → ((k : ℕ) → at ≤ k → k < length ys → id ≤ get_or ys k 0) → false ≡ is_in zs id
    → insert xs at id ≡ insert_key nat_cmp xs id
placed_in xs ys zs id at same again within below above off = placed_key xs id at
    (subst (λ l. at ≤ length l) same within)
    (subst (λ l. (k : ℕ) → k < at → get_or l k 0 < id) same below)
    (subst (λ l. (k : ℕ) → at ≤ k → k < length l → id ≤ get_or l k 0) same above)
    (off ∙ ap (λ l. is_in l id) again)

-- to insert a key that is there changes nothing
pub key_there : (xs : List ℕ) (id : ℕ) → IsStrictlyIncreasing xs → true ≡ is_in xs id → xs ≡ insert_key nat_cmp xs id
key_there [] id rising on = cc
key_there (x ∷ xs) id rising on = elim (eqb_tells id x) [
  | inl (_, is) ↦ ap (λ r. match_ordering r (id ∷ x ∷ xs) (x ∷ xs) (x ∷ insert_key nat_cmp xs id)) (sym (ap (nat_cmp id) (sym is) ∙ tied_itself nat_cmp_total id))
  | inr (off, apart) ↦
      (let more : true ≡ is_in xs id = on ∙ ap (λ b. b || is_in xs id) off in
      ap (λ l. x ∷ l) (key_there xs id (tail_rising x xs rising) more)
      ∙ ap (λ r. match_ordering r (id ∷ x ∷ xs) (x ∷ xs) (x ∷ insert_key nat_cmp xs id)) (sym (greater_is id x (above_first more))))
]
  where
    above_first : true ≡ is_in xs id → x < id
    above_first more = at_place (Contains-from_any eqb-true id xs (sym more))
      where
        at_place : Contains xs id → x < id
        at_place (k, low, at_k) =
            let is : get_or xs k 0 ≡ id = sym (get_or_default xs k id 0 low) ∙ at_k in
            let r : x < get_or xs k 0 = rises (x ∷ xs) rising (suc k) 0 (suc k) (omega arith) (omega arith) (omega arith) in
            omega arith

pub key_in : (xs zs : List ℕ) (id : ℕ) → IsStrictlyIncreasing xs → zs ≡ xs → true ≡ is_in zs id → xs ≡ insert_key nat_cmp xs id
key_in xs zs id rising again on = key_there xs id rising (on ∙ ap (λ l. is_in l id) again)
