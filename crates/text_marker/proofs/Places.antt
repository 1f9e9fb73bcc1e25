-- The order of markers by the places of their texts.
use Rattle.std.proofs.Common.{◌≡◌, ℕ, suc, ◌<◌, ◌≤◌, List, [], ◌∷◌, ◌++◌, length, reverse, Contains, true, false, cond, ◌&&◌, ◌||◌, eqb, nat_lt, sym, ap, subst, ◌∙◌, arith, append_assoc, length-append, inl, inr, lt-ltb, le-ltb}
use Rattle.std.proofs.lemmas.Bool.Decides.{eqb_tells}
use Rattle.std.proofs.lemmas.List.Elements.{Contains-append_right}
use Rattle.ax_base.specs.Trees.{HasNoRepeats}
use Rattle.ax_base.proofs.Membership.{Contains-head, Contains-tail}
use Rattle.ax_base.proofs.Repeats.{head_apart, tail_no_repeats}
use Rattle.ax_base.proofs.Joins.{Contains-cases}
use Rattle.ax_ask.specs.declared.requests.Marker.{Marker}
use Rattle.ax_record.specs.Tree.{Tree}
use Rattle.ax_record.specs.ObjectTrees.{IsObjectTree}
use Rattle.ax_record.specs.Orders.{before}
use Rattle.ax_record.proofs.Lists.{before_is}
use Rattle.text_order.specs.Texts.{is_text, texts, later_texts, earlier_texts, place}
use Rattle.text_order.proofs.Laters.{parted_texts, texts_once}
use Rattle.text_marker.specs.Markers.{is_above}

-- how many stand before one: fewer than the list has that it is in, as many at least as one that it is not in
before_in : (xs ys : List ℕ) (k : ℕ) → Contains xs k → length (before k (xs ++ ys)) < length xs
before_in [] ys k inside = absurd (omega arith)
before_in (x ∷ xs) ys k inside = elim (eqb_tells x k) [
  | inl (e, is) ↦ let h : length (before k (x ∷ (xs ++ ys))) ≡ 0 = ap (λ b. length (cond b [] (x ∷ before k (xs ++ ys)))) e in omega arith
  | inr (e, apart) ↦
      let h : length (before k (x ∷ (xs ++ ys))) ≡ suc (length (before k (xs ++ ys))) = ap (λ b. length (cond b [] (x ∷ before k (xs ++ ys)))) e in
      let r = before_in xs ys k (elim (Contains-cases k x xs inside) [ inl is ↦ absurd (apart is) | inr more ↦ more ]) in omega arith
]

before_past : (xs ys : List ℕ) (k : ℕ) → (Contains xs k → ⊥) → length xs ≤ length (before k (xs ++ ys))
before_past [] ys k out = omega arith
before_past (x ∷ xs) ys k out = elim (eqb_tells x k) [
  | inl (e, is) ↦ absurd (out (subst (Contains (x ∷ xs)) is (Contains-head x xs)))
  | inr (e, apart) ↦
      let h : length (before k (x ∷ (xs ++ ys))) ≡ suc (length (before k (xs ++ ys))) = ap (λ b. length (cond b [] (x ∷ before k (xs ++ ys)))) e in
      let r = before_past xs ys k (λ inside. out (Contains-tail x k xs inside)) in omega arith
]

disjoint : (xs ys : List ℕ) (k : ℕ) → HasNoRepeats (xs ++ ys) → Contains xs k → Contains ys k → ⊥
disjoint [] ys k once inside behind = absurd (omega arith)
disjoint (x ∷ xs) ys k once inside behind = elim (Contains-cases k x xs inside) [
  | inl is ↦ head_apart x (xs ++ ys) once (Contains-append_right xs ys x (subst (Contains ys) (sym is) behind))
  | inr more ↦ disjoint xs ys k (tail_no_repeats x (xs ++ ys) once) more behind
]

module _ (t : Tree) (hangs : IsObjectTree t) (n : ℕ) (text : is_text t n ≡ true) where
  pre : List ℕ
  pre = reverse (earlier_texts t n)

  parts : texts t ≡ pre ++ n ∷ later_texts t n
  unfolding pre
  parts = parted_texts t hangs n text

  once : HasNoRepeats (pre ++ n ∷ later_texts t n)
  once = subst HasNoRepeats parts (texts_once t hangs)

  own_place : place t n ≡ length pre
  own_place = ap (λ l. length (before n l)) parts ∙ ap length (before_is n pre (later_texts t n) once)

  -- an earlier text has a lesser place
  pub earlier_place : (k : ℕ) → Contains (reverse (earlier_texts t n)) k → place t k < place t n
  unfolding pre
  earlier_place k inside =
      let low : place t k < length pre = subst (λ l. length (before k l) < length pre) (sym parts) (before_in pre (n ∷ later_texts t n) k inside) in
      let p = own_place in
      omega arith

  -- a later text has a greater one
  pub later_place : (k : ℕ) → Contains (later_texts t n) k → place t n < place t k
  later_place k inside =
      let joined : (pre ++ n ∷ []) ++ later_texts t n ≡ texts t = append_assoc pre (n ∷ []) (later_texts t n) ∙ sym parts in
      let out : Contains (pre ++ n ∷ []) k → ⊥ = λ front. disjoint (pre ++ n ∷ []) (later_texts t n) k (subst HasNoRepeats (sym (append_assoc pre (n ∷ []) (later_texts t n))) once) front inside in
      let high : length (pre ++ n ∷ []) ≤ place t k = subst (λ l. length (pre ++ n ∷ []) ≤ length (before k l)) joined (before_past (pre ++ n ∷ []) (later_texts t n) k out) in
      let size = length-append pre (n ∷ []) in
      let p = own_place in
      omega arith

-- a marker in a text with a lesser place stands below, one in a text with a greater place above
pub lower : (t : Tree) (m s : Marker) → place t s.id < place t m.id → is_above t m s ≡ false
lower t m s low = elim (eqb_tells s.id m.id) [
  | inl (e, is) ↦ let same = ap (place t) is in absurd (omega arith)
  | inr (e, apart) ↦ ap (λ b. b || (eqb s.id m.id && nat_lt m.offset s.offset)) (le-ltb (place t m.id) (place t s.id) (omega arith)) ∙ ap (λ b. b && nat_lt m.offset s.offset) e
]

pub upper : (t : Tree) (m s : Marker) → place t m.id < place t s.id → is_above t m s ≡ true
upper t m s high = ap (λ b. b || (eqb s.id m.id && nat_lt m.offset s.offset)) (lt-ltb (place t m.id) (place t s.id) high)

-- in the same text the offsets decide
pub level : (t : Tree) (m s : Marker) → s.id ≡ m.id → is_above t m s ≡ nat_lt m.offset s.offset
level t m s is = elim (eqb_tells s.id m.id) [
  | inl (e, same) ↦ let p = ap (place t) is in ap (λ b. b || (eqb s.id m.id && nat_lt m.offset s.offset)) (le-ltb (place t m.id) (place t s.id) (omega arith)) ∙ ap (λ b. b && nat_lt m.offset s.offset) e
  | inr (e, apart) ↦ absurd (apart is)
]
