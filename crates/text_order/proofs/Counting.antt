-- How many texts stand before one.
use Rattle.std.proofs.Common.{◌≡◌, ℕ, suc, ◌+◌, ◌≤◌, List, [], ◌∷◌, filter, reverse, length, Bool, true, false, cond, eqb, refl, sym, ap, subst, ◌∙◌, arith, inl, inr, is_some}
use Rattle.std.specs.Prelude.{Option, Some, None}
use Rattle.std.specs.List.{list_any}
use Rattle.std.specs.Option.{option_map_or}
use Rattle.std.specs.Cmp.{nat_eq_equiv}
use Rattle.std.proofs.lemmas.Bool.{eqb-true}
use Rattle.std.proofs.lemmas.Bool.Decides.{eqb_tells}
use Rattle.std.proofs.lemmas.List.{length-reverse}
use Rattle.std.proofs.lemmas.Map.Made.{length-le_from_is_member}
use Rattle.std.proofs.lemmas.Map.Views.{Contains-from_any, list_any-from_Contains}
use Rattle.ax_base.specs.Trees.{HasNoRepeats}
use Rattle.ax_record.specs.declared.record.Record.{Record}
use Rattle.ax_record.specs.Tree.{Tree, record_at, object_ids, preorder}
use Rattle.ax_record.specs.ObjectTrees.{IsObjectTree}
use Rattle.ax_record.specs.Orders.{before}
use Rattle.ax_record.proofs.Lists.{before_is}
use Rattle.ax_record.proofs.Preorder.{preorder_known, preorder_once}
use Rattle.ax_record.proofs.Walking.{distinct, id_there}
use Rattle.text_order.specs.Texts.{is_text, earlier_texts, later_texts, place, place_of}
use Rattle.text_order.proofs.Filters.{kept}
use Rattle.text_order.proofs.Laters.{parted_texts, texts_once}

before_fewer : (n : ℕ) (xs : List ℕ) → length (before n xs) ≤ length xs
before_fewer n [] = omega arith
before_fewer n (x ∷ xs) =
    let rest = before_fewer n xs in
    elim (eqb_tells x n) [
      | inl (e, is) ↦ let h : length (before n (x ∷ xs)) ≡ 0 = ap (λ b. length (cond b [] (x ∷ before n xs))) e in omega arith
      | inr (e, apart) ↦ let h : length (before n (x ∷ xs)) ≡ suc (length (before n xs)) = ap (λ b. length (cond b [] (x ∷ before n xs))) e in omega arith
    ]

kept_fewer : (q : ℕ → Bool) (xs : List ℕ) → length (filter q xs) ≤ length xs
kept_fewer q [] = omega arith
kept_fewer q (x ∷ xs) = go (q x) refl (kept_fewer q xs)
  where
    go : (b : Bool) → q x ≡ b → length (filter q xs) ≤ length xs → length (filter q (x ∷ xs)) ≤ length (x ∷ xs)
    go true e rest = let h : length (filter q (x ∷ xs)) ≡ suc (length (filter q xs)) = ap length (kept q x xs true e) in omega arith
    go false e rest = let h : length (filter q (x ∷ xs)) ≡ length (filter q xs) = ap length (kept q x xs false e) in omega arith

-- no more objects are walked over than there are
few_objects : (t : Tree) → IsObjectTree t → length (preorder t) ≤ 65537
few_objects t hangs =
    let fewer = length-le_from_is_member {eq = eqb} nat_eq_equiv (preorder t) (object_ids t) (distinct (preorder t) (preorder_once t hangs)) among in
    let all = hangs.few in
    omega arith
  where
    among : (q : ℕ) → list_any (eqb q) (preorder t) ≡ true → list_any (eqb q) (object_ids t) ≡ true
    among q inside = list_any-from_Contains nat_eq_equiv q (object_ids t) (id_there t q (preorder_known t hangs q (Contains-from_any eqb-true q (preorder t) inside)))

-- and no more texts stand before one
pub few_earlier : (t : Tree) → IsObjectTree t → (n : ℕ) → length (earlier_texts t n) ≤ 65537
few_earlier t hangs n =
    let a = kept_fewer (is_text t) (reverse (before n (preorder t))) in
    let b = length-reverse (before n (preorder t)) in
    let c = before_fewer n (preorder t) in
    let d = few_objects t hangs in
    omega arith

-- one more is counted
pub one_more : (t : Tree) (n at k count next : ℕ) → earlier_texts t at ≡ k ∷ earlier_texts t k → next ≡ count + 1 → length (earlier_texts t n) ≡ count + length (earlier_texts t at) → length (earlier_texts t n) ≡ next + length (earlier_texts t k)
one_more t n at k count next is more sofar = let h : length (earlier_texts t at) ≡ suc (length (earlier_texts t k)) = ap length is in omega arith

-- which still is few
pub still_few : (t : Tree) → IsObjectTree t → (n at k count : ℕ) → earlier_texts t at ≡ k ∷ earlier_texts t k → length (earlier_texts t n) ≡ count + length (earlier_texts t at) → count + 1 ≤ 65537
still_few t hangs n at k count is sofar =
    let h : length (earlier_texts t at) ≡ suc (length (earlier_texts t k)) = ap length is in
    let few = few_earlier t hangs n in
    omega arith

-- all are counted
pub all_counted : (t : Tree) (n at count : ℕ) → earlier_texts t at ≡ [] → length (earlier_texts t n) ≡ count + length (earlier_texts t at) → count ≡ length (earlier_texts t n)
all_counted t n at count is sofar = let h : length (earlier_texts t at) ≡ 0 = ap length is in omega arith

text_told : (t : Tree) (n : ℕ) (r : Record) (b x : Bool) → Some r ≡ record_at t n → b ≡ is_some r.text → b ≡ x → is_text t n ≡ x
text_told t n r b x rec tells is = sym (ap (λ o. option_map_or (λ (y : Record). is_some y.text) o false) rec) ∙ sym tells ∙ is

-- the place of a text is how many stand before it
pub place_told : (t : Tree) → IsObjectTree t → (n : ℕ) (r : Record) (b : Bool) (count : ℕ) → Some r ≡ record_at t n → b ≡ is_some r.text → b ≡ true → count ≡ length (earlier_texts t n) → Some count ≡ place_of t n
place_told t hangs n r b count rec tells holds e =
    let text : is_text t n ≡ true = text_told t n r b true rec tells holds in
    let parts = parted_texts t hangs n text in
    let there : place t n ≡ length (reverse (earlier_texts t n)) =
    ap (λ l. length (before n l)) parts ∙ ap length (before_is n (reverse (earlier_texts t n)) (later_texts t n) (subst HasNoRepeats parts (texts_once t hangs))) in
    ap (λ x. Some x) (e ∙ sym (there ∙ length-reverse (earlier_texts t n))) ∙ sym (ap (λ c. cond c (Some (place t n)) None) text)

-- what is no text has none
pub no_place : (t : Tree) (n : ℕ) (r : Record) (b : Bool) → Some r ≡ record_at t n → b ≡ is_some r.text → b ≡ false → None ≡ place_of t n
no_place t n r b rec tells fails = sym (ap (λ c. cond c (Some (place t n)) None) (text_told t n r b false rec tells fails))

pub no_object : (t : Tree) (n : ℕ) → None ≡ record_at t n → None ≡ place_of t n
no_object t n is = ap (λ o. cond (option_map_or (λ (y : Record). is_some y.text) o false) (Some (place t n)) None) is
