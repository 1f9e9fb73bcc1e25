-- Which of two texts comes first.
use Rattle.std.proofs.Common.{◌≡◌, ◌≢◌, ℕ, ◌<◌, ◌∷◌, ◌++◌, length, filter, true, false, cond, eqb, nat_lt, sym, ap, ◌∙◌, arith, inl, inr, length-append, lt-ltb, le-ltb}
use Rattle.std.specs.Prelude.{None, Ok}
use Rattle.std.proofs.lemmas.Bool.{false≢true, eqb-true, eqb-false, ltb-false}
use Rattle.std.proofs.lemmas.Bool.Decides.{leb_tells}
use Rattle.std.proofs.lemmas.List.Elements.{filter-append}
use Rattle.ax_record.specs.Tree.{Tree, preorder}
use Rattle.ax_record.specs.ObjectTrees.{IsObjectTree}
use Rattle.ax_record.proofs.Preorder.{in_preorder}
use Rattle.ax_record.specs.Orders.{before}
use Rattle.text_order.specs.Texts.{is_text, texts, place}
use Rattle.text_order.proofs.Filters.{kept}
use Rattle.text_order.proofs.Laters.{text_known}
use Rattle.ax_ask.specs.declared.requests.Marker.{Marker}
use Rattle.ax_ask.specs.declared.replies.Placing.{Placing}
use Rattle.ax_ask.specs.declared.replies.Placing.TheVariants.{Before, Same, After}
use Rattle.text_marker.specs.Markers.{is_above, placing}
use Rattle.text_marker.specs.Answers.{refusal_of_both, unless, answered_both}
use Rattle.text_marker.proofs.Ahead.{between, same_place, before-filter}
use Rattle.text_marker.proofs.Branches.{spot}
use Rattle.text_marker.proofs.Places.{upper, level}

-- a text that comes later in preorder has the greater place
later : (t : Tree) (x y : ℕ) → is_text t x ≡ true → is_text t y ≡ true → spot t x < spot t y → place t x < place t y
later t x y x_text y_text less =
    let m = between x y (preorder t) less in
    let e : before y (texts t) ≡ before x (texts t) ++ x ∷ filter (is_text t) m.0 =
    before-filter (is_text t) y y_text (preorder t) ∙ ap (filter (is_text t)) m.1 ∙ filter-append (is_text t) (before x (preorder t)) (x ∷ m.0)
    ∙ ap (λ l. filter (is_text t) (before x (preorder t)) ++ l) (kept (is_text t) x m.0 true x_text)
    ∙ ap (λ l. l ++ x ∷ filter (is_text t) m.0) (sym (before-filter (is_text t) x x_text (preorder t))) in
    let s = ap length e ∙ length-append (before x (texts t)) (x ∷ filter (is_text t) m.0) in
    omega arith

-- texts have the order in which they come
pub comes : (t : Tree) → IsObjectTree t → (a b : ℕ) → is_text t a ≡ true → is_text t b ≡ true → nat_lt (spot t a) (spot t b) ≡ nat_lt (place t a) (place t b)
comes t hangs a b a_text b_text = elim (leb_tells (spot t b) (spot t a)) [
  | inr (_, less) ↦ lt-ltb (spot t a) (spot t b) less ∙ sym (lt-ltb (place t a) (place t b) (later t a b a_text b_text less))
  | inl (_, most) ↦ elim (leb_tells (spot t a) (spot t b)) [
    | inr (_, more) ↦ let p = later t b a b_text a_text more in le-ltb (spot t a) (spot t b) most ∙ sym (le-ltb (place t a) (place t b) (omega arith))
    | inl (_, least) ↦
        let p = ap (place t) (same_place a b (preorder t) (in_preorder t hangs a (text_known t a a_text)) (omega arith)) in
        le-ltb (spot t a) (spot t b) most ∙ sym (le-ltb (place t a) (place t b) (omega arith))
  ]
]

-- a marker that is not below another, and does not stand where the other does, is above it
turned : (t : Tree) (a b : Marker) → is_above t a b ≡ false → is_above t b a ≡ true → After ≡ placing t a b
turned t a b front behind = sym (ap (λ x. cond x Before (cond (is_above t b a) After Same)) front ∙ ap (λ x. cond x After Same) behind)

pub other_after : (t : Tree) → IsObjectTree t → (a b : Marker) → is_text t a.id ≡ true → is_text t b.id ≡ true → is_above t a b ≡ false → eqb a.id b.id ≡ false → After ≡ placing t a b
other_after t hangs a b a_text b_text front apart = elim (leb_tells (spot t b.id) (spot t a.id)) [
  | inr (_, less) ↦ absurd (false≢true (sym front ∙ upper t a b (later t a.id b.id a_text b_text less)))
  | inl (_, most) ↦ elim (leb_tells (spot t a.id) (spot t b.id)) [
    | inr (_, more) ↦ turned t a b front (upper t b a (later t b.id a.id b_text a_text more))
    | inl (_, least) ↦ absurd (eqb-false a.id b.id apart (same_place a.id b.id (preorder t) (in_preorder t hangs a.id (text_known t a.id a_text)) (omega arith)))
  ]
]

pub own_after : (t : Tree) (a b : Marker) → is_above t a b ≡ false → eqb a.id b.id ≡ true → a.offset ≢ b.offset → After ≡ placing t a b
own_after t a b front same apart =
    let is = eqb-true a.id b.id same in
    let most = ltb-false a.offset b.offset (sym (level t a b (sym is)) ∙ front) in
    turned t a b front (level t b a is ∙ lt-ltb b.offset a.offset (omega arith))

-- what is answered of two markers that are not refused
pub answered_two : (t : Tree) (a b : Marker) (placed : Placing) → refusal_of_both t a b ≡ None → placed ≡ placing t a b → Ok placed ≡ answered_both t a b (Ok (placing t a b))
answered_two t a b placed stand is = ap (λ p. Ok p) is ∙ sym (ap (λ e. unless e (Ok (placing t a b))) stand)
