-- What is known of the text that a marker stands in.
use Rattle.std.proofs.Common.{◌≡◌, ℕ, ◌≤◌, List, [], length, Bool, true, nat_le, refl, sym, ap, subst, ◌∙◌, arith, chars, IsUtf8}
use Rattle.std.specs.Prelude.{Option, Some, None}
use Rattle.std.specs.Option.{option_and_then, unwrap_or}
use Rattle.std.proofs.lemmas.Bool.Decides.{nat_tests}
use Rattle.std.proofs.lemmas.Str.{chars-nil}
use Rattle.ax_ask.specs.declared.requests.Marker.{Marker}
use Rattle.ax_record.specs.declared.record.Record.{Record}
use Rattle.ax_record.specs.Tree.{Tree, record_at, has_object}
use Rattle.ax_record.specs.ObjectTrees.{IsObjectTree, HasFittingText}
use Rattle.text_order.specs.Texts.{is_text}
use Rattle.text_marker.specs.Markers.{text_at, words_of, is_stale, is_out}
use Rattle.text_marker.specs.Answers.{refusal, refusal_of_both}
use Rattle.text_marker.proofs.Sizes.{bytes_at_most}

-- a text of a tree has few enough bytes
pub text_fits : (t : Tree) (hangs : IsObjectTree t) (n : ℕ) (r : Record) (s : List ℕ) → Some r ≡ record_at t n → s ≡ unwrap_or r.text [] → IsUtf8 s → length s ≤ 262144
text_fits t hangs n r s rec is utf8 = go r.text (hangs.texts n r (sym rec)) is
  where
    go : (o : Option (List ℕ)) → HasFittingText (record r { text = o }) → s ≡ unwrap_or o [] → length s ≤ 262144
    go None fits e = let none = ap length e in omega arith
    go (Some c) fits e = let most = bytes_at_most s utf8 in let same = ap (λ l. length (chars l)) e in let few = fits.1 in omega arith

-- the text of a record is that of the object
pub text_is : (t : Tree) (n : ℕ) (r : Record) (s : List ℕ) → Some r ≡ record_at t n → s ≡ unwrap_or r.text [] → s ≡ text_at t n
text_is t n r s rec is = is ∙ ap (λ o. unwrap_or (option_and_then (λ (x : Record). x.text) o) []) rec

-- a marker that is not refused stands in a text, at most at its end
pub accepted_text : (t : Tree) (m : Marker) → refusal t m ≡ None → is_text t m.id ≡ true
accepted_text t m e = go (has_object t m.id) (is_text t m.id) (nat_le m.offset (length (words_of t m.id))) refl refl refl
  where
    go : (a b c : Bool) → has_object t m.id ≡ a → is_text t m.id ≡ b → nat_le m.offset (length (words_of t m.id)) ≡ c → is_text t m.id ≡ true
    go a b c ha hb hc = grind (arith, e, ha, hb, hc)

pub accepted_offset : (t : Tree) (m : Marker) → refusal t m ≡ None → m.offset ≤ length (words_of t m.id)
accepted_offset t m e = go (has_object t m.id) (is_text t m.id) (nat_le m.offset (length (words_of t m.id))) refl refl refl
  where
    go : (a b c : Bool) → has_object t m.id ≡ a → is_text t m.id ≡ b → nat_le m.offset (length (words_of t m.id)) ≡ c → m.offset ≤ length (words_of t m.id)
    go a b c ha hb hc = grind (arith, nat_tests, e, ha, hb, hc)

-- its offset is at most 65,536
pub offset_low : (t : Tree) (hangs : IsObjectTree t) (m : Marker) (r : Record) → Some r ≡ record_at t m.id → refusal t m ≡ None → m.offset ≤ 65536
offset_low t hangs m r rec stands = go r.text (hangs.texts m.id r (sym rec)) (subst (λ l. m.offset ≤ length (chars l)) (sym (text_is t m.id r (unwrap_or r.text []) rec refl)) (accepted_offset t m stands))
  where
    go : (o : Option (List ℕ)) → HasFittingText (record r { text = o }) → m.offset ≤ length (chars (unwrap_or o [])) → m.offset ≤ 65536
    go None fits low = let none = ap length chars-nil in omega arith
    go (Some c) fits low = let few = fits.1 in omega arith

-- where two markers are not refused, neither is
pub both_accepted : (t : Tree) (a b : Marker) → refusal_of_both t a b ≡ None → (refusal t a ≡ None) × (refusal t b ≡ None)
both_accepted t a b e = go (is_stale t a) (is_stale t b) (is_out t a) (is_out t b) refl refl refl refl
  where
    go : (p q r s : Bool) → is_stale t a ≡ p → is_stale t b ≡ q → is_out t a ≡ r → is_out t b ≡ s → (refusal t a ≡ None) × (refusal t b ≡ None)
    go p q r s hp hq hr hs = (grind (arith, e, hp, hq, hr, hs), grind (arith, e, hp, hq, hr, hs))
