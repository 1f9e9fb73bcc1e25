-- Marks that have the same elements reach the same.
use Rattle.std.proofs.Common.{◌≡◌, ℕ, List, [], ◌∷◌, Bool, true, false, cond, ◌||◌, ◌&&◌, refl, sym, ap, ◌∙◌}
use Rattle.std.specs.Prelude.{filter, bytes_eq, sum_by}
use Rattle.std.specs.List.{list_any}
use Rattle.ax_base.specs.Characters.{Chars}
use Rattle.ax_base.specs.Document.{Document, body, ids, lineage}
use Rattle.ax_dom.specs.Subtrees.{subtree}
use Rattle.ax_dom.specs.Among.{is_in, has_within}
use Rattle.dom_ids.specs.References.{is_text_in}
use Rattle.dirty_set.specs.Reach.{Marked, is_focus, is_source, ties_to, is_tied, is_label_of, is_touched, is_reached, reach, weight_of, weight}
use Rattle.dirty_set.specs.Alike.{AreAlike}
use Rattle.dirty_set.proofs.Tests.{any_at, found, any_same}
use Rattle.dirty_set.proofs.Texts.{same_text, itself}

filter_same : (p q : ℕ → Bool) (xs : List ℕ) → ((x : ℕ) → p x ≡ q x) → filter p xs ≡ filter q xs
filter_same p q [] same = refl
filter_same p q (x ∷ xs) same = λ i. cond (same x i) (x ∷ filter_same p q xs same i) (filter_same p q xs same i)

-- a test of some text
texts_on : (p : Chars → Bool) (xs ys : List Chars) → ((x : Chars) → is_text_in xs x ≡ is_text_in ys x) → list_any p xs ≡ true → list_any p ys ≡ true
texts_on p xs ys same on =
    let r = found p xs on in
    let there = found (bytes_eq r.0) ys (sym (same r.0) ∙ any_at (bytes_eq r.0) xs r.0 r.1 (itself r.0)) in
    any_at p ys there.0 there.1 (ap p (sym (same_text r.0 there.0 there.2)) ∙ r.2)

texts_alike : (p : Chars → Bool) (xs ys : List Chars) → ((x : Chars) → is_text_in xs x ≡ is_text_in ys x) → list_any p xs ≡ list_any p ys
texts_alike p xs ys same = go (list_any p xs) (list_any p ys) refl refl
  where
    go : (a b : Bool) → list_any p xs ≡ a → list_any p ys ≡ b → a ≡ b
    go true true x y = refl
    go false false x y = refl
    go true false x y = sym (texts_on p xs ys same x) ∙ y
    go false true x y = sym x ∙ texts_on p ys xs (λ z. sym (same z)) y

module _ (d : Document) (a b : Marked) (alike : AreAlike a b) where
  source_alike : (n : ℕ) → is_source d a n ≡ is_source d b n
  source_alike n = λ i. (alike.nodes n i || any_same (is_in a.roots) (is_in b.roots) (lineage d n) (λ r inside. alike.roots r) i) || is_focus d n

  tied_alike : (n : ℕ) → is_tied d a n ≡ is_tied d b n
  tied_alike n = λ i. source_alike n i || texts_alike (ties_to (body d n)) a.texts b.texts alike.texts i

  touched_alike : (n : ℕ) → is_touched d a n ≡ is_touched d b n
  touched_alike n = λ i. tied_alike n i
      || any_same (λ v. has_within d (is_tied d a) v && is_label_of (body d n) (body d v)) (λ v. has_within d (is_tied d b) v && is_label_of (body d n) (body d v)) (ids d)
      (λ v inside. ap (λ h. h && is_label_of (body d n) (body d v)) (any_same (is_tied d a) (is_tied d b) (subtree d v) (λ q below. tied_alike q))) i

  pub reached_alike : (n : ℕ) → is_reached d a n ≡ is_reached d b n
  reached_alike n = any_same (is_touched d a) (is_touched d b) (subtree d n) (λ q below. touched_alike q)

  pub reach_alike : reach d a ≡ reach d b
  reach_alike = filter_same (is_reached d a) (is_reached d b) (ids d) reached_alike

  pub weight_alike : weight d a ≡ weight d b
  weight_alike = ap (sum_by (weight_of d)) reach_alike
