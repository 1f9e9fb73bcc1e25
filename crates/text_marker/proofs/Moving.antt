-- The moves of a marker, by the text that it is in and the texts next to that.
use Rattle.std.proofs.Common.{◌≡◌, ℕ, ◌+◌, List, [], ◌∷◌, ◌++◌, map, reverse, Contains, Bool, true, false, ◌&&◌, nat_lt, nat_le, refl, sym, ap, subst, ◌∙◌, arith, append_assoc}
use Rattle.std.specs.Prelude.{find, Option, Some, None, Ok, nat_eq}
use Rattle.std.specs.List.{flat_map, list_any}
use Rattle.std.specs.Option.{option_map, unwrap_or}
use Rattle.std.proofs.lemmas.Bool.Decides.{nat_tests}
use Rattle.std.proofs.lemmas.List.{reverse-append, reverse-reverse}
use Rattle.std.proofs.lemmas.List.Elements.{Contains-append_right}
use Rattle.unicode_segmentation.specs.Grapheme.{graphemes}
use Rattle.ax_base.proofs.Membership.{Contains-head}
use Rattle.ax_ask.specs.declared.requests.Marker.{Marker}
use Rattle.ax_record.specs.declared.record.Record.{Record}
use Rattle.ax_record.specs.Tree.{Tree, record_at}
use Rattle.ax_record.specs.ObjectTrees.{IsObjectTree}
use Rattle.text_order.specs.Texts.{is_text, later_texts, earlier_texts, place}
use Rattle.text_order.proofs.Laters.{parted_texts}
use Rattle.text_marker.specs.Stops.{stops_of, word_begins}
use Rattle.text_marker.specs.Markers.{text_at, mark, is_above, stops_at, stops, begins_word, next_char, prev_char, next_word}
use Rattle.text_marker.specs.Answers.{refusal, unless, answered}
use Rattle.text_marker.proofs.Finding.{flat_parts, reverse-flat, reverse-map, in_front, behind, takes, skips, find_map, none_made, none_joined, find_alike, find_alike_joined}
use Rattle.text_marker.proofs.Places.{earlier_place, later_place, lower, upper, level}
use Rattle.text_marker.proofs.Stopping.{first_is}
use Rattle.text_marker.proofs.Texts.{text_is, accepted_text}

-- what passes in none of a list passes in none of its reverse
none_turned : (q : Marker → Bool) (xs : List Marker) → find q xs ≡ None → find q (reverse xs) ≡ None
none_turned q [] e = refl
none_turned q (x ∷ xs) e = go (q x) refl (λ rest. none_turned q xs rest)
  where
    go : (b : Bool) → q x ≡ b → (find q xs ≡ None → find q (reverse xs) ≡ None) → find q (reverse (x ∷ xs)) ≡ None
    go true b rest = let wrong : Some x ≡ None = sym (takes q x xs b) ∙ e in absurd (grind arith)
    go false b rest =
        ap (find q) (reverse-append (x ∷ []) xs) ∙ behind q (reverse xs) (x ∷ []) (rest (sym (skips q x xs b) ∙ e)) ∙ skips q x [] b

lt_le : (a b : ℕ) → nat_lt a b ≡ nat_le (a + 1) b
lt_le a b = grind (arith, nat_tests)

from_none : (b : ℕ) → nat_le 0 b ≡ true
from_none b = grind (arith, nat_tests)

module _ (t : Tree) (k : ℕ) where
  -- the words of one text
  pub word_found : (s : List ℕ) (x : Option ℕ) → s ≡ text_at t k → x ≡ find (λ stop. nat_le 0 stop && list_any (nat_eq stop) (word_begins s)) (stops_of s) → option_map (mark k) x ≡ find (begins_word t) (stops_at t k)
  word_found s x is e =
      ap (option_map (mark k)) (e ∙ find_alike (λ stop. nat_le 0 stop && list_any (nat_eq stop) (word_begins s)) (λ stop. list_any (nat_eq stop) (word_begins s)) (stops_of s) (λ o. ap (λ b. b && list_any (nat_eq o) (word_begins s)) (from_none o)))
      ∙ ap (λ l. option_map (mark k) (find (λ stop. list_any (nat_eq stop) (word_begins l)) (stops_of l))) is ∙ sym (find_map (begins_word t) (mark k) (stops_of (text_at t k)))

  -- one more text has no word
  pub no_word_yet : (at : ℕ) (whole : Option Marker) → later_texts t at ≡ k ∷ later_texts t k → None ≡ find (begins_word t) (stops_at t k)
      → whole ≡ find (begins_word t) (flat_map (stops_at t) (later_texts t at)) → whole ≡ find (begins_word t) (flat_map (stops_at t) (later_texts t k))
  no_word_yet at whole is none e = e ∙ ap (λ l. find (begins_word t) (flat_map (stops_at t) l)) is ∙ behind (begins_word t) (stops_at t k) (flat_map (stops_at t) (later_texts t k)) (sym none)

  pub word_there : (at : ℕ) (s : Marker) (whole : Option Marker) → later_texts t at ≡ k ∷ later_texts t k → Some s ≡ find (begins_word t) (stops_at t k)
      → whole ≡ find (begins_word t) (flat_map (stops_at t) (later_texts t at)) → Some s ≡ whole
  word_there at s whole is found e = sym (e ∙ ap (λ l. find (begins_word t) (flat_map (stops_at t) l)) is ∙ in_front (begins_word t) (stops_at t k) (flat_map (stops_at t) (later_texts t k)) s (sym found))

pub no_word_left : (t : Tree) (at : ℕ) (whole : Option Marker) → later_texts t at ≡ [] → whole ≡ find (begins_word t) (flat_map (stops_at t) (later_texts t at)) → None ≡ whole
no_word_left t at whole is e = sym (e ∙ ap (λ l. find (begins_word t) (flat_map (stops_at t) l)) is)

module _ (t : Tree) (hangs : IsObjectTree t) (m : Marker) (r : Record) (s : List ℕ) (rec : Some r ≡ record_at t m.id) (stands : refusal t m ≡ None) (is : s ≡ unwrap_or r.text []) where
  text : is_text t m.id ≡ true
  text = accepted_text t m stands

  same : s ≡ text_at t m.id
  same = text_is t m.id r s rec is

  answer : {A : Type 0} (value : A) → Ok value ≡ answered t m value
  answer value = sym (ap (λ e. unless e (Ok value)) stands)

  front : List Marker
  front = flat_map (stops_at t) (reverse (earlier_texts t m.id))

  back : List Marker
  back = flat_map (stops_at t) (later_texts t m.id)

  stops_are : stops t ≡ front ++ (stops_at t m.id ++ back)
  unfolding front back
  stops_are = ap (flat_map (stops_at t)) (parted_texts t hangs m.id text) ∙ flat_parts (stops_at t) (reverse (earlier_texts t m.id)) m.id (later_texts t m.id)

  -- the first that passes in the marker's own text
  own : (q : Marker → Bool) (w : ℕ → Bool) (x : Option ℕ) → ((o : ℕ) → q (mark m.id o) ≡ w o) → x ≡ find w (stops_of s) → find q (stops_at t m.id) ≡ option_map (mark m.id) x
  own q w x alike e =
      find_map q (mark m.id) (stops_of (text_at t m.id)) ∙ ap (option_map (mark m.id)) (find_alike (λ o. q (mark m.id o)) w (stops_of (text_at t m.id)) alike)
      ∙ ap (λ l. option_map (mark m.id) (find w (stops_of l))) (sym same) ∙ ap (option_map (mark m.id)) (sym e)

  own_back : (q : Marker → Bool) (w : ℕ → Bool) (x : Option ℕ) → ((o : ℕ) → q (mark m.id o) ≡ w o) → x ≡ find w (reverse (stops_of s)) → find q (reverse (stops_at t m.id)) ≡ option_map (mark m.id) x
  own_back q w x alike e =
      ap (find q) (reverse-map (mark m.id) (stops_of (text_at t m.id))) ∙ find_map q (mark m.id) (reverse (stops_of (text_at t m.id)))
      ∙ ap (option_map (mark m.id)) (find_alike (λ o. q (mark m.id o)) w (reverse (stops_of (text_at t m.id))) alike)
      ∙ ap (λ l. option_map (mark m.id) (find w (reverse (stops_of l)))) (sym same) ∙ ap (option_map (mark m.id)) (sym e)

  -- what fails below: the first that passes is in the marker's text or behind it
  above : (q : Marker → Bool) → ((s : Marker) → is_above t m s ≡ false → q s ≡ false) → find q (stops t) ≡ find q (stops_at t m.id ++ back)
  unfolding front
  above q fails =
      ap (find q) stops_are ∙ behind q front (stops_at t m.id ++ back) (none_joined q (stops_at t) (reverse (earlier_texts t m.id))
      (λ k inside. none_made q (mark k) (stops_of (text_at t k)) (λ o. fails (mark k o) (lower t m (mark k o) (earlier_place t hangs m.id text k inside)))))

  found : (q : Marker → Bool) (w : ℕ → Bool) (o : ℕ) → ((s : Marker) → is_above t m s ≡ false → q s ≡ false) → ((o : ℕ) → q (mark m.id o) ≡ w o) → Some o ≡ find w (stops_of s) → find q (stops t) ≡ Some (mark m.id o)
  found q w o fails alike e = above q fails ∙ in_front q (stops_at t m.id) back (mark m.id o) (own q w (Some o) alike e)

  not_here : (q : Marker → Bool) (w : ℕ → Bool) → ((s : Marker) → is_above t m s ≡ false → q s ≡ false) → ((o : ℕ) → q (mark m.id o) ≡ w o) → None ≡ find w (stops_of s) → find q (stops t) ≡ find q back
  not_here q w fails alike e = above q fails ∙ behind q (stops_at t m.id) back (own q w None alike e)

  levels : (o : ℕ) → is_above t m (mark m.id o) ≡ nat_lt m.offset o
  levels o = level t m (mark m.id o) refl

  -- next_char: a stop of the same text, the first of the next one, or none
  pub next_here : (o : ℕ) → Some o ≡ find (λ stop. nat_lt m.offset stop) (stops_of s) → Ok (Some (mark m.id o)) ≡ answered t m (next_char t m)
  next_here o e = answer (Some (mark m.id o)) ∙ ap (answered t m) (sym (found (is_above t m) (λ stop. nat_lt m.offset stop) o (λ s fails. fails) levels e))

  pub next_behind : (k : ℕ) → None ≡ find (λ stop. nat_lt m.offset stop) (stops_of s) → later_texts t m.id ≡ k ∷ later_texts t k → Ok (Some (mark k 0)) ≡ answered t m (next_char t m)
  unfolding back
  next_behind k e later =
      let f = first_is 0 (graphemes true (text_at t k)) in
      let high = later_place t hangs m.id text k (subst (λ l. Contains l k) (sym later) (Contains-head k (later_texts t k))) in
      let here : find (is_above t m) (stops_at t k) ≡ Some (mark k 0) = ap (λ l. find (is_above t m) (map (mark k) l)) f.1 ∙ takes (is_above t m) (mark k 0) (map (mark k) f.0) (upper t m (mark k 0) high) in
      answer (Some (mark k 0)) ∙ ap (answered t m) (sym (not_here (is_above t m) (λ stop. nat_lt m.offset stop) (λ s fails. fails) levels e
      ∙ ap (λ l. find (is_above t m) (flat_map (stops_at t) l)) later ∙ in_front (is_above t m) (stops_at t k) (flat_map (stops_at t) (later_texts t k)) (mark k 0) here))

  pub next_none : None ≡ find (λ stop. nat_lt m.offset stop) (stops_of s) → later_texts t m.id ≡ [] → Ok None ≡ answered t m (next_char t m)
  unfolding back
  next_none e later =
      answer None ∙ ap (answered t m) (sym (not_here (is_above t m) (λ stop. nat_lt m.offset stop) (λ s fails. fails) levels e ∙ ap (λ l. find (is_above t m) (flat_map (stops_at t) l)) later))

  -- next_word: a stop of the same text, or of a later one
  abbrev begins_above : Marker → Bool
  begins_above s = is_above t m s && begins_word t s

  abbrev begins_here : ℕ → Bool
  begins_here stop = nat_le (m.offset + 1) stop && list_any (nat_eq stop) (word_begins s)

  alike_here : (o : ℕ) → begins_above (mark m.id o) ≡ begins_here o
  alike_here o =
      ap (λ b. b && begins_word t (mark m.id o)) (levels o ∙ lt_le m.offset o) ∙ ap (λ l. nat_le (m.offset + 1) o && list_any (nat_eq o) (word_begins l)) (sym same)

  fails_below : (s : Marker) → is_above t m s ≡ false → begins_above s ≡ false
  fails_below s e = ap (λ b. b && begins_word t s) e

  pub word_here : (o : ℕ) → Some o ≡ find begins_here (stops_of s) → Ok (Some (mark m.id o)) ≡ answered t m (next_word t m)
  word_here o e = answer (Some (mark m.id o)) ∙ ap (answered t m) (sym (found begins_above begins_here o fails_below alike_here e))

  pub word_behind : (x : Option Marker) → None ≡ find begins_here (stops_of s) → x ≡ find (begins_word t) (flat_map (stops_at t) (later_texts t m.id)) → Ok x ≡ answered t m (next_word t m)
  unfolding back
  word_behind x e later =
      answer x ∙ ap (answered t m) (later ∙ sym (not_here begins_above begins_here fails_below alike_here e ∙ find_alike_joined begins_above (begins_word t) (stops_at t) (later_texts t m.id)
      (λ k inside. find_map begins_above (mark k) (stops_of (text_at t k))
      ∙ ap (option_map (mark k)) (find_alike (λ o. begins_above (mark k o)) (λ o. begins_word t (mark k o)) (stops_of (text_at t k)) (λ o. ap (λ b. b && begins_word t (mark k o)) (upper t m (mark k o) (later_place t hangs m.id text k inside))))
      ∙ sym (find_map (begins_word t) (mark k) (stops_of (text_at t k))))))

  -- prev_char
  abbrev is_below : Marker → Bool
  is_below s = is_above t s m

  front_back : reverse front ≡ flat_map (λ k. reverse (stops_at t k)) (earlier_texts t m.id)
  unfolding front
  front_back = reverse-flat (stops_at t) (reverse (earlier_texts t m.id)) ∙ ap (flat_map (λ k. reverse (stops_at t k))) (reverse-reverse (earlier_texts t m.id))

  turned : reverse (stops t) ≡ reverse back ++ (reverse (stops_at t m.id) ++ flat_map (λ k. reverse (stops_at t k)) (earlier_texts t m.id))
  turned =
      ap reverse stops_are ∙ reverse-append front (stops_at t m.id ++ back) ∙ ap (λ l. l ++ reverse front) (reverse-append (stops_at t m.id) back)
      ∙ append_assoc (reverse back) (reverse (stops_at t m.id)) (reverse front) ∙ ap (λ l. reverse back ++ (reverse (stops_at t m.id) ++ l)) front_back

  none_behind : find is_below (reverse back) ≡ None
  unfolding back
  none_behind =
      none_turned is_below (flat_map (stops_at t) (later_texts t m.id)) (none_joined is_below (stops_at t) (later_texts t m.id)
      (λ k inside. none_made is_below (mark k) (stops_of (text_at t k)) (λ o. lower t (mark k o) m (later_place t hangs m.id text k inside))))

  below : prev_char t m ≡ find is_below (reverse (stops_at t m.id) ++ flat_map (λ k. reverse (stops_at t k)) (earlier_texts t m.id))
  below = ap (find is_below) turned ∙ behind is_below (reverse back) (reverse (stops_at t m.id) ++ flat_map (λ k. reverse (stops_at t k)) (earlier_texts t m.id)) none_behind

  levels_below : (o : ℕ) → is_below (mark m.id o) ≡ nat_lt o m.offset
  levels_below o = level t (mark m.id o) m refl

  pub prev_here : (o : ℕ) → Some o ≡ find (λ stop. nat_lt stop m.offset) (reverse (stops_of s)) → Ok (Some (mark m.id o)) ≡ answered t m (prev_char t m)
  prev_here o e =
      answer (Some (mark m.id o)) ∙ ap (answered t m) (sym (below ∙ in_front is_below (reverse (stops_at t m.id)) (flat_map (λ k. reverse (stops_at t k)) (earlier_texts t m.id)) (mark m.id o)
      (own_back is_below (λ stop. nat_lt stop m.offset) (Some o) levels_below e)))

  past_own : None ≡ find (λ stop. nat_lt stop m.offset) (reverse (stops_of s)) → prev_char t m ≡ find is_below (flat_map (λ k. reverse (stops_at t k)) (earlier_texts t m.id))
  past_own e = below ∙ behind is_below (reverse (stops_at t m.id)) (flat_map (λ k. reverse (stops_at t k)) (earlier_texts t m.id)) (own_back is_below (λ stop. nat_lt stop m.offset) None levels_below e)

  pub prev_before : (k : ℕ) (z : Marker) (rest : List Marker) → None ≡ find (λ stop. nat_lt stop m.offset) (reverse (stops_of s)) → earlier_texts t m.id ≡ k ∷ earlier_texts t k → reverse (stops_at t k) ≡ z ∷ rest → z.id ≡ k
      → Ok (Some z) ≡ answered t m (prev_char t m)
  prev_before k z rest e earlier ends at =
      let inside : Contains (reverse (earlier_texts t m.id)) k =
      subst (λ l. Contains l k) (sym (ap reverse earlier ∙ reverse-append (k ∷ []) (earlier_texts t k))) (Contains-append_right (reverse (earlier_texts t k)) (k ∷ []) k (Contains-head k [])) in
      let low = earlier_place t hangs m.id text k inside in
      let there = ap (place t) at in
      let here : find is_below (reverse (stops_at t k)) ≡ Some z = ap (find is_below) ends ∙ takes is_below z rest (upper t z m (omega arith)) in
      answer (Some z) ∙ ap (answered t m) (sym (past_own e ∙ ap (λ l. find is_below (flat_map (λ k. reverse (stops_at t k)) l)) earlier
      ∙ in_front is_below (reverse (stops_at t k)) (flat_map (λ k. reverse (stops_at t k)) (earlier_texts t k)) z here))

  pub prev_none : None ≡ find (λ stop. nat_lt stop m.offset) (reverse (stops_of s)) → earlier_texts t m.id ≡ [] → Ok None ≡ answered t m (prev_char t m)
  prev_none e earlier = answer None ∙ ap (answered t m) (sym (past_own e ∙ ap (λ l. find is_below (flat_map (λ k. reverse (stops_at t k)) l)) earlier))
