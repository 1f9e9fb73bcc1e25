-- Characters that are put in one at a time.
use Rattle.std.proofs.Common.{◌≡◌, ℕ, ◌<◌, List, [], ◌∷◌, ◌++◌, length, get_or, drop, Bool, true, false, cond, not, ◌&&◌, ◌||◌, ◌==◌, refl, sym, ap, ◌∙◌, arith, append_assoc, append-nil}
use Rattle.std.specs.Prelude.{encode_utf8}
use Rattle.std.specs.Str.{IsUtf8, chars}
use Rattle.std.proofs.lemmas.Str.{encodes-chars}
use Rattle.std.proofs.lemmas.List.{drop_more, at_drop_all, length_push}
use Rattle.std.proofs.lemmas.Bool.Decides.{nat_tests}
use lib.Utf8.{encode, encodes}
use Rattle.ax_base.specs.Characters.{Chars, is_white, flat}
use Rattle.ax_names.specs.Pieces.{Opening, is_empty, begins_white, followed, space_behind, spaced}
use Rattle.ax_names.proofs.Openings.{with_words, followed_twice, some_last}
use Rattle.ax_names.proofs.Added.{space, added, spaced_added, white_added, ink_added}
use Rattle.ax_names.proofs.Joining.{empty_cut}

pub empty_length : (t : Chars) → (length t == 0) ≡ is_empty t
empty_length [] = refl
empty_length (c ∷ cs) = grind (arith, nat_tests)

-- the space before a word

pub gap_none : (o : Opening) (white : Bool) → is_empty o.words ≡ true → o ≡ followed o [] → o ≡ followed o (space_behind o.words white)
gap_none o white none stays = stays ∙ ap (λ (e : Bool). followed o (cond (not e && white) (32 ∷ []) [])) (sym none)

and_false : (x : Bool) → (x && false) ≡ false
and_false true = refl
and_false false = refl

pub gap_off : (o : Opening) (white : Bool) → white ≡ false → o ≡ followed o [] → o ≡ followed o (space_behind o.words white)
gap_off o white off stays =
    stays ∙ ap (λ (e : Bool). followed o (cond e (32 ∷ []) [])) (sym (ap (λ (v : Bool). not (is_empty o.words) && v) off ∙ and_false (not (is_empty o.words))))

-- words that are put in

-- a space, and then words
pub words_then : (old mid new : Opening) (words : Chars) (white bare wanted : Bool) → bare ≡ (length words == 0) → wanted ≡ (white && not bare) → mid ≡ followed old (space_behind old.words wanted)
    → new ≡ followed mid words → new ≡ followed old (spaced old.words white words)
words_then old mid new words white bare wanted none want is more =
    more ∙ ap (λ (o : Opening). followed o words) (is ∙ ap (λ (w : Bool). followed old (space_behind old.words w)) (want ∙ ap (λ (e : Bool). white && not e) (none ∙ empty_length words)))
    ∙ followed_twice old (space_behind old.words (white && not (is_empty words))) words

and_true : (x : Bool) → (x && true) ≡ x
and_true true = refl
and_true false = refl

spaced_char : (out : Chars) (white : Bool) (c : ℕ) → spaced out white (encode c) ≡ space (not (is_empty out)) white ++ encode c
spaced_char out white c = ap (λ (w : Bool). space_behind out w ++ encode c) (ap (λ (e : Bool). white && not e) (some_last [] c) ∙ and_true white)

-- a space, and then a character of a word
pub ink_then : (old mid new : Opening) (white : Bool) (c : ℕ) → mid ≡ followed old (space_behind old.words white) → new ≡ followed mid (encode_utf8 c) → new ≡ followed old (spaced old.words white (encode_utf8 c))
ink_then old mid new white c is more =
    more ∙ ap (λ (o : Opening). followed o (encode c)) is ∙ followed_twice old (space_behind old.words white) (encode c) ∙ ap (followed old) (sym (spaced_char old.words white c))

-- a text that is made flat

-- what comes out where `rest` is still to be put in
abbrev after : Opening → Bool → Chars → Opening
after out white rest = followed out (added (not (is_empty out.words)) white rest)

after_ink-at : (w : Chars) (m white : Bool) (c : ℕ) (rest : Chars) (new : Opening) → is_white c ≡ false → new ≡ followed (with_words w m) (spaced w white (encode c)) → after (with_words w m) white (encode c ++ rest) ≡ after new false rest
after_ink-at w true white c rest new e is = λ i. after (sym is i) false rest
after_ink-at w false white c rest new e is =
    let put : Chars = space (not (is_empty w)) white ++ encode c in
    let more : Chars = added true false rest in
    let new_is : new ≡ followed (with_words w false) put = is ∙ ap (followed (with_words w false)) (spaced_char w white c) in
    let some : is_empty new.words ≡ false =
    ap (λ (o : Opening). is_empty o.words) new_is ∙ empty_cut (w ++ put) ∙ ap (λ (l : Chars). is_empty l) (sym (append_assoc w (space (not (is_empty w)) white) (encode c))) ∙ some_last (w ++ space (not (is_empty w)) white) c in
    ap (followed (with_words w false)) (ink_added (not (is_empty w)) white c rest e ∙ sym (append_assoc (space (not (is_empty w)) white) (encode c) more))
    ∙ sym (followed_twice (with_words w false) put more)
    ∙ (λ i. followed (sym new_is i) (added (not (sym some i)) false rest))

-- the characters that are left
abbrev pub left : Chars → List ℕ → List ℕ
left t yielded = drop (length yielded) (chars t)

-- the next character is this one
abbrev pub IsTurn : Chars → List ℕ → ℕ → Type 0
IsTurn t yielded c = (length yielded < length (chars t)) × (c ≡ get_or (chars t) (length yielded) c)

left_turn : (t : Chars) (yielded : List ℕ) (c : ℕ) → IsTurn t yielded c → encodes (left t yielded) ≡ encode c ++ encodes (left t (yielded ++ c ∷ []))
left_turn t yielded c turn =
    ap encodes (drop_more (chars t) (length yielded) c turn.0)
    ∙ (λ i. encode (sym turn.1 i) ++ encodes (drop (sym (length_push yielded c) i) (chars t)))

-- what is put in so far, and what is left of the text, come to what the whole text comes to
pub record IsFlatSoFar (start : Opening) (before : Bool) (t : Chars) (out : Opening) (white : Bool) (yielded : List ℕ) : Type 0 where
  pub stays : followed out [] ≡ out
  pub comes : after out white (encodes (left t yielded)) ≡ followed start (spaced start.words (before || begins_white t) (flat t))

pub flat_start : (o : Opening) (white : Bool) (t : Chars) → IsUtf8 t → o ≡ followed o [] → IsFlatSoFar o white t o white []
flat_start o white t utf8 stays = record {
  stays = sym stays;
  comes = ap (after o white) (encodes-chars t utf8) ∙ ap (followed o) (spaced_added o.words white t);
}

module _ (start : Opening) (before : Bool) (t : Chars) (out : Opening) (white : Bool) (yielded : List ℕ) (so_far : IsFlatSoFar start before t out white yielded) where
  pub flat_white : (c : ℕ) → IsTurn t yielded c → is_white c ≡ true → IsFlatSoFar start before t out true (yielded ++ c ∷ [])
  flat_white c turn e = record {
    stays = so_far.stays;
    comes = ap (followed out) (sym (white_added (not (is_empty out.words)) white c (encodes (left t (yielded ++ c ∷ []))) e)) ∙ ap (after out white) (sym (left_turn t yielded c turn)) ∙ so_far.comes;
  }

  pub flat_ink : (c : ℕ) (new : Opening) → IsTurn t yielded c → is_white c ≡ false → new ≡ followed out (spaced out.words white (encode_utf8 c)) → IsFlatSoFar start before t new false (yielded ++ c ∷ [])
  flat_ink c new turn e is = record {
    stays = ap (λ (o : Opening). followed o []) is ∙ followed_twice out (spaced out.words white (encode c)) [] ∙ ap (followed out) (append-nil (spaced out.words white (encode c))) ∙ sym is;
    comes = sym (after_ink-at out.words out.more white c (encodes (left t (yielded ++ c ∷ []))) new e is) ∙ ap (after out white) (sym (left_turn t yielded c turn)) ∙ so_far.comes;
  }

  -- nothing changes any more
  pub flat_full : out.more ≡ true → out ≡ followed start (spaced start.words (before || begins_white t) (flat t))
  flat_full full = sym (full_stays out.words out.more full) ∙ so_far.comes
    where
      full_stays : (w : Chars) (m : Bool) → m ≡ true → after (with_words w m) white (encodes (left t yielded)) ≡ with_words w m
      full_stays w true full = refl
      full_stays w false full = absurd (cc)

  -- nothing is left
  pub flat_end : length yielded ≡ length (chars t) → out ≡ followed start (spaced start.words (before || begins_white t) (flat t))
  flat_end all = sym so_far.stays ∙ ap (after out white) (sym (at_drop_all encodes (chars t) (length yielded) (omega arith))) ∙ so_far.comes

-- a text that is put in as it is

-- what is put in so far, and what is left of the text, come to what the whole text comes to
pub record IsPutSoFar (start : Opening) (t : Chars) (out : Opening) (yielded : List ℕ) : Type 0 where
  pub stays : followed out [] ≡ out
  pub comes : followed out (encodes (left t yielded)) ≡ followed start t

pub put_start : (o : Opening) (t : Chars) → IsUtf8 t → o ≡ followed o [] → IsPutSoFar o t o []
put_start o t utf8 stays = record { stays = sym stays; comes = ap (followed o) (encodes-chars t utf8) }

module _ (start : Opening) (t : Chars) (out : Opening) (yielded : List ℕ) (so_far : IsPutSoFar start t out yielded) where
  pub put_more : (c : ℕ) (new : Opening) → IsTurn t yielded c → new ≡ followed out (encode_utf8 c) → IsPutSoFar start t new (yielded ++ c ∷ [])
  put_more c new turn is = record {
    stays = ap (λ (o : Opening). followed o []) is ∙ followed_twice out (encode c) [] ∙ ap (followed out) (append-nil (encode c)) ∙ sym is;
    comes = ap (λ (o : Opening). followed o (encodes (left t (yielded ++ c ∷ [])))) is ∙ followed_twice out (encode c) (encodes (left t (yielded ++ c ∷ []))) ∙ ap (followed out) (sym (left_turn t yielded c turn)) ∙ so_far.comes;
  }

  -- nothing changes any more
  pub put_enough : out.more ≡ true → out ≡ followed start t
  put_enough full = sym (full_stays out.words out.more full) ∙ so_far.comes
    where
      full_stays : (w : Chars) (m : Bool) → m ≡ true → followed (with_words w m) (encodes (left t yielded)) ≡ with_words w m
      full_stays w true full = refl
      full_stays w false full = absurd (cc)

  -- nothing is left
  pub put_end : length yielded ≡ length (chars t) → out ≡ followed start t
  put_end all = sym so_far.stays ∙ ap (followed out) (sym (at_drop_all encodes (chars t) (length yielded) (omega arith))) ∙ so_far.comes
