-- Characters that are added while they fit.
use Rattle.std.proofs.Common.{◌≡◌, ℕ, ◌+◌, ◌-◌, ◌<◌, List, [], ◌∷◌, ◌++◌, length, map, take, drop, Bool, true, false, cond, eqb, ◌==◌, if◌then◌else◌, refl, sym, ap, subst, ◌∙◌, arith, length-append, append_assoc, append-nil, Result, Ok, Err, encode_utf8_all, lt-ltb}
use Rattle.std.specs.Prelude.{Some, None, encode_utf8}
use Rattle.std.specs.Str.{chars}
use Rattle.std.proofs.lemmas.Str.{encodes-append}
use Rattle.ax_ask.specs.declared.requests.Marker.{Marker}
use Rattle.ax_record.specs.Tree.{Tree}
use Rattle.text_order.specs.Texts.{later_texts}
use Rattle.text_marker.specs.Markers.{text_at}
use Rattle.text_marker.specs.Ranges.{follow, gap, part, up_to, is_joined, low_of, high_of, words_between, range_words, lesser, greater}
use Rattle.text_marker.specs.Answers.{Pushed, unless, unless_long, refusal_of_both, IsRefusalOf, range_text}
use Rattle.text_marker.specs.declared.errors.MarkError.{MarkError}
use Rattle.text_marker.specs.declared.errors.MarkError.TheVariants.{Stale, Out, Long, NoMemory}

pub pushed_nothing : (left : ℕ) (old : List ℕ) → Pushed left [] old old (Ok left)
pushed_nothing left old = (omega arith, sym (append-nil old))

-- and then some more
pub pushed_then : (left rest : ℕ) (xs ys old mid new : List ℕ) (r : Result ℕ MarkError) → Pushed left xs old mid (Ok rest) → Pushed rest ys mid new r → Pushed left (xs ++ ys) old new r
pushed_then left rest xs ys old mid new (Ok n) first (sum, is) =
    let both = length-append xs ys in let before : rest + length xs ≡ left = first.0 in
    (omega arith, is ∙ ap (λ l. l ++ encode_utf8_all ys) first.1 ∙ append_assoc old (encode_utf8_all xs) (encode_utf8_all ys) ∙ ap (λ l. old ++ l) (sym (encodes-append xs ys)))
pushed_then left rest xs ys old mid new (Err Long) first more = let both = length-append xs ys in let before : rest + length xs ≡ left = first.0 in omega arith
pushed_then left rest xs ys old mid new (Err NoMemory) first more = tt
pushed_then left rest xs ys old mid new (Err Stale) first more = more
pushed_then left rest xs ys old mid new (Err Out) first more = more

-- what fails at the front fails for the whole
pub pushed_front : (left : ℕ) (xs ys old mid : List ℕ) (e : MarkError) → Pushed left xs old mid (Err e) → Pushed left (xs ++ ys) old mid (Err e)
pushed_front left xs ys old mid Long first = let both = length-append xs ys in omega arith
pushed_front left xs ys old mid NoMemory first = tt
pushed_front left xs ys old mid Stale first = first
pushed_front left xs ys old mid Out first = first

module _ (t : Tree) (a b : Marker) (at n : ℕ) (later ns : List ℕ) (is : later ≡ n ∷ ns) (left : ℕ) (old mid : List ℕ) where
  abbrev piece : List ℕ
  piece = gap t at n ++ part t a b n

  whole : (e : Bool) → eqb n b.id ≡ e → follow t a b at (up_to b.id later) ≡ piece ++ follow t a b n (cond e [] (up_to b.id ns))
  whole e tells = ap (λ l. follow t a b at (up_to b.id l)) is ∙ ap (λ c. piece ++ follow t a b n (cond c [] (up_to b.id ns))) tells

  -- one more text was added, which is the last one
  pub follow_last : (rest : ℕ) → eqb n b.id ≡ true → Pushed left piece old mid (Ok rest) → Pushed left (follow t a b at (up_to b.id later)) old mid (Ok rest)
  follow_last rest e first = subst (λ l. Pushed left l old mid (Ok rest)) (sym (whole true e ∙ append-nil piece)) first

  -- or is not
  pub follow_more : (rest : ℕ) (new : List ℕ) (r : Result ℕ MarkError) → eqb n b.id ≡ false → Pushed left piece old mid (Ok rest) → Pushed rest (follow t a b n (up_to b.id ns)) mid new r → Pushed left (follow t a b at (up_to b.id later)) old new r
  follow_more rest new r e first more = subst (λ l. Pushed left l old new r) (sym (whole false e)) (pushed_then left rest piece (follow t a b n (up_to b.id ns)) old mid new r first more)

  -- or could not be added
  pub follow_fails : (e : MarkError) → Pushed left piece old mid (Err e) → Pushed left (follow t a b at (up_to b.id later)) old mid (Err e)
  follow_fails e first =
      subst (λ l. Pushed left l old mid (Err e)) (sym (whole (eqb n b.id) refl)) (pushed_front left piece (follow t a b n (cond (eqb n b.id) [] (up_to b.id ns))) old mid e first)

-- none is left
pub follow_none : (t : Tree) (a b : Marker) (at : ℕ) (later : List ℕ) (left : ℕ) (old : List ℕ) → later ≡ [] → Pushed left (follow t a b at (up_to b.id later)) old old (Ok left)
follow_none t a b at later left old is = subst (λ l. Pushed left (follow t a b at (up_to b.id l)) old old (Ok left)) (sym is) (pushed_nothing left old)

module _ (t : Tree) (a b : Marker) (left rest : ℕ) (old mid : List ℕ) (first : Pushed left (part t a b a.id) old mid (Ok rest)) where
  -- the range has one text
  pub range_one : eqb a.id b.id ≡ true → Pushed left (words_between t a b) old mid (Ok rest)
  range_one e =
      subst (λ l. Pushed left l old mid (Ok rest)) (sym (ap (λ c. part t a b a.id ++ follow t a b a.id (cond c [] (up_to b.id (later_texts t a.id)))) e ∙ append-nil (part t a b a.id))) first

  -- or more
  pub range_more : (new : List ℕ) (r : Result ℕ MarkError) → eqb a.id b.id ≡ false → Pushed rest (follow t a b a.id (up_to b.id (later_texts t a.id))) mid new r → Pushed left (words_between t a b) old new r
  range_more new r e more =
      subst (λ l. Pushed left l old new r) (sym (ap (λ c. part t a b a.id ++ follow t a b a.id (cond c [] (up_to b.id (later_texts t a.id)))) e))
      (pushed_then left rest (part t a b a.id) (follow t a b a.id (up_to b.id (later_texts t a.id))) old mid new r first more)

-- the first part could not be added
pub range_fails : (t : Tree) (a b : Marker) (left : ℕ) (old mid : List ℕ) (e : MarkError) → Pushed left (part t a b a.id) old mid (Err e) → Pushed left (words_between t a b) old mid (Err e)
range_fails t a b left old mid e first = pushed_front left (part t a b a.id) (follow t a b a.id (if a.id == b.id then [] else up_to b.id (later_texts t a.id))) old mid e first

-- a line feed, where the texts do not stand on one line
pub gap_none : (t : Tree) (at n left : ℕ) (b : Bool) (old : List ℕ) → b ≡ is_joined t at n → b ≡ true → Pushed left (gap t at n) old old (Ok left)
gap_none t at n left b old is joined = subst (λ c. Pushed left (cond c [] (10 ∷ [])) old old (Ok left)) (sym joined ∙ is) (pushed_nothing left old)

pub gap_pushed : (t : Tree) (at n left : ℕ) (b : Bool) (old new : List ℕ) (r : Result ℕ MarkError) → b ≡ is_joined t at n → b ≡ false → Pushed left (drop 0 (take 1 (chars (10 ∷ [])))) old new r → Pushed left (gap t at n) old new r
unfolding chars
gap_pushed t at n left b old new r is apart pushed = subst (λ c. Pushed left (cond c [] (10 ∷ [])) old new r) (sym apart ∙ is) pushed

-- the part of a text, by where it begins and where it ends
pub part_pushed : (t : Tree) (a b : Marker) (n left low high count : ℕ) (s old new : List ℕ) (r : Result ℕ MarkError) → s ≡ text_at t n → count ≡ length (chars s) → low ≡ low_of a n → high ≡ (if n == b.id then b.offset else count)
    → Pushed left (drop low (take high (chars s))) old new r → Pushed left (part t a b n) old new r
part_pushed t a b n left low high count s old new r is long lows highs pushed =
    let ends : high ≡ high_of t b n = highs ∙ ap (λ k. cond (n == b.id) b.offset k) (long ∙ ap (λ l. length (chars l)) is) in
    subst (λ l. Pushed left l old new r) (ap (λ k. drop k (take high (chars s))) lows ∙ ap (λ k. drop (low_of a n) (take k (chars s))) ends ∙ ap (λ l. drop (low_of a n) (take (high_of t b n) (chars l))) is) pushed

map_same : (xs : List ℕ) → map (λ x. x) xs ≡ xs
map_same [] = refl
map_same (x ∷ xs) = ap (λ l. x ∷ l) (map_same xs)

-- one character more
pub cut_more : (old mid new ys : List ℕ) (c left all : ℕ) → mid ≡ old ++ encode_utf8_all ys → left + length ys ≡ all → 0 < left → new ≡ mid ++ encode_utf8 c → (new ≡ old ++ encode_utf8_all (ys ++ c ∷ [])) × ((left - 1) + length (ys ++ c ∷ []) ≡ all)
cut_more old mid new ys c left all is sum some pushed =
    let size = length-append ys (c ∷ []) in
    (pushed ∙ ap (λ l. mid ++ l) (sym (append-nil (encode_utf8 c))) ∙ ap (λ l. l ++ encode_utf8_all (c ∷ [])) is ∙ append_assoc old (encode_utf8_all ys) (encode_utf8_all (c ∷ [])) ∙ ap (λ l. old ++ l) (sym (encodes-append ys (c ∷ []))), omega arith)

-- no character is left
pub cut_all : (old new ys all : List ℕ) (left most : ℕ) → new ≡ old ++ encode_utf8_all ys → left + length ys ≡ most → map (λ x. x) ys ≡ all → Pushed most all old new (Ok left)
cut_all old new ys all left most is sum e = subst (λ l. Pushed most l old new (Ok left)) (sym (map_same ys) ∙ e) (sum, is)

-- one more does not fit
pub cut_long : (all ys : List ℕ) (left most : ℕ) → left + length ys ≡ most → left ≡ 0 → length ys < length all → most < length all
cut_long all ys left most sum none more = omega arith

module _ (t : Tree) (a b : Marker) (stand : refusal_of_both t a b ≡ None) where
  accepted : range_text t a b ≡ unless_long (range_words t a b)
  accepted = ap (λ e. unless e (unless_long (range_words t a b))) stand

  -- the text of the range could not be added
  pub range_refused : (low high : Marker) (old new : List ℕ) (e : MarkError) → low ≡ lesser t a b → high ≡ greater t a b → Pushed 4096 (words_between t low high) old new (Err e) → IsRefusalOf (range_text t a b) e
  range_refused low high old new Long lows highs pushed =
      let over : 4096 < length (range_words t a b) = subst (λ l. 4096 < length l) (ap (λ m. words_between t m high) lows ∙ ap (words_between t (lesser t a b)) highs) pushed in
      accepted ∙ ap (λ c. cond c (Err Long) (Ok (encode_utf8_all (range_words t a b)))) (lt-ltb 4096 (length (range_words t a b)) over)
  range_refused low high old new NoMemory lows highs pushed = tt
  range_refused low high old new Stale lows highs pushed = absurd pushed
  range_refused low high old new Out lows highs pushed = absurd pushed

-- one of the markers is refused
pub refused_both : (t : Tree) (a b : Marker) (e : MarkError) → refusal_of_both t a b ≡ Some e → IsRefusalOf (range_text t a b) e
refused_both t a b Stale is = ap (λ o. unless o (unless_long (range_words t a b))) is
refused_both t a b Out is = ap (λ o. unless o (unless_long (range_words t a b))) is
refused_both t a b Long is = ap (λ o. unless o (unless_long (range_words t a b))) is
refused_both t a b NoMemory is = tt
