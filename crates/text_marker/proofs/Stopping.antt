-- The stops of a text next to an offset, and its last stop.
use Rattle.std.proofs.Common.{◌≡◌, ℕ, ◌+◌, ◌<◌, ◌≤◌, List, [], ◌∷◌, ◌++◌, length, reverse, Bool, true, cond, nat_lt, refl, sym, ap, subst, ◌∙◌, arith, length-append, chars, IsUtf8, lt-ltb, le-ltb}
use Rattle.std.specs.Prelude.{find, Option, Some, None}
use Rattle.std.specs.List.{concat, All}
use Rattle.std.specs.Option.{option_or}
use Rattle.std.proofs.lemmas.List.{reverse-append}
use Rattle.std.proofs.lemmas.List.Elements.{All-head, All-tail}
use Rattle.std.proofs.lemmas.List.Folds.{find-append}
use Rattle.std.proofs.lemmas.Str.{chars-nil, chars-append, IsUtf8-between}
use Rattle.unicode_segmentation.specs.Grapheme.{graphemes, is_grapheme_break}
use Rattle.unicode_segmentation.specs.Segments.{with_offsets}
use Rattle.unicode_segmentation.proofs.SegmentsLemmas.{concat-segments, IsPieceOf, All-IsPieceOf}
use Rattle.text_marker.specs.Stops.{stops_from, stops_of}
use Rattle.text_marker.proofs.Sizes.{chars_at_most}

pub first_is : (at : ℕ) (ps : List (List ℕ)) → (rest : List ℕ) × (stops_from at ps ≡ at ∷ rest)
first_is at [] = ([], refl)
first_is at (p ∷ ps) = (stops_from (at + length (chars p)) ps, refl)

-- what is passed, with one more piece, still fits
pub passed : (at : ℕ) (p : List ℕ) (pieces ps : List (List ℕ)) (whole count : ℕ) → pieces ≡ p ∷ ps → count ≡ length (chars p) → at + length (concat pieces) ≤ whole → (at + count) + length (concat ps) ≤ whole
passed at p pieces ps whole count is e fits =
    let all = ap (λ l. length (concat l)) is ∙ length-append p (concat ps) in
    let few = chars_at_most p in
    omega arith

pub pieces_fit : (text : List ℕ) → IsUtf8 text → (pieces : List (List ℕ)) → pieces ≡ graphemes true text → 0 + length (concat pieces) ≤ length text
pieces_fit text utf8 pieces is = let e = ap (λ l. length (concat l)) is ∙ ap length (concat-segments (is_grapheme_break true) text utf8) in omega arith

module _ (offset at : ℕ) where
  -- it is the first stop of the pieces
  pub stop_here : (ps : List (List ℕ)) (whole : Option ℕ) → offset < at → whole ≡ find (λ stop. nat_lt offset stop) (stops_from at ps) → Some at ≡ whole
  stop_here ps whole low e =
      let f = first_is at ps in
      sym (e ∙ ap (find (λ stop. nat_lt offset stop)) f.1 ∙ ap (λ b. cond b (Some at) (find (λ stop. nat_lt offset stop) f.0)) (lt-ltb offset at low))

  -- it is not: that of the pieces behind the first
  pub stop_later : (p : List ℕ) (pieces ps : List (List ℕ)) (whole : Option ℕ) → at ≤ offset → pieces ≡ p ∷ ps → whole ≡ find (λ stop. nat_lt offset stop) (stops_from at pieces)
      → whole ≡ find (λ stop. nat_lt offset stop) (stops_from (at + length (chars p)) ps)
  stop_later p pieces ps whole high is e =
      e ∙ ap (λ l. find (λ stop. nat_lt offset stop) (stops_from at l)) is ∙ ap (λ b. cond b (Some at) (find (λ stop. nat_lt offset stop) (stops_from (at + length (chars p)) ps))) (le-ltb offset at high)

-- backward: the last stop below an offset
module _ (offset : ℕ) where
  abbrev below : ℕ → Bool
  below stop = nat_lt stop offset

  -- in reverse, the first stop comes last
  back_step : (at : ℕ) (p : List ℕ) (ps : List (List ℕ)) → find below (reverse (stops_from at (p ∷ ps))) ≡ option_or (find below (reverse (stops_from (at + length (chars p)) ps))) (find below (at ∷ []))
  back_step at p ps = ap (find below) (reverse-append (at ∷ []) (stops_from (at + length (chars p)) ps)) ∙ find-append below (reverse (stops_from (at + length (chars p)) ps)) (at ∷ [])

  alone_high : (at : ℕ) → offset ≤ at → find below (at ∷ []) ≡ None
  alone_high at high = ap (λ b. cond b (Some at) None) (le-ltb at offset high)

  none_high : (at : ℕ) (ps : List (List ℕ)) → offset ≤ at → find below (reverse (stops_from at ps)) ≡ None
  none_high at [] high = alone_high at high
  none_high at (p ∷ ps) high =
      back_step at p ps ∙ ap (λ o. option_or o (find below (at ∷ []))) (none_high (at + length (chars p)) ps (omega arith)) ∙ alone_high at high

  pub back_start : (text : List ℕ) (ps : List (List ℕ)) → ps ≡ graphemes true text → find below (reverse (stops_of text)) ≡ option_or (find below (reverse (stops_from 0 ps))) None
  back_start text ps is = sym (ap (λ l. option_or (find below (reverse (stops_from 0 l))) None) is ∙ go (find below (reverse (stops_of text))))
    where
      go : (o : Option ℕ) → option_or o None ≡ o
      go None = refl
      go (Some x) = refl

  -- the stops that are left are none below the offset
  pub back_found : (at : ℕ) (ps : List (List ℕ)) (whole so_far : Option ℕ) → offset ≤ at → whole ≡ option_or (find below (reverse (stops_from at ps))) so_far → so_far ≡ whole
  back_found at ps whole so_far high e = sym (e ∙ ap (λ o. option_or o so_far) (none_high at ps high))

  -- one more stop below the offset
  pub back_more : (at : ℕ) (p : List ℕ) (pieces ps : List (List ℕ)) (whole so_far : Option ℕ) → at < offset → pieces ≡ p ∷ ps → whole ≡ option_or (find below (reverse (stops_from at pieces))) so_far
      → whole ≡ option_or (find below (reverse (stops_from (at + length (chars p)) ps))) (Some at)
  back_more at p pieces ps whole so_far low is e =
      e ∙ ap (λ l. option_or (find below (reverse (stops_from at l))) so_far) is ∙ ap (λ o. option_or o so_far) (back_step at p ps)
      ∙ ap (λ b. option_or (option_or (find below (reverse (stops_from (at + length (chars p)) ps))) (cond b (Some at) None)) so_far) (lt-ltb at offset low)
      ∙ go (find below (reverse (stops_from (at + length (chars p)) ps)))
    where
      go : (o : Option ℕ) → option_or (option_or o (Some at)) so_far ≡ option_or o (Some at)
      go None = refl
      go (Some x) = refl

  -- no piece is left: the end of the text
  pub back_end : (at : ℕ) (pieces : List (List ℕ)) (whole so_far : Option ℕ) → at < offset → pieces ≡ [] → whole ≡ option_or (find below (reverse (stops_from at pieces))) so_far → Some at ≡ whole
  back_end at pieces whole so_far low is e =
      sym (e ∙ ap (λ l. option_or (find below (reverse (stops_from at l))) so_far) is ∙ ap (λ b. option_or (cond b (Some at) None) so_far) (lt-ltb at offset low))

-- the last stop of a text is its length
module _ (s : List ℕ) (utf8 : IsUtf8 s) where
  ends : (from at : ℕ) (ps : List (List ℕ)) → All (IsPieceOf s) (with_offsets from ps) → (rest : List ℕ) × (reverse (stops_from at ps) ≡ (at + length (chars (concat ps))) ∷ rest)
  unfolding with_offsets
  ends from at [] pieces = ([], ap (λ n. n ∷ []) (let none = ap length chars-nil in omega arith))
  ends from at (p ∷ ps) pieces =
      let here = All-head (IsPieceOf s) (from, p) (with_offsets (from + length p) ps) pieces in
      let is = subst IsUtf8 (sym here.bytes) (IsUtf8-between s from (from + length p) utf8 (omega arith) here.start here.end) in
      let later = ends (from + length p) (at + length (chars p)) ps (All-tail (IsPieceOf s) (from, p) (with_offsets (from + length p) ps) pieces) in
      let count = ap length (chars-append p (concat ps) is) ∙ length-append (chars p) (chars (concat ps)) in
      (later.0 ++ at ∷ [], reverse-append (at ∷ []) (stops_from (at + length (chars p)) ps) ∙ ap (λ l. l ++ at ∷ []) later.1 ∙ ap (λ n. n ∷ (later.0 ++ at ∷ [])) (omega arith))

  pub last_stop : (rest : List ℕ) × (reverse (stops_of s) ≡ length (chars s) ∷ rest)
  last_stop =
      let e = ends 0 0 (graphemes true s) (All-IsPieceOf (is_grapheme_break true) s utf8) in
      (e.0, e.1 ∙ ap (λ n. n ∷ e.0) (let same = ap (λ l. length (chars l)) (concat-segments (is_grapheme_break true) s utf8) in omega arith))
