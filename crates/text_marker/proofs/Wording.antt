-- Where words begin, and the stops of a text side by side with that.
use Rattle.std.proofs.Common.{◌≡◌, ◌≢◌, ℕ, ◌+◌, ◌<◌, ◌≤◌, List, [], ◌∷◌, ◌++◌, filter, length, Bool, true, false, cond, ◌&&◌, ◌||◌, nat_le, refl, sym, ap, ◌∙◌, arith, append_assoc, chars, IsUtf8}
use Rattle.std.specs.Prelude.{find, Option, Some, None, nat_eq, bytes_eq}
use Rattle.std.specs.List.{list_any, concat}
use Rattle.std.proofs.lemmas.Bool.{false≢true}
use Rattle.std.proofs.lemmas.Bool.Decides.{nat_tests}
use Rattle.std.proofs.lemmas.Map.Views.{any-filter_same}
use Rattle.std.proofs.lemmas.Slice.Eq.{bytes_eq-Decides}
use Rattle.unicode_segmentation.specs.Segments.{has_alphanumeric}
use Rattle.unicode_segmentation.specs.Word.{word_bounds, is_word_break}
use Rattle.unicode_segmentation.proofs.SegmentsLemmas.{concat-segments}
use Rattle.unicode_segmentation.specs.Grapheme.{graphemes}
use Rattle.text_marker.specs.Stops.{stops_from, stops_of, begins_from, word_begins, word_begins_from}
use Rattle.text_marker.proofs.Finding.{skips, takes}

any_joined : (p : List ℕ) (pre ps : List (List ℕ)) → list_any (bytes_eq p) (pre ++ p ∷ ps) ≡ true
any_joined p [] ps = ap (λ b. b || list_any (bytes_eq p) ps) ((bytes_eq-Decides p p).1 refl)
any_joined p (x ∷ pre) ps = go (bytes_eq p x) (any_joined p pre ps)
  where
    go : (b : Bool) → list_any (bytes_eq p) (pre ++ p ∷ ps) ≡ true → (b || list_any (bytes_eq p) (pre ++ p ∷ ps)) ≡ true
    go true e = refl
    go false e = e

-- a piece is equal to one of the words exactly where it has a letter or a number
word_told : (p : List ℕ) (pre ps : List (List ℕ)) → list_any (bytes_eq p) (filter has_alphanumeric (pre ++ p ∷ ps)) ≡ has_alphanumeric p
word_told p pre ps =
    any-filter_same (bytes_eq p) has_alphanumeric (has_alphanumeric p) (λ k e. ap has_alphanumeric (sym ((bytes_eq-Decides p k).0 e))) (pre ++ p ∷ ps)
    ∙ ap (λ b. has_alphanumeric p && b) (any_joined p pre ps) ∙ both (has_alphanumeric p)
  where
    both : (b : Bool) → (b && true) ≡ b
    both true = refl
    both false = refl

begins_told : (at : ℕ) (pre ps : List (List ℕ)) → begins_from at (filter has_alphanumeric (pre ++ ps)) ps ≡ word_begins_from at ps
begins_told at pre [] = refl
begins_told at pre (p ∷ ps) =
    ap (λ b. (cond b (at ∷ []) []) ++ begins_from (at + length (chars p)) (filter has_alphanumeric (pre ++ p ∷ ps)) ps) (word_told p pre ps)
    ∙ ap (λ l. (cond (has_alphanumeric p) (at ∷ []) []) ++ begins_from (at + length (chars p)) (filter has_alphanumeric l) ps) (sym (append_assoc pre (p ∷ []) ps))
    ∙ ap (λ l. (cond (has_alphanumeric p) (at ∷ []) []) ++ l) (begins_told (at + length (chars p)) (pre ++ p ∷ []) ps)

-- the beginnings of words are told by the pieces alone
pub begins_alone : (text : List ℕ) → word_begins text ≡ word_begins_from 0 (word_bounds text)
begins_alone text = begins_told 0 [] (word_bounds text)

bound_skipped : (at : ℕ) (p : List ℕ) (ps : List (List ℕ)) → has_alphanumeric p ≡ false → word_begins_from at (p ∷ ps) ≡ word_begins_from (at + length (chars p)) ps
bound_skipped at p ps e = ap (λ b. (cond b (at ∷ []) []) ++ word_begins_from (at + length (chars p)) ps) e

bound_taken : (at : ℕ) (p : List ℕ) (ps : List (List ℕ)) → has_alphanumeric p ≡ true → word_begins_from at (p ∷ ps) ≡ at ∷ word_begins_from (at + length (chars p)) ps
bound_taken at p ps e = ap (λ b. (cond b (at ∷ []) []) ++ word_begins_from (at + length (chars p)) ps) e

-- what is kept passes
first_passes : (ps : List (List ℕ)) (w : List ℕ) (ws : List (List ℕ)) → filter has_alphanumeric ps ≡ w ∷ ws → has_alphanumeric w ≡ true
first_passes [] w ws e = absurd (grind arith)
first_passes (p ∷ ps) w ws e = go (has_alphanumeric p) refl (λ later. first_passes ps w ws later)
  where
    go : (b : Bool) → has_alphanumeric p ≡ b → (filter has_alphanumeric ps ≡ w ∷ ws → has_alphanumeric w ≡ true) → has_alphanumeric w ≡ true
    go true b rest =
        let is : p ∷ filter has_alphanumeric ps ≡ w ∷ ws = sym (ap (λ c. cond c (p ∷ filter has_alphanumeric ps) (filter has_alphanumeric ps)) b) ∙ e in
        let same : p ≡ w = cc in
        ap has_alphanumeric (sym same) ∙ b
    go false b rest = rest (sym (ap (λ c. cond c (p ∷ filter has_alphanumeric ps) (filter has_alphanumeric ps)) b) ∙ e)

-- the next piece is the next word, which begins there
pub word_taken : (at count past : ℕ) (p w : List ℕ) (pieces ps ws : List (List ℕ)) → pieces ≡ p ∷ ps → filter has_alphanumeric pieces ≡ w ∷ ws → p ≡ w → count ≡ length (chars p) → past ≡ at + count
    → (word_begins_from at pieces ≡ at ∷ word_begins_from past ps) × (filter has_alphanumeric ps ≡ ws)
word_taken at count past p w pieces ps ws is left same e sum =
    let passes : has_alphanumeric p ≡ true = ap has_alphanumeric same ∙ first_passes pieces w ws left in
    let kept : p ∷ filter has_alphanumeric ps ≡ w ∷ ws = sym (ap (λ c. cond c (p ∷ filter has_alphanumeric ps) (filter has_alphanumeric ps)) passes) ∙ sym (ap (filter has_alphanumeric) is) ∙ left in
    (ap (word_begins_from at) is ∙ bound_taken at p ps passes ∙ ap (λ n. at ∷ word_begins_from n ps) (sym (sum ∙ ap (λ c. at + c) e)), cc)

-- the next piece is not the next word, and has none
pub bound_passed : (at count past : ℕ) (p w : List ℕ) (pieces ps ws : List (List ℕ)) → pieces ≡ p ∷ ps → filter has_alphanumeric pieces ≡ w ∷ ws → p ≢ w → count ≡ length (chars p) → past ≡ at + count
    → (word_begins_from at pieces ≡ word_begins_from past ps) × (filter has_alphanumeric ps ≡ w ∷ ws)
bound_passed at count past p w pieces ps ws is left apart e sum = go (has_alphanumeric p) refl
  where
    go : (b : Bool) → has_alphanumeric p ≡ b → (word_begins_from at pieces ≡ word_begins_from past ps) × (filter has_alphanumeric ps ≡ w ∷ ws)
    go true b =
        let kept : p ∷ filter has_alphanumeric ps ≡ w ∷ ws = sym (ap (λ c. cond c (p ∷ filter has_alphanumeric ps) (filter has_alphanumeric ps)) b) ∙ sym (ap (filter has_alphanumeric) is) ∙ left in
        let same : p ≡ w = cc in
        absurd (apart same)
    go false b = (
      ap (word_begins_from at) is ∙ bound_skipped at p ps b ∙ ap (λ n. word_begins_from n ps) (sym (sum ∙ ap (λ c. at + c) e)),
      sym (ap (λ c. cond c (p ∷ filter has_alphanumeric ps) (filter has_alphanumeric ps)) b) ∙ sym (ap (filter has_alphanumeric) is) ∙ left,
    )

-- no word is left
pub no_begins : (at : ℕ) (ps : List (List ℕ)) → filter has_alphanumeric ps ≡ [] → word_begins_from at ps ≡ []
no_begins at [] e = refl
no_begins at (p ∷ ps) e = go (has_alphanumeric p) refl (λ later. no_begins (at + length (chars p)) ps later)
  where
    go : (b : Bool) → has_alphanumeric p ≡ b → (filter has_alphanumeric ps ≡ [] → word_begins_from (at + length (chars p)) ps ≡ []) → word_begins_from at (p ∷ ps) ≡ []
    go true b rest = let wrong : p ∷ filter has_alphanumeric ps ≡ [] = sym (ap (λ c. cond c (p ∷ filter has_alphanumeric ps) (filter has_alphanumeric ps)) b) ∙ e in absurd (grind arith)
    go false b rest = bound_skipped at p ps b ∙ rest (sym (ap (λ c. cond c (p ∷ filter has_alphanumeric ps) (filter has_alphanumeric ps)) b) ∙ e)

apart_low : (s at : ℕ) → s < at → nat_eq s at ≡ false
apart_low s at low = grind (arith, nat_tests)

-- no word of the pieces begins before them
none_low : (s at : ℕ) (ps : List (List ℕ)) → s < at → list_any (nat_eq s) (word_begins_from at ps) ≡ false
none_low s at [] low = refl
none_low s at (p ∷ ps) low = go (has_alphanumeric p) refl (none_low s (at + length (chars p)) ps (omega arith))
  where
    go : (b : Bool) → has_alphanumeric p ≡ b → list_any (nat_eq s) (word_begins_from (at + length (chars p)) ps) ≡ false → list_any (nat_eq s) (word_begins_from at (p ∷ ps)) ≡ false
    go true b rest = ap (list_any (nat_eq s)) (bound_taken at p ps b) ∙ ap (λ c. c || list_any (nat_eq s) (word_begins_from (at + length (chars p)) ps)) (apart_low s at low) ∙ rest
    go false b rest = ap (list_any (nat_eq s)) (bound_skipped at p ps b) ∙ rest

module _ (q r : ℕ → Bool) where
  -- tests that agree from the first stop on
  high_alike : (at : ℕ) (ps : List (List ℕ)) → ((s : ℕ) → at ≤ s → q s ≡ r s) → find q (stops_from at ps) ≡ find r (stops_from at ps)
  high_alike at [] same = ap (λ b. cond b (Some at) None) (same at (omega arith))
  high_alike at (p ∷ ps) same =
      ap (λ b. cond b (Some at) (find q (stops_from (at + length (chars p)) ps))) (same at (omega arith))
      ∙ ap (λ o. cond (r at) (Some at) o) (high_alike (at + length (chars p)) ps (λ s high. same s (omega arith)))

module _ (from : ℕ) where
  -- a stop from an offset on at which one of some words begins
  abbrev pub begins : List ℕ → ℕ → Bool
  begins bs stop = nat_le from stop && list_any (nat_eq stop) bs

  below_from : (bs : List ℕ) (s : ℕ) → s < from → begins bs s ≡ false
  below_from bs s low = let e : nat_le from s ≡ false = grind (arith, nat_tests) in ap (λ b. b && list_any (nat_eq s) bs) e

  both_false : (b : Bool) → (b && false) ≡ false
  both_false true = refl
  both_false false = refl

  -- no stop before the next word is one
  pub below_begin : (begin past : ℕ) (ps : List (List ℕ)) (bs : List ℕ) → bs ≡ begin ∷ word_begins_from past ps → begin ≤ past → (s : ℕ) → s < begin → begins bs s ≡ false
  below_begin begin past ps bs is after s low =
      ap (λ l. begins l s) is ∙ ap (λ b. nat_le from s && (b || list_any (nat_eq s) (word_begins_from past ps))) (apart_low s begin low)
      ∙ ap (λ b. nat_le from s && b) (none_low s past ps (omega arith)) ∙ both_false (nat_le from s)

  pub from_start : (bs : List ℕ) (s : ℕ) → s < from → begins bs s ≡ false
  from_start bs s low = below_from bs s low

  first_stop : (at : ℕ) (ps : List (List ℕ)) → (rest : List ℕ) × (stops_from at ps ≡ at ∷ rest)
  first_stop at [] = ([], refl)
  first_stop at (p ∷ ps) = (stops_from (at + length (chars p)) ps, refl)

  -- the stop is the next word's
  pub begin_found : (stop begin past : ℕ) (ps gs : List (List ℕ)) (bs : List ℕ) (whole : Option ℕ) → bs ≡ begin ∷ word_begins_from past ps → from ≤ stop → stop ≡ begin → whole ≡ find (begins bs) (stops_from stop gs) → Some stop ≡ whole
  begin_found stop begin past ps gs bs whole is high same e =
      let f = first_stop stop gs in
      let a : nat_le from stop ≡ true = grind (arith, nat_tests) in
      let b : nat_eq stop begin ≡ true = grind (arith, nat_tests) in
      let here : begins bs stop ≡ true = ap (λ l. begins l stop) is ∙ ap (λ c. c && (nat_eq stop begin || list_any (nat_eq stop) (word_begins_from past ps))) a ∙ ap (λ c. c || list_any (nat_eq stop) (word_begins_from past ps)) b in
      sym (e ∙ ap (find (begins bs)) f.1 ∙ takes (begins bs) stop f.0 here)

  -- it is past it: that word begins at no stop
  pub begin_missed : (stop begin past : ℕ) (ps gs : List (List ℕ)) (bs : List ℕ) (whole : Option ℕ) → bs ≡ begin ∷ word_begins_from past ps → begin ≤ stop → stop ≢ begin → whole ≡ find (begins bs) (stops_from stop gs)
      → whole ≡ find (begins (word_begins_from past ps)) (stops_from stop gs)
  begin_missed stop begin past ps gs bs whole is high apart e =
      e ∙ ap (λ l. find (begins l) (stops_from stop gs)) is ∙ high_alike (begins (begin ∷ word_begins_from past ps)) (begins (word_begins_from past ps)) stop gs
      (λ s above. let off : nat_eq s begin ≡ false = grind (arith, nat_tests) in ap (λ b. nat_le from s && (b || list_any (nat_eq s) (word_begins_from past ps))) off)

  none_of : (xs : List ℕ) → find (begins []) xs ≡ None
  none_of [] = refl
  none_of (x ∷ xs) = skips (begins []) x xs (both_false (nat_le from x)) ∙ none_of xs

  -- no word is left
  pub no_begin : (stop : ℕ) (gs : List (List ℕ)) (bs : List ℕ) (whole : Option ℕ) → bs ≡ [] → whole ≡ find (begins bs) (stops_from stop gs) → None ≡ whole
  no_begin stop gs bs whole is e = sym (e ∙ ap (λ l. find (begins l) (stops_from stop gs)) is ∙ none_of (stops_from stop gs))

  -- at the start all stops are left that are from the offset on
  pub words_start : (text : List ℕ) (ps gs gs' : List (List ℕ)) (stop : ℕ) → ps ≡ word_bounds text → gs ≡ graphemes true text
      → ((q : ℕ → Bool) → ((s : ℕ) → s < from → q s ≡ false) → find q (stops_from 0 gs) ≡ find q (stops_from stop gs'))
      → find (begins (word_begins text)) (stops_of text) ≡ find (begins (word_begins_from 0 ps)) (stops_from stop gs')
  words_start text ps gs gs' stop is same law =
      ap (λ l. find (begins l) (stops_of text)) (begins_alone text ∙ ap (word_begins_from 0) (sym is)) ∙ ap (λ l. find (begins (word_begins_from 0 ps)) (stops_from 0 l)) (sym same)
      ∙ law (begins (word_begins_from 0 ps)) (below_from (word_begins_from 0 ps))

  pub words_start_none : (text : List ℕ) (gs : List (List ℕ)) → gs ≡ graphemes true text
      → ((q : ℕ → Bool) → ((s : ℕ) → s < from → q s ≡ false) → find q (stops_from 0 gs) ≡ None) → None ≡ find (begins (word_begins text)) (stops_of text)
  words_start_none text gs same law = sym (ap (λ l. find (begins (word_begins text)) (stops_from 0 l)) (sym same) ∙ law (begins (word_begins text)) (below_from (word_begins text)))

-- the pieces between word boundaries have no more bytes than the text
pub bounds_fit : (text : List ℕ) → IsUtf8 text → (pieces : List (List ℕ)) → pieces ≡ word_bounds text → 0 + length (concat pieces) ≤ length text
bounds_fit text utf8 pieces is = let e = ap (λ l. length (concat l)) is ∙ ap length (concat-segments is_word_break text utf8) in omega arith

-- what a test of two texts tells
pub told_same : (b : Bool) (p w : List ℕ) → b ≡ bytes_eq p w → b ≡ true → p ≡ w
told_same b p w e holds = (bytes_eq-Decides p w).0 (sym e ∙ holds)

pub told_apart : (b : Bool) (p w : List ℕ) → b ≡ bytes_eq p w → b ≡ false → p ≢ w
told_apart b p w e fails = λ same. false≢true (sym fails ∙ e ∙ (bytes_eq-Decides p w).1 same)
