-- Texts that are flat already.
use Rattle.std.proofs.Common.{◌≡◌, ℕ, ◌+◌, ◌<◌, List, [], ◌∷◌, ◌++◌, length, get_or, drop, Bool, true, false, cond, not, ◌&&◌, ◌||◌, eqb, refl, sym, ap, ◌∙◌, arith, append_assoc, append-nil}
use Rattle.std.specs.List.{join_with_byte}
use Rattle.std.specs.Fmt.{char_count, is_char_start}
use Rattle.std.proofs.lemmas.Bool.{false≢true, eqb-true}
use Rattle.std.proofs.lemmas.Bool.Decides.{nat_tests}
use Rattle.std.proofs.lemmas.List.{at_drop_more}
use Rattle.ax_base.specs.Characters.{Chars, is_white, tokens, tokens_after, flat}
use Rattle.ax_base.proofs.Flattening.{word_byte}
use Rattle.ax_names.specs.Pieces.{Opening, is_empty, begins_white, is_ink, evenly_spaced, followed, space_behind, spaced}
use Rattle.ax_names.proofs.Putting.{empty_length, words_then}

both_true : (a b : Bool) → (a && b) ≡ true → (a ≡ true) × (b ≡ true)
both_true true b e = (refl, e)
both_true false b e = absurd (false≢true e)

ink_bounds : (b : ℕ) → is_ink b ≡ true → (32 < b) × (b < 128)
ink_bounds b ink = (grind (arith, nat_tests), grind (arith, nat_tests))

ink_shows : (b : ℕ) → is_ink b ≡ true → is_white b ≡ false
ink_shows b ink = let bounds = ink_bounds b ink in let low = bounds.0 in grind (arith, nat_tests)

-- the first byte, where the text goes on
one_byte : (parted : Bool) (b : ℕ) (bs : Chars) → evenly_spaced parted (b ∷ bs) ≡ true → (P : Type 0)
    → (b ≡ 32 → parted ≡ false → evenly_spaced true bs ≡ true → P) → (is_ink b ≡ true → evenly_spaced false bs ≡ true → P) → P
one_byte parted b bs even P space ink = go (eqb b 32) refl even
  where
    unparted : (p : Bool) → not p ≡ true → p ≡ false
    unparted true e = absurd (false≢true e)
    unparted false e = refl

    go : (x : Bool) → eqb b 32 ≡ x → cond x (not parted && evenly_spaced true bs) (is_ink b && evenly_spaced false bs) ≡ true → P
    go true same e = let parts = both_true (not parted) (evenly_spaced true bs) e in space (eqb-true b 32 same) (unparted parted parts.0) parts.1
    go false other e = let parts = both_true (is_ink b) (evenly_spaced false bs) e in ink parts.0 parts.1

join : List Chars → Chars
join ws = join_with_byte 32 ws

white_ends : (w : Chars) (rest : Chars) → 0 < length w → tokens_after w (32 ∷ rest) ≡ w ∷ tokens_after [] rest
white_ends [] rest some = absurd (omega arith)
white_ends (x ∷ xs) rest some = refl

join_two : (w : Chars) (ts : List Chars) (bs : Chars) → join ts ≡ bs → evenly_spaced true bs ≡ true → join (w ∷ ts) ≡ w ++ 32 ∷ bs
unfolding join
join_two w [] bs is even = absurd (false≢true (ap (evenly_spaced true) is ∙ even))
join_two w (t ∷ ts) bs is even = ap (λ l. w ++ (32 ∷ l)) is

longer_some : (v more : Chars) → 0 < length v → 0 < length (v ++ more)
longer_some [] more some = absurd (omega arith)
longer_some (x ∷ xs) more some = omega arith

-- what comes out of these bytes where a text begins, and where a word goes on
abbrev Words : Chars → Type 0
Words bs = (evenly_spaced true bs ≡ true → join (tokens_after [] bs) ≡ bs) × ((w : Chars) → 0 < length w → evenly_spaced false bs ≡ true → join (tokens_after w bs) ≡ w ++ bs)

first_byte : (b : ℕ) (bs : Chars) → Words bs → evenly_spaced true (b ∷ bs) ≡ true → join (tokens_after [] (b ∷ bs)) ≡ b ∷ bs
first_byte b bs words even =
    one_byte true b bs even (join (tokens_after [] (b ∷ bs)) ≡ b ∷ bs) (λ same parted rest. absurd (false≢true (sym parted)))
    (λ ink rest. ap join (word_byte [] b bs (ink_shows b ink)) ∙ words.1 (b ∷ []) (omega arith) rest)

next_byte : (b : ℕ) (bs : Chars) → Words bs → (w : Chars) → 0 < length w → evenly_spaced false (b ∷ bs) ≡ true → join (tokens_after w (b ∷ bs)) ≡ w ++ b ∷ bs
next_byte b bs words w some even =
    one_byte false b bs even (join (tokens_after w (b ∷ bs)) ≡ w ++ b ∷ bs)
    (λ same parted rest.
    ap (λ c. join (tokens_after w (c ∷ bs))) same ∙ ap join (white_ends w bs some) ∙ join_two w (tokens_after [] bs) bs (words.0 rest) rest ∙ ap (λ c. w ++ c ∷ bs) (sym same))
    (λ ink rest. ap join (word_byte w b bs (ink_shows b ink)) ∙ words.1 (w ++ b ∷ []) (longer_some w (b ∷ []) some) rest ∙ append_assoc w (b ∷ []) bs)

words_end : (w : Chars) → 0 < length w → join (tokens_after w []) ≡ w ++ []
unfolding join
words_end [] some = absurd (omega arith)
words_end (x ∷ xs) some = sym (append-nil (x ∷ xs))

words_of : (bs : Chars) → Words bs
words_of [] = (λ even. absurd (false≢true even), λ w some even. words_end w some)
words_of (b ∷ bs) = (first_byte b bs (words_of bs), next_byte b bs (words_of bs))

-- to make such a text flat changes nothing
pub flat_even : (t : Chars) → evenly_spaced true t ≡ true → flat t ≡ t
unfolding flat tokens join
flat_even t even = (words_of t).0 even

-- it begins with a word
pub begins_even : (t : Chars) → evenly_spaced true t ≡ true → begins_white t ≡ false
begins_even [] even = refl
begins_even (b ∷ bs) even = one_byte true b bs even (is_white b ≡ false) (λ same parted rest. absurd (false≢true (sym parted))) (λ ink rest. ink_shows b ink)

pub some_even : (t : Chars) → evenly_spaced true t ≡ true → is_empty t ≡ false
some_even [] even = absurd (false≢true even)
some_even (b ∷ bs) even = refl

start_low : (b : ℕ) → b < 128 → is_char_start b ≡ true
start_low b low = grind (arith, nat_tests)

-- it has as many characters as bytes
pub count_even : (parted : Bool) (t : Chars) → evenly_spaced parted t ≡ true → char_count t ≡ length t
unfolding char_count
count_even parted [] even = refl
count_even parted (b ∷ bs) even =
    one_byte parted b bs even (char_count (b ∷ bs) ≡ length (b ∷ bs))
    (λ same unparted rest. counted (start_low b (omega arith)) (count_even true bs rest))
    (λ ink rest. counted (start_low b (ink_bounds b ink).1) (count_even false bs rest))
  where
    counted : is_char_start b ≡ true → char_count bs ≡ length bs → cond (is_char_start b) 1 0 + char_count bs ≡ length (b ∷ bs)
    counted start rest = rw start (omega arith)

-- one byte more is read
pub even_more : (xs : Chars) (i b : ℕ) (parted : Bool) → i < length xs → b ≡ get_or xs i b
    → evenly_spaced parted (drop i xs) ≡ cond (eqb b 32) (not parted && evenly_spaced true (drop (i + 1) xs)) (is_ink b && evenly_spaced false (drop (i + 1) xs))
even_more xs i b parted low is =
    at_drop_more (evenly_spaced parted) xs i b low
    ∙ ap (λ c. cond (eqb c 32) (not parted && evenly_spaced true (drop (i + 1) xs)) (is_ink c && evenly_spaced false (drop (i + 1) xs))) (sym is)

or_false : (x : Bool) → (x || false) ≡ x
or_false true = refl
or_false false = refl

and_true : (x : Bool) → (x && true) ≡ x
and_true true = refl
and_true false = refl

-- what it adds is what its flat text adds
pub even_is : (out : Chars) (white : Bool) (t : Chars) → evenly_spaced true t ≡ true → spaced out white t ≡ spaced out (white || begins_white t) (flat t)
even_is out white t even =
    let apart : white ≡ (white || begins_white t) = sym (ap (λ b. white || b) (begins_even t even) ∙ or_false white) in
    ap (λ b. spaced out b t) apart ∙ ap (spaced out (white || begins_white t)) (sym (flat_even t even))

-- a space, and then such a text
pub even_then : (old mid new : Opening) (t : Chars) (white : Bool) → evenly_spaced true t ≡ true → mid ≡ followed old (space_behind old.words white) → new ≡ followed mid t → new ≡ followed old (spaced old.words white t)
even_then old mid new t white even is more =
    words_then old mid new t white false white (sym (empty_length t ∙ some_even t even)) (sym (and_true white)) is more
