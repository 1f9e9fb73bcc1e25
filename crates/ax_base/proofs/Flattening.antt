-- Flattening a text one character at a time.
use Rattle.std.proofs.Common.{◌≡◌, ◌⊎◌, inl, inr, ℕ, ◌+◌, ◌/◌, ◌<◌, ◌≤◌, List, [], ◌∷◌, ◌++◌, length, map, Bool, true, false, cond, not, refl, sym, ap, ◌∙◌, subst, arith, append_assoc, append-nil, ltb, ◌==◌}
use Rattle.std.specs.Prelude.{encode_utf8}
use Rattle.std.specs.Str.{IsUtf8, chars}
use Rattle.std.specs.List.{join_with_byte}
use Rattle.std.proofs.lemmas.Str.{encodes-chars}
use Rattle.std.proofs.lemmas.Bool.Decides.{nat_tests}
use lib.Utf8.{encode, encodes, next}
use Rattle.ax_base.specs.Characters.{Chars, is_white, tokens, tokens_after, flat, gap}
use Rattle.ax_base.proofs.CutCharacters.{same_items}

-- what is out, and whether white space came since
abbrev pub Flatter : Type 0
Flatter = Chars × Bool

abbrev pub flatter : Flatter → ℕ → Flatter
flatter s c = cond (is_white c) (s.0, true) ((s.0 ++ gap s.0 s.1) ++ encode_utf8 c, false)

-- after some characters
abbrev pub flattered : Flatter → Chars → Flatter
flattered s [] = s
flattered s (c ∷ cs) = flattered (flatter s c) cs

pub flattered-push : (s : Flatter) (cs : Chars) (c : ℕ) → flattered s (cs ++ c ∷ []) ≡ flatter (flattered s cs) c
flattered-push s [] c = refl
flattered-push s (x ∷ xs) c = flattered-push (flatter s x) xs c

is_low : (c : ℕ) → is_white c ≡ true → c < 128
is_low c white = grind (arith, nat_tests)

pub not_white : (b : ℕ) → 128 ≤ b → is_white b ≡ false
not_white b high = grind (arith, nat_tests)

-- one more byte of a word
pub word_byte : (w : Chars) (b : ℕ) (rest : Chars) → is_white b ≡ false → tokens_after w (b ∷ rest) ≡ tokens_after (w ++ b ∷ []) rest
word_byte [] b rest off = ap (λ t. cond t (tokens_after [] rest) (tokens_after (b ∷ []) rest)) off
word_byte (w ∷ ws) b rest off = ap (λ t. cond t ((w ∷ ws) ∷ tokens_after [] rest) (tokens_after ((w ∷ ws) ++ b ∷ []) rest)) off

-- bytes of which none is white space
abbrev AreInk : Chars → Type 0
AreInk [] = Unit {0}
AreInk (b ∷ bs) = (is_white b ≡ false) × AreInk bs

word_bytes : (w bs rest : Chars) → AreInk bs → tokens_after w (bs ++ rest) ≡ tokens_after (w ++ bs) rest
word_bytes w [] rest ink = ap (λ v. tokens_after v rest) (sym (append-nil w))
word_bytes w (b ∷ bs) rest ink =
    word_byte w b (bs ++ rest) ink.0 ∙ word_bytes (w ++ b ∷ []) bs rest ink.1 ∙ ap (λ v. tokens_after v rest) (append_assoc w (b ∷ []) bs)

ink_of : (c : ℕ) → is_white c ≡ false → AreInk (encode c)
unfolding encode
ink_of c off = go (ltb c 128) (ltb c 2048) (ltb c 65536)
  where
    go : (x y z : Bool) → AreInk (cond x (c ∷ []) (cond y ((192 + c / 64) ∷ next c ∷ []) (cond z ((224 + c / 4096) ∷ next (c / 64) ∷ next c ∷ []) ((240 + c / 262144) ∷ next (c / 4096) ∷ next (c / 64) ∷ next c ∷ []))))
    go true y z = (off, tt)
    go false true z = (not_white (192 + c / 64) (omega arith), (not_white (next c) (omega arith), tt))
    go false false true = (not_white (224 + c / 4096) (omega arith), (not_white (next (c / 64)) (omega arith), (not_white (next c) (omega arith), tt)))
    go false false false = (not_white (240 + c / 262144) (omega arith), (not_white (next (c / 4096)) (omega arith), (not_white (next (c / 64)) (omega arith), (not_white (next c) (omega arith), tt))))

white_byte : (c : ℕ) → is_white c ≡ true → encode c ≡ c ∷ []
unfolding encode
white_byte c white = let low : ltb c 128 ≡ true = (let h = is_low c white in grind (arith, nat_tests)) in rw low refl

has_first : (c : ℕ) → (b : ℕ) × (bs : Chars) × (encode c ≡ b ∷ bs)
unfolding encode
has_first c = go (ltb c 128) (ltb c 2048) (ltb c 65536)
  where
    go : (x y z : Bool) → (b : ℕ) × (bs : Chars) × (cond x (c ∷ []) (cond y ((192 + c / 64) ∷ next c ∷ []) (cond z ((224 + c / 4096) ∷ next (c / 64) ∷ next c ∷ []) ((240 + c / 262144) ∷ next (c / 4096) ∷ next (c / 64) ∷ next c ∷ []))) ≡ b ∷ bs)
    go true y z = (c, [], refl)
    go false true z = (192 + c / 64, next c ∷ [], refl)
    go false false true = (224 + c / 4096, next (c / 64) ∷ next c ∷ [], refl)
    go false false false = (240 + c / 262144, next (c / 4096) ∷ next (c / 64) ∷ next c ∷ [], refl)

-- the words are there, and none of them is empty
abbrev AreWords : List Chars → Type 0
AreWords [] = Unit {0}
AreWords (w ∷ ws) = (0 < length w) × AreWords ws

words-push : (ws : List Chars) (w : Chars) → AreWords ws → 0 < length w → AreWords (ws ++ w ∷ [])
words-push [] w all some = (some, tt)
words-push (x ∷ xs) w all some = (all.0, words-push xs w all.1 some)

join : List Chars → Chars
join ws = join_with_byte 32 ws

-- one word more, with its space before it
abbrev seam : List Chars → Chars
seam [] = []
seam (x ∷ xs) = 32 ∷ []

join-push : (ws : List Chars) (w : Chars) → join (ws ++ w ∷ []) ≡ (join ws ++ seam ws) ++ w
unfolding join
join-push [] w = refl
join-push (x ∷ []) w = sym (append_assoc x (32 ∷ []) w)
join-push (x ∷ y ∷ xs) w = ap (λ l. x ++ (32 ∷ l)) (join-push (y ∷ xs) w) ∙ sym (append_assoc x (32 ∷ (join (y ∷ xs) ++ 32 ∷ [])) w) ∙ ap (λ l. l ++ w) (sym (append_assoc x (32 ∷ join (y ∷ xs)) (32 ∷ [])))

join_some : (x : Chars) (xs : List Chars) → 0 < length x → (length (join (x ∷ xs)) == 0) ≡ false
unfolding join
join_some [] xs some = absurd (omega arith)
join_some (b ∷ bs) [] some = grind (arith, nat_tests)
join_some (b ∷ bs) (y ∷ ys) some = grind (arith, nat_tests)

-- the space that is put is the one between words
gap_is : (ws : List Chars) (apart : Bool) → AreWords ws → ((apart ≡ true) ⊎ (ws ≡ [])) → gap (join ws) apart ≡ seam ws
unfolding join
gap_is [] true all between = refl
gap_is [] false all between = refl
gap_is (x ∷ xs) true all between = ap (λ t. cond (not t) (32 ∷ []) []) (join_some x xs all.0)
gap_is (x ∷ xs) false all (inl e) = cc
gap_is (x ∷ xs) false all (inr e) = cc

-- a word that goes on
longer : (ws : List Chars) (w more : Chars) → join (ws ++ w ∷ []) ++ more ≡ join (ws ++ (w ++ more) ∷ [])
longer ws w more = ap (λ l. l ++ more) (join-push ws w) ∙ append_assoc (join ws ++ seam ws) w more ∙ sym (join-push ws (w ++ more))

-- what comes out of these characters after whole words, and after words of which the last goes on
abbrev Between : Chars → Type 0
Between cs = (ws : List Chars) (apart : Bool) → AreWords ws → ((apart ≡ true) ⊎ (ws ≡ [])) → (flattered (join ws, apart) cs).0 ≡ join (ws ++ tokens_after [] (encodes cs))

abbrev InWord : Chars → Type 0
InWord cs = (ws : List Chars) (w : Chars) → AreWords ws → 0 < length w → (flattered (join (ws ++ w ∷ []), false) cs).0 ≡ join (ws ++ tokens_after w (encodes cs))

some_of : (c : ℕ) → 0 < length (encode c)
some_of c = let f = has_first c in subst (λ l. 0 < length l) (sym f.2) (omega arith)

word_ends : (w : Chars) (c : ℕ) (rest : Chars) → 0 < length w → is_white c ≡ true → tokens_after w (c ∷ rest) ≡ w ∷ tokens_after [] rest
word_ends [] c rest some white = absurd (omega arith)
word_ends (x ∷ xs) c rest some white = ap (λ t. cond t ((x ∷ xs) ∷ tokens_after [] rest) (tokens_after ((x ∷ xs) ++ c ∷ []) rest)) white

between_step : (c : ℕ) (cs : Chars) → Between cs → InWord cs → Between (c ∷ cs)
between_step c cs outside inside ws apart all between = go (is_white c) refl
  where
    go : (t : Bool) → is_white c ≡ t → (flattered (cond t (join ws, true) ((join ws ++ gap (join ws) apart) ++ encode c, false)) cs).0 ≡ join (ws ++ tokens_after [] (encode c ++ encodes cs))
    go true white =
        outside ws true all (inl refl)
        ∙ ap (λ ts. join (ws ++ ts)) (sym (ap (λ t. cond t (tokens_after [] (encodes cs)) (tokens_after (c ∷ []) (encodes cs))) white) ∙ ap (λ l. tokens_after [] (l ++ encodes cs)) (sym (white_byte c white)))
    go false ink =
        ap (λ l. (flattered (l, false) cs).0) (ap (λ l. (join ws ++ l) ++ encode c) (gap_is ws apart all between) ∙ sym (join-push ws (encode c)))
        ∙ inside ws (encode c) all (some_of c)
        ∙ ap (λ ts. join (ws ++ ts)) (sym (word_bytes [] (encode c) (encodes cs) (ink_of c ink)))

in_step : (c : ℕ) (cs : Chars) → Between cs → InWord cs → InWord (c ∷ cs)
in_step c cs outside inside ws w all some = go (is_white c) refl
  where
    go : (t : Bool) → is_white c ≡ t → (flattered (cond t (join (ws ++ w ∷ []), true) ((join (ws ++ w ∷ []) ++ []) ++ encode c, false)) cs).0 ≡ join (ws ++ tokens_after w (encode c ++ encodes cs))
    go true white =
        outside (ws ++ w ∷ []) true (words-push ws w all some) (inl refl)
        ∙ ap join (append_assoc ws (w ∷ []) (tokens_after [] (encodes cs)))
        ∙ ap (λ ts. join (ws ++ ts)) (sym (word_ends w c (encodes cs) some white) ∙ ap (λ l. tokens_after w (l ++ encodes cs)) (sym (white_byte c white)))
    go false ink =
        ap (λ l. (flattered (l, false) cs).0) (ap (λ l. l ++ encode c) (append-nil (join (ws ++ w ∷ []))) ∙ longer ws w (encode c))
        ∙ inside ws (w ++ encode c) all (longer_some w (encode c) some)
        ∙ ap (λ ts. join (ws ++ ts)) (sym (word_bytes w (encode c) (encodes cs) (ink_of c ink)))
      where
        longer_some : (v more : Chars) → 0 < length v → 0 < length (v ++ more)
        longer_some [] more some = absurd (omega arith)
        longer_some (x ∷ xs) more some = omega arith

both : (cs : Chars) → Between cs × InWord cs
both [] = (λ ws apart all between. ap join (sym (append-nil ws)), λ ws w all some. ends ws w some)
  where
    ends : (ws : List Chars) (w : Chars) → 0 < length w → join (ws ++ w ∷ []) ≡ join (ws ++ tokens_after w [])
    ends ws [] some = absurd (omega arith)
    ends ws (x ∷ xs) some = refl
both (c ∷ cs) = (between_step c cs (both cs).0 (both cs).1, in_step c cs (both cs).0 (both cs).1)

-- a text, flattened one character at a time
pub flattened : (text out yielded : Chars) (apart : Bool) → IsUtf8 text → (out, apart) ≡ flattered ([], false) yielded → map (λ (x : ℕ). x) yielded ≡ chars text → out ≡ flat text
unfolding flat tokens join
flattened text out yielded apart utf8 is all =
    ap (λ s. s.0) is ∙ (both yielded).0 [] false tt (inr refl) ∙ ap (λ cs. join_with_byte 32 (tokens_after [] (encodes cs))) (sym (same_items yielded) ∙ all)
    ∙ ap (λ b. join_with_byte 32 (tokens_after [] b)) (encodes-chars text utf8)

-- white space
pub flat_white : (out yielded : Chars) (apart : Bool) (c : ℕ) → (out, apart) ≡ flattered ([], false) yielded → is_white c ≡ true → (out, true) ≡ flattered ([], false) (yielded ++ c ∷ [])
flat_white out yielded apart c is white =
    let one : flatter (out, apart) c ≡ (out, true) = ap (λ t. cond t (out, true) ((out ++ gap out apart) ++ encode c, false)) white in
    sym one ∙ ap (λ s. flatter s c) is ∙ sym (flattered-push ([], false) yielded c)

-- a character of a word, with the space before it
pub flat_ink : (out mid new yielded : Chars) (apart : Bool) (c : ℕ) → (out, apart) ≡ flattered ([], false) yielded → is_white c ≡ false → mid ≡ out ++ gap out apart → new ≡ mid ++ encode_utf8 c
    → (new, false) ≡ flattered ([], false) (yielded ++ c ∷ [])
flat_ink out mid new yielded apart c is ink parted more =
    let one : flatter (out, apart) c ≡ ((out ++ gap out apart) ++ encode c, false) = ap (λ t. cond t (out, true) ((out ++ gap out apart) ++ encode c, false)) ink in
    (λ i. (more i, false)) ∙ (λ i. (parted i ++ encode c, false)) ∙ sym one ∙ ap (λ s. flatter s c) is ∙ sym (flattered-push ([], false) yielded c)
