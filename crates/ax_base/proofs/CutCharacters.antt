-- The first characters of a text, as bytes.
use Rattle.std.proofs.Common.{◌≡◌, ℕ, zero, suc, ◌+◌, ◌-◌, ◌/◌, ◌<◌, ◌≤◌, List, [], ◌∷◌, ◌++◌, take, map, Bool, true, false, cond, refl, sym, ap, ◌∙◌, arith, append-nil, ltb, eqb}
use Rattle.std.specs.Prelude.{encode_utf8}
use Rattle.std.specs.Str.{IsUtf8, chars}
use Rattle.std.specs.Fmt.{take_chars, is_char_start}
use Rattle.std.proofs.lemmas.Str.{encodes-append, encodes-chars}
use Rattle.std.proofs.lemmas.Bool.Decides.{nat_tests}
use lib.Utf8.{encode, encodes, next}

starts_low : (b : ℕ) → b < 128 → is_char_start b ≡ true
starts_low b h = grind (arith, nat_tests)

starts_high : (b : ℕ) → 192 ≤ b → is_char_start b ≡ true
starts_high b h = grind (arith, nat_tests)

goes_on : (b : ℕ) → is_char_start (next b) ≡ false
goes_on b = grind (arith, nat_tests)

-- no character is taken any more
take_none : (b : ℕ) (bs : List ℕ) → is_char_start b ≡ true → take_chars 0 (b ∷ bs) ≡ []
unfolding take_chars
take_none b bs starts = ap (λ t. cond t (cond true [] (b ∷ take_chars 0 bs)) (b ∷ take_chars 0 bs)) starts

take_start : (n b : ℕ) (bs : List ℕ) → is_char_start b ≡ true → take_chars (suc n) (b ∷ bs) ≡ b ∷ take_chars n bs
unfolding take_chars
take_start n b bs starts =
    ap (λ t. cond t (cond (eqb (suc n) 0) [] (b ∷ take_chars (suc n - 1) bs)) (b ∷ take_chars (suc n) bs)) starts
    ∙ (let some : eqb (suc n) 0 ≡ false = grind (arith, nat_tests) in let left : suc n - 1 ≡ n = omega arith in λ i. cond (some i) [] (b ∷ take_chars (left i) bs))

take_next : (n b : ℕ) (bs : List ℕ) → take_chars n (next b ∷ bs) ≡ next b ∷ take_chars n bs
unfolding take_chars
take_next n b bs = ap (λ t. cond t (cond (eqb n 0) [] (next b ∷ take_chars (n - 1) bs)) (next b ∷ take_chars n bs)) (goes_on b)

take_none_of : (c : ℕ) (rest : List ℕ) → take_chars 0 (encode c ++ rest) ≡ []
unfolding encode
take_none_of c rest = go (ltb c 128) (ltb c 2048) (ltb c 65536) refl
  where
    go : (x y z : Bool) → ltb c 128 ≡ x
        → take_chars 0 (cond x (c ∷ []) (cond y ((192 + c / 64) ∷ next c ∷ []) (cond z ((224 + c / 4096) ∷ next (c / 64) ∷ next c ∷ []) ((240 + c / 262144) ∷ next (c / 4096) ∷ next (c / 64) ∷ next c ∷ []))) ++ rest) ≡ []
    go true y z low = take_none c rest (starts_low c (grind (arith, nat_tests)))
    go false true z low = take_none (192 + c / 64) (next c ∷ rest) (starts_high (192 + c / 64) (omega arith))
    go false false true low = take_none (224 + c / 4096) (next (c / 64) ∷ next c ∷ rest) (starts_high (224 + c / 4096) (omega arith))
    go false false false low = take_none (240 + c / 262144) (next (c / 4096) ∷ next (c / 64) ∷ next c ∷ rest) (starts_high (240 + c / 262144) (omega arith))

take_one_of : (n c : ℕ) (rest : List ℕ) → take_chars (suc n) (encode c ++ rest) ≡ encode c ++ take_chars n rest
unfolding encode
take_one_of n c rest = go (ltb c 128) (ltb c 2048) (ltb c 65536) refl
  where
    go : (x y z : Bool) → ltb c 128 ≡ x
        → take_chars (suc n) (cond x (c ∷ []) (cond y ((192 + c / 64) ∷ next c ∷ []) (cond z ((224 + c / 4096) ∷ next (c / 64) ∷ next c ∷ []) ((240 + c / 262144) ∷ next (c / 4096) ∷ next (c / 64) ∷ next c ∷ []))) ++ rest)
        ≡ cond x (c ∷ []) (cond y ((192 + c / 64) ∷ next c ∷ []) (cond z ((224 + c / 4096) ∷ next (c / 64) ∷ next c ∷ []) ((240 + c / 262144) ∷ next (c / 4096) ∷ next (c / 64) ∷ next c ∷ []))) ++ take_chars n rest
    go true y z low = take_start n c rest (starts_low c (grind (arith, nat_tests)))
    go false true z low = take_start n (192 + c / 64) (next c ∷ rest) (starts_high (192 + c / 64) (omega arith)) ∙ ap (λ l. (192 + c / 64) ∷ l) (take_next n c rest)
    go false false true low =
        take_start n (224 + c / 4096) (next (c / 64) ∷ next c ∷ rest) (starts_high (224 + c / 4096) (omega arith))
        ∙ ap (λ l. (224 + c / 4096) ∷ l) (take_next n (c / 64) (next c ∷ rest) ∙ ap (λ l. next (c / 64) ∷ l) (take_next n c rest))
    go false false false low =
        take_start n (240 + c / 262144) (next (c / 4096) ∷ next (c / 64) ∷ next c ∷ rest) (starts_high (240 + c / 262144) (omega arith))
        ∙ ap (λ l. (240 + c / 262144) ∷ l) (take_next n (c / 4096) (next (c / 64) ∷ next c ∷ rest) ∙ ap (λ l. next (c / 4096) ∷ l) (take_next n (c / 64) (next c ∷ rest) ∙ ap (λ l. next (c / 64) ∷ l) (take_next n c rest)))

-- the first characters of a text are the characters that stand first
pub take_chars-encodes : (n : ℕ) (cs : List ℕ) → take_chars n (encodes cs) ≡ encodes (take n cs)
unfolding take_chars
take_chars-encodes zero [] = refl
take_chars-encodes (suc n) [] = refl
take_chars-encodes zero (c ∷ cs) = take_none_of c (encodes cs)
take_chars-encodes (suc n) (c ∷ cs) = take_one_of n c (encodes cs) ∙ ap (λ l. encode c ++ l) (take_chars-encodes n cs)

pub same_items : (xs : List ℕ) → map (λ (x : ℕ). x) xs ≡ xs
same_items [] = refl
same_items (x ∷ xs) = ap (λ l. x ∷ l) (same_items xs)

-- what was copied is the front of the text
pub copied_front : (n : ℕ) (text out yielded : List ℕ) → IsUtf8 text → out ≡ encodes yielded → map (λ (x : ℕ). x) yielded ≡ take n (chars text) → out ≡ take_chars n text
copied_front n text out yielded utf8 is all =
    is ∙ ap encodes (sym (same_items yielded) ∙ all) ∙ sym (take_chars-encodes n (chars text)) ∙ ap (take_chars n) (encodes-chars text utf8)

-- one more character
pub encodes-push : (cs : List ℕ) (c : ℕ) (out new : List ℕ) → out ≡ encodes cs → new ≡ out ++ encode_utf8 c → new ≡ encodes (cs ++ c ∷ [])
encodes-push cs c out new is more = more ∙ ap (λ l. l ++ encode c) is ∙ ap (λ l. encodes cs ++ l) (sym (append-nil (encode c))) ∙ sym (encodes-append cs (c ∷ []))
