-- Texts in which nothing is escaped.
use Rattle.std.proofs.Common.{◌≡◌, ◌≢◌, ℕ, ◌+◌, ◌/◌, ◌≤◌, [], ◌∷◌, ◌++◌, Bool, true, false, cond, ◌&&◌, refl, sym, ap, ◌∙◌, append_assoc, subst, arith, ltb, eqb}
use Rattle.std.specs.Prelude.{encode_utf8}
use Rattle.std.specs.Str.{IsUtf8, chars}
use Rattle.std.specs.List.{flat_map, list_all}
use Rattle.std.proofs.lemmas.Str.{encodes-chars}
use Rattle.std.proofs.lemmas.Bool.Decides.{nat_tests}
use lib.Utf8.{encode, encodes, next}
use Rattle.ax_base.specs.Characters.{Chars}
use Rattle.ax_base.specs.Quoting.{quoted_char, stands_for_itself}

all_parts : (test : ℕ → Bool) (xs ys : Chars) → list_all test (xs ++ ys) ≡ true → (list_all test xs ≡ true) × (list_all test ys ≡ true)
all_parts test [] ys all = (refl, all)
all_parts test (x ∷ xs) ys all = go (test x) all (all_parts test xs ys)
  where
    go : (b : Bool) → (b && list_all test (xs ++ ys)) ≡ true → (list_all test (xs ++ ys) ≡ true → (list_all test xs ≡ true) × (list_all test ys ≡ true))
        → ((b && list_all test xs) ≡ true) × (list_all test ys ≡ true)
    go true each rest = rest each
    go false each rest = absurd (cc)

-- the code of a character that is written as it is
record IsPlain (c : ℕ) : Type 0 where
  pub high : 32 ≤ c
  pub no_quote : c ≢ 34
  pub no_slash : c ≢ 92

plain_byte : (c : ℕ) → (stands_for_itself c && true) ≡ true → IsPlain c
plain_byte c all = record { high = grind (arith, nat_tests); no_quote = grind (arith, nat_tests); no_slash = grind (arith, nat_tests) }

plain_code : (c : ℕ) → list_all stands_for_itself (encode c) ≡ true → IsPlain c
unfolding encode
plain_code c all = go (ltb c 128) refl all
  where
    go : (t : Bool) → ltb c 128 ≡ t
        → list_all stands_for_itself (cond t (c ∷ []) (cond (ltb c 2048) ((192 + c / 64) ∷ next c ∷ []) (cond (ltb c 65536) ((224 + c / 4096) ∷ next (c / 64) ∷ next c ∷ []) ((240 + c / 262144) ∷ next (c / 4096) ∷ next (c / 64) ∷ next c ∷ [])))) ≡ true
        → IsPlain c
    go true low each = plain_byte c each
    go false high each = let above : 128 ≤ c = grind (arith, nat_tests) in record { high = omega arith; no_quote = omega arith; no_slash = omega arith }

quoted_plain : (c : ℕ) → IsPlain c → quoted_char c ≡ encode_utf8 c
unfolding quoted_char
quoted_plain c plain =
    let high = plain.high in
    let e34 : eqb c 34 ≡ false = (let h = plain.no_quote in grind (arith, nat_tests)) in
    let e92 : eqb c 92 ≡ false = (let h = plain.no_slash in grind (arith, nat_tests)) in
    let e8 : eqb c 8 ≡ false = grind (arith, nat_tests) in
    let e12 : eqb c 12 ≡ false = grind (arith, nat_tests) in
    let e10 : eqb c 10 ≡ false = grind (arith, nat_tests) in
    let e13 : eqb c 13 ≡ false = grind (arith, nat_tests) in
    let e9 : eqb c 9 ≡ false = grind (arith, nat_tests) in
    let e32 : ltb c 32 ≡ false = grind (arith, nat_tests) in
    rw (e34, e92, e8, e12, e10, e13, e9, e32) refl

plain_chars : (cs : Chars) → list_all stands_for_itself (encodes cs) ≡ true → flat_map quoted_char cs ≡ encodes cs
plain_chars [] all = refl
plain_chars (c ∷ cs) all =
    let parts = all_parts stands_for_itself (encode c) (encodes cs) all in
    ap (λ l. l ++ flat_map quoted_char cs) (quoted_plain c (plain_code c parts.0)) ∙ ap (λ l. encode c ++ l) (plain_chars cs parts.1)

-- a text of bytes that stand for themselves is written as it is
pub plain_text : (text : Chars) → IsUtf8 text → list_all stands_for_itself text ≡ true → text ≡ flat_map quoted_char (chars text)
plain_text text utf8 all =
    sym (plain_chars (chars text) (subst (λ t. list_all stands_for_itself t ≡ true) (sym (encodes-chars text utf8)) all) ∙ encodes-chars text utf8)

-- a quote, a text and a quote, put in one after another
pub between_quotes : {old room first most whole : Chars} {text written : Chars} → room ≡ old → first ≡ room ++ 34 ∷ [] → most ≡ first ++ text → whole ≡ most ++ 34 ∷ []
    → text ≡ written → whole ≡ old ++ 34 ∷ (written ++ 34 ∷ [])
between_quotes {old} {room} {first} {most} {whole} {text} {written} is_room is_first is_most is_whole same =
    is_whole
    ∙ ap (λ l. l ++ 34 ∷ []) (is_most ∙ ap (λ l. l ++ text) (is_first ∙ ap (λ l. l ++ 34 ∷ []) is_room))
    ∙ ap (λ l. ((old ++ 34 ∷ []) ++ l) ++ 34 ∷ []) same
    ∙ append_assoc (old ++ 34 ∷ []) written (34 ∷ [])
    ∙ append_assoc old (34 ∷ []) (written ++ 34 ∷ [])
