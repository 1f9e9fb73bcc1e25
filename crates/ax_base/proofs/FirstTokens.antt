-- The first token of a text.
use Rattle.std.proofs.Common.{◌≡◌, ℕ, zero, suc, ◌+◌, ◌<◌, ◌≤◌, List, [], ◌∷◌, ◌++◌, length, take, drop, Bool, true, false, cond, not, refl, sym, ap, subst, ◌∙◌, arith, append_assoc, append-nil, length-drop, get_or}
use Rattle.std.specs.Prelude.{◌==◌, Option, Some, None, nat_lt, unwrap_or}
use Rattle.std.specs.Str.{IsCharBoundary}
use Rattle.std.proofs.lemmas.Bool.{true≢false}
use Rattle.std.proofs.lemmas.List.Quantifiers.{position-Some}
use Rattle.std.specs.List.{prefix_len, position}
use Rattle.std.proofs.lemmas.Bool.Decides.{nat_tests}
use Rattle.ax_base.specs.Characters.{Chars, is_white, tokens, tokens_after}
use Rattle.ax_base.specs.Values.{without_front}
use Rattle.ax_base.proofs.Flattening.{not_white, word_byte}

-- whether a byte is no white space
abbrev pub is_ink : ℕ → Bool
is_ink c = not (is_white c)

ink_short : (t : Chars) → prefix_len is_ink t ≤ length t
ink_short [] = omega arith
ink_short (c ∷ cs) = go (is_ink c) (ink_short cs)
  where
    go : (b : Bool) → prefix_len is_ink cs ≤ length cs → cond b (1 + prefix_len is_ink cs) 0 ≤ length (c ∷ cs)
    go true rest = omega arith
    go false rest = omega arith

-- how many bytes stand before the first white space
pub piece_is : (t : Chars) → unwrap_or (position is_white t) (length t) ≡ prefix_len is_ink t
piece_is t = go (nat_lt (prefix_len is_ink t) (length t)) refl
  where
    go : (b : Bool) → nat_lt (prefix_len is_ink t) (length t) ≡ b → unwrap_or (cond b (Some (prefix_len is_ink t)) None) (length t) ≡ prefix_len is_ink t
    go true e = refl
    go false e = let short = ink_short t in grind (arith, nat_tests)

pub piece_short : (t : Chars) → unwrap_or (position is_white t) (length t) ≤ length t
piece_short t = let short = ink_short t in let same = piece_is t in omega arith

-- the first white space stands at the start of a character
pub piece_boundary : (t : Chars) → IsCharBoundary t (unwrap_or (position is_white t) (length t))
piece_boundary t = go (position is_white t) refl
  where
    go : (o : Option ℕ) → position is_white t ≡ o → IsCharBoundary t (unwrap_or o (length t))
    go None e = (omega arith, λ low far. absurd (omega arith))
    go (Some i) e =
        let at = position-Some is_white t i 0 e in
        let within : i < length t = at.0 in
        (omega arith, λ low far. let ink : is_white (get_or t i 0) ≡ false = not_white (get_or t i 0) (omega arith) in absurd (true≢false (sym at.1 ∙ ink)))

pub len_of : (k : ℕ) (t u : Chars) → k ≡ unwrap_or (position is_white u) (length u) → u ≡ t → k ≡ unwrap_or (position is_white t) (length t)
len_of k t u is same = is ∙ ap (λ v. unwrap_or (position is_white v) (length v)) same

pub some_left : (n : ℕ) (b : Bool) → b ≡ (n == 0) → b ≡ false → 0 < n
some_left n b told e = let there : (n == 0) ≡ false = sym told ∙ e in grind (arith, nat_tests)

pub none_over : (n : ℕ) (b : Bool) → b ≡ (n == 0) → b ≡ true → n ≡ 0
none_over n b told e = let there : (n == 0) ≡ true = sym told ∙ e in grind (arith, nat_tests)

one_more : (n : ℕ) → suc n ≡ 1 + n
one_more n = omega arith

-- white space at the start gives no token
tokens_of_front : (t : Chars) → tokens_after [] t ≡ tokens_after [] (without_front t)
tokens_of_front [] = refl
tokens_of_front (c ∷ cs) = go (is_white c) refl (tokens_of_front cs)
  where
    go : (b : Bool) → is_white c ≡ b → tokens_after [] cs ≡ tokens_after [] (without_front cs)
        → tokens_after [] (c ∷ cs) ≡ tokens_after [] (drop (cond b (1 + prefix_len is_white cs) 0) (c ∷ cs))
    go true e rest =
        ap (λ x. cond x (tokens_after [] cs) (tokens_after (c ∷ []) cs)) e ∙ rest ∙ ap (λ k. tokens_after [] (drop k (c ∷ cs))) (one_more (prefix_len is_white cs))
    go false e rest = refl

-- what is left after the white space at the start begins with a byte that is none
front_has_ink : (t : Chars) → 0 < length (without_front t) → 0 < prefix_len is_ink (without_front t)
front_has_ink [] some = absurd (omega arith)
front_has_ink (c ∷ cs) some = go (is_white c) refl (front_has_ink cs) some
  where
    go : (b : Bool) → is_white c ≡ b → (0 < length (without_front cs) → 0 < prefix_len is_ink (without_front cs))
        → 0 < length (drop (cond b (1 + prefix_len is_white cs) 0) (c ∷ cs)) → 0 < prefix_len is_ink (drop (cond b (1 + prefix_len is_white cs) 0) (c ∷ cs))
    go true e rest there =
        let same : without_front cs ≡ drop (1 + prefix_len is_white cs) (c ∷ cs) = ap (λ k. drop k (c ∷ cs)) (one_more (prefix_len is_white cs)) in
        subst (λ (l : Chars). 0 < prefix_len is_ink l) same (rest (subst (λ (l : Chars). 0 < length l) (sym same) there))
    go false e rest there =
        let first : prefix_len is_ink (c ∷ cs) ≡ 1 + prefix_len is_ink cs = ap (λ x. cond (not x) (1 + prefix_len is_ink cs) 0) e in omega arith

-- a word, where one was read, and what comes after it
abbrev emit : Chars → List Chars → List Chars
emit [] ts = ts
emit (w ∷ ws) ts = (w ∷ ws) ∷ ts

-- a word ends at white space
ends : (w : Chars) (c : ℕ) (cs : Chars) → is_white c ≡ true → tokens_after w (c ∷ cs) ≡ emit (w ++ []) (tokens_after [] (c ∷ cs))
ends [] c cs e = refl
ends (w ∷ ws) c cs e =
    ap (λ x. cond x ((w ∷ ws) ∷ tokens_after [] cs) (tokens_after ((w ∷ ws) ++ c ∷ []) cs)) e
    ∙ ap (λ ts. (w ∷ ws) ∷ ts) (sym (ap (λ x. cond x (tokens_after [] cs) (tokens_after (c ∷ []) cs)) e))
    ∙ ap (λ v. v ∷ tokens_after [] (c ∷ cs)) (sym (append-nil (w ∷ ws)))

-- the word that goes on to the next white space
emits : (w t : Chars) → tokens_after w t ≡ emit (w ++ take (prefix_len is_ink t) t) (tokens_after [] (drop (prefix_len is_ink t) t))
emits [] [] = refl
emits (w ∷ ws) [] = ap (λ v. v ∷ []) (sym (append-nil (w ∷ ws)))
emits w (c ∷ cs) = go (is_white c) refl (emits (w ++ c ∷ []) cs)
  where
    go : (b : Bool) → is_white c ≡ b
        → tokens_after (w ++ c ∷ []) cs ≡ emit ((w ++ c ∷ []) ++ take (prefix_len is_ink cs) cs) (tokens_after [] (drop (prefix_len is_ink cs) cs))
        → tokens_after w (c ∷ cs) ≡ emit (w ++ take (cond (not b) (1 + prefix_len is_ink cs) 0) (c ∷ cs)) (tokens_after [] (drop (cond (not b) (1 + prefix_len is_ink cs) 0) (c ∷ cs)))
    go true e rest = ends w c cs e
    go false e rest =
        word_byte w c cs e ∙ rest
        ∙ ap (λ v. emit v (tokens_after [] (drop (prefix_len is_ink cs) cs))) (append_assoc w (c ∷ []) (take (prefix_len is_ink cs) cs))
        ∙ ap (λ k. emit (w ++ take k (c ∷ cs)) (tokens_after [] (drop k (c ∷ cs)))) (one_more (prefix_len is_ink cs))

emits_some : (v : Chars) (ts : List Chars) → 0 < length v → emit v ts ≡ v ∷ ts
emits_some [] ts some = absurd (omega arith)
emits_some (x ∷ xs) ts some = refl

some_taken : (k : ℕ) (s : Chars) → 0 < k → 0 < length s → 0 < length (take k s)
some_taken k [] some there = absurd (omega arith)
some_taken zero (c ∷ cs) some there = absurd (omega arith)
some_taken (suc k) (c ∷ cs) some there = omega arith

none_left : (s : Chars) → length s ≡ 0 → tokens_after [] s ≡ []
none_left [] none = refl
none_left (c ∷ cs) none = absurd (omega arith)

-- a text that is white space alone has no token
pub no_token : (t s : Chars) → s ≡ without_front t → length s ≡ 0 → tokens t ≡ []
unfolding tokens
no_token t s is none = tokens_of_front t ∙ ap (tokens_after []) (sym is) ∙ none_left s none

-- what is left of a text without white space at its start, up to the next white space, is the first token
pub token_first : (t s : Chars) (k : ℕ) → s ≡ without_front t → 0 < length s → k ≡ unwrap_or (position is_white s) (length s) → tokens t ≡ take k s ∷ tokens (drop k s)
unfolding tokens
token_first t s k is some all =
    let ink : 0 < prefix_len is_ink s = subst (λ (l : Chars). 0 < prefix_len is_ink l) (sym is) (front_has_ink t (subst (λ (l : Chars). 0 < length l) is some)) in
    tokens_of_front t ∙ ap (tokens_after []) (sym is) ∙ emits [] s
    ∙ ap (λ n. emit (take n s) (tokens_after [] (drop n s))) (sym (all ∙ piece_is s))
    ∙ emits_some (take k s) (tokens_after [] (drop k s)) (some_taken k s (let same = all ∙ piece_is s in omega arith) some)

-- and what comes after it is shorter
pub rest_shorter : (t s : Chars) (k : ℕ) → s ≡ without_front t → 0 < length s → k ≡ unwrap_or (position is_white s) (length s) → length (drop k s) < length t
rest_shorter t s k is some all =
    let ink : 0 < prefix_len is_ink s = subst (λ (l : Chars). 0 < prefix_len is_ink l) (sym is) (front_has_ink t (subst (λ (l : Chars). 0 < length l) is some)) in
    let same = all ∙ piece_is s in
    let whole : length s ≡ length (drop (prefix_len is_white t) t) = ap length is in
    omega (arith, length-drop k s, length-drop (prefix_len is_white t) t)

-- the same of the two parts of a cut
pub token_split : (t s front back : Chars) (k : ℕ) → s ≡ without_front t → 0 < length s → k ≡ unwrap_or (position is_white s) (length s) → front ≡ take k s → back ≡ drop k s → tokens t ≡ front ∷ tokens back
token_split t s front back k is some all first rest = token_first t s k is some all ∙ (λ i. sym first i ∷ tokens (sym rest i))

pub shorter_split : (t s back : Chars) (k : ℕ) → s ≡ without_front t → 0 < length s → k ≡ unwrap_or (position is_white s) (length s) → back ≡ drop k s → length back < length t
shorter_split t s back k is some all rest = subst (λ (l : Chars). length l < length t) (sym rest) (rest_shorter t s k is some all)
