-- Openings of texts that are put together.
use Rattle.std.proofs.Common.{◌≡◌, ◌||◌, append_assoc, append-nil, ℕ, zero, suc, ◌+◌, ◌-◌, ◌/◌, ◌<◌, ◌≤◌, [], ◌∷◌, ◌++◌, Bool, true, false, cond, refl, sym, ap, subst, ◌∙◌, arith, ltb, eqb}
use Rattle.std.specs.Prelude.{encode_utf8}
use Rattle.std.specs.Fmt.{take_chars, char_count, is_char_start}
use Rattle.std.proofs.lemmas.Bool.Decides.{nat_tests}
use lib.Utf8.{encode, next}
use Rattle.ax_base.specs.Characters.{Chars, cut}
use Rattle.ax_names.specs.Pieces.{Opening, is_empty, is_longer, opening_of, followed, and_more}

-- whether a text does not begin inside a character
abbrev pub is_whole : Chars → Bool
is_whole [] = true
is_whole (b ∷ bs) = is_char_start b

starts_low : (b : ℕ) → b < 128 → is_char_start b ≡ true
starts_low b h = grind (arith, nat_tests)

starts_high : (b : ℕ) → 192 ≤ b → is_char_start b ≡ true
starts_high b h = grind (arith, nat_tests)

goes_on : (b : ℕ) → is_char_start (next b) ≡ false
goes_on b = grind (arith, nat_tests)

-- no character is taken any more
take_none : (b : ℕ) (bs : Chars) → is_char_start b ≡ true → take_chars 0 (b ∷ bs) ≡ []
unfolding take_chars
take_none b bs starts = ap (λ t. cond t (cond true [] (b ∷ take_chars 0 bs)) (b ∷ take_chars 0 bs)) starts

-- a character begins
take_start : (n b : ℕ) (bs : Chars) → is_char_start b ≡ true → take_chars (suc n) (b ∷ bs) ≡ b ∷ take_chars n bs
unfolding take_chars
take_start n b bs starts =
    ap (λ t. cond t (cond (eqb (suc n) 0) [] (b ∷ take_chars (suc n - 1) bs)) (b ∷ take_chars (suc n) bs)) starts
    ∙ (let some : eqb (suc n) 0 ≡ false = grind (arith, nat_tests) in let left : suc n - 1 ≡ n = omega arith in λ i. cond (some i) [] (b ∷ take_chars (left i) bs))

-- a character goes on
take_on : (n b : ℕ) (bs : Chars) → is_char_start b ≡ false → take_chars n (b ∷ bs) ≡ b ∷ take_chars n bs
unfolding take_chars
take_on n b bs on = ap (λ t. cond t (cond (eqb n 0) [] (b ∷ take_chars (n - 1) bs)) (b ∷ take_chars n bs)) on

pub take_nil : (n : ℕ) → take_chars n [] ≡ []
unfolding take_chars
take_nil n = refl

pub count_nil : char_count [] ≡ 0
unfolding char_count
count_nil = refl

count_start : (b : ℕ) (bs : Chars) → is_char_start b ≡ true → char_count (b ∷ bs) ≡ 1 + char_count bs
unfolding char_count
count_start b bs starts = ap (λ t. cond t 1 0 + char_count bs) starts

count_on : (b : ℕ) (bs : Chars) → is_char_start b ≡ false → char_count (b ∷ bs) ≡ char_count bs
unfolding char_count
count_on b bs on = let e : char_count (b ∷ bs) ≡ 0 + char_count bs = ap (λ t. cond t 1 0 + char_count bs) on in omega arith

-- a text that begins a character adds nothing where no character is taken
take_none_whole : (y : Chars) → is_whole y ≡ true → take_chars 0 y ≡ []
take_none_whole [] whole = take_nil 0
take_none_whole (b ∷ bs) whole = take_none b bs whole

-- a cut of a cut

take_twice-step : (s : Bool) (b : ℕ) (y : Chars) → is_char_start b ≡ s → ((m n : ℕ) → m ≤ n → take_chars m (take_chars n y) ≡ take_chars m y)
    → (m n : ℕ) → m ≤ n → take_chars m (take_chars n (b ∷ y)) ≡ take_chars m (b ∷ y)
take_twice-step true b y e ih zero zero le = ap (take_chars 0) (take_none b y e) ∙ take_nil 0 ∙ sym (take_none b y e)
take_twice-step true b y e ih zero (suc n) le = ap (take_chars 0) (take_start n b y e) ∙ take_none b (take_chars n y) e ∙ sym (take_none b y e)
take_twice-step true b y e ih (suc m) zero le = absurd (omega arith)
take_twice-step true b y e ih (suc m) (suc n) le =
    ap (take_chars (suc m)) (take_start n b y e) ∙ take_start m b (take_chars n y) e ∙ ap (λ l. b ∷ l) (ih m n (omega arith)) ∙ sym (take_start m b y e)
take_twice-step false b y e ih m n le = ap (take_chars m) (take_on n b y e) ∙ take_on m b (take_chars n y) e ∙ ap (λ l. b ∷ l) (ih m n le) ∙ sym (take_on m b y e)

take_twice : (y : Chars) (m n : ℕ) → m ≤ n → take_chars m (take_chars n y) ≡ take_chars m y
take_twice [] m n le = ap (take_chars m) (take_nil n)
take_twice (b ∷ y) m n le = take_twice-step (is_char_start b) b y refl (take_twice y) m n le

-- what stands last may be cut first

take_last-step : (s : Bool) (b : ℕ) (x y : Chars) → is_char_start b ≡ s → ((m n : ℕ) → m ≤ n → take_chars m (x ++ take_chars n y) ≡ take_chars m (x ++ y))
    → (m n : ℕ) → m ≤ n → take_chars m (b ∷ (x ++ take_chars n y)) ≡ take_chars m (b ∷ (x ++ y))
take_last-step true b x y e ih zero n le = take_none b (x ++ take_chars n y) e ∙ sym (take_none b (x ++ y) e)
take_last-step true b x y e ih (suc m) n le = take_start m b (x ++ take_chars n y) e ∙ ap (λ l. b ∷ l) (ih m n (omega arith)) ∙ sym (take_start m b (x ++ y) e)
take_last-step false b x y e ih m n le = take_on m b (x ++ take_chars n y) e ∙ ap (λ l. b ∷ l) (ih m n le) ∙ sym (take_on m b (x ++ y) e)

take_last : (x y : Chars) (m n : ℕ) → m ≤ n → take_chars m (x ++ take_chars n y) ≡ take_chars m (x ++ y)
take_last [] y m n le = take_twice y m n le
take_last (b ∷ x) y m n le = take_last-step (is_char_start b) b x y refl (take_last x y) m n le

-- behind a text that has more characters nothing is taken

take_more-step : (s : Bool) (b : ℕ) (x y : Chars) → is_char_start b ≡ s → ((n : ℕ) → n < char_count x → take_chars n (x ++ y) ≡ take_chars n x)
    → (n : ℕ) → n < char_count (b ∷ x) → take_chars n (b ∷ (x ++ y)) ≡ take_chars n (b ∷ x)
take_more-step true b x y e ih zero more = take_none b (x ++ y) e ∙ sym (take_none b x e)
take_more-step true b x y e ih (suc n) more = take_start n b (x ++ y) e ∙ ap (λ l. b ∷ l) (ih n (let k = count_start b x e in omega arith)) ∙ sym (take_start n b x e)
take_more-step false b x y e ih n more = take_on n b (x ++ y) e ∙ ap (λ l. b ∷ l) (ih n (let k = count_on b x e in omega arith)) ∙ sym (take_on n b x e)

take_more : (x y : Chars) (n : ℕ) → n < char_count x → take_chars n (x ++ y) ≡ take_chars n x
take_more [] y n more = absurd (let k = count_nil in omega arith)
take_more (b ∷ x) y n more = take_more-step (is_char_start b) b x y refl (take_more x y) n more

-- a text that has no more characters is kept whole

take_all-step : (s : Bool) (b : ℕ) (x : Chars) → is_char_start b ≡ s → ((n : ℕ) → char_count x ≤ n → take_chars n x ≡ x) → (n : ℕ) → char_count (b ∷ x) ≤ n → take_chars n (b ∷ x) ≡ b ∷ x
take_all-step true b x e ih zero le = absurd (let k = count_start b x e in omega arith)
take_all-step true b x e ih (suc n) le = take_start n b x e ∙ ap (λ l. b ∷ l) (ih n (let k = count_start b x e in omega arith))
take_all-step false b x e ih n le = take_on n b x e ∙ ap (λ l. b ∷ l) (ih n (let k = count_on b x e in omega arith))

pub take_all : (x : Chars) (n : ℕ) → char_count x ≤ n → take_chars n x ≡ x
take_all [] n le = take_nil n
take_all (b ∷ x) n le = take_all-step (is_char_start b) b x refl (take_all x) n le

-- nothing is taken behind a text that has all the characters

take_full-step : (s : Bool) (b : ℕ) (x y : Chars) → is_char_start b ≡ s → ((n : ℕ) → char_count x ≡ n → take_chars n (x ++ y) ≡ x)
    → (n : ℕ) → char_count (b ∷ x) ≡ n → take_chars n (b ∷ (x ++ y)) ≡ b ∷ x
take_full-step true b x y e ih zero is = absurd (let k = count_start b x e in omega arith)
take_full-step true b x y e ih (suc n) is = take_start n b (x ++ y) e ∙ ap (λ l. b ∷ l) (ih n (let k = count_start b x e in omega arith))
take_full-step false b x y e ih n is = take_on n b (x ++ y) e ∙ ap (λ l. b ∷ l) (ih n (let k = count_on b x e in omega arith))

take_full : (x y : Chars) → is_whole y ≡ true → (n : ℕ) → char_count x ≡ n → take_chars n (x ++ y) ≡ x
take_full [] y whole n is = ap (λ k. take_chars k y) (sym is ∙ count_nil) ∙ take_none_whole y whole
take_full (b ∷ x) y whole n is = take_full-step (is_char_start b) b x y refl (take_full x y whole) n is

-- counting

count_append-step : (s : Bool) (b : ℕ) (x y : Chars) → is_char_start b ≡ s → char_count (x ++ y) ≡ char_count x + char_count y → char_count (b ∷ (x ++ y)) ≡ char_count (b ∷ x) + char_count y
count_append-step true b x y e ih = let k = count_start b x e in let l = count_start b (x ++ y) e in omega arith
count_append-step false b x y e ih = let k = count_on b x e in let l = count_on b (x ++ y) e in omega arith

pub count_append : (x y : Chars) → char_count (x ++ y) ≡ char_count x + char_count y
count_append [] y = let k = count_nil in omega arith
count_append (b ∷ x) y = count_append-step (is_char_start b) b x y refl (count_append x y)

-- each character counts as one
count_encode : (c : ℕ) → char_count (encode c) ≡ 1
unfolding encode
count_encode c = go (ltb c 128) (ltb c 2048) (ltb c 65536) refl
  where
    go : (x y z : Bool) → ltb c 128 ≡ x
        → char_count (cond x (c ∷ []) (cond y ((192 + c / 64) ∷ next c ∷ []) (cond z ((224 + c / 4096) ∷ next (c / 64) ∷ next c ∷ []) ((240 + c / 262144) ∷ next (c / 4096) ∷ next (c / 64) ∷ next c ∷ [])))) ≡ 1
    go true y z low = count_start c [] (starts_low c (grind (arith, nat_tests))) ∙ ap (λ k. 1 + k) count_nil
    go false true z low = count_start (192 + c / 64) (next c ∷ []) (starts_high (192 + c / 64) (omega arith)) ∙ ap (λ k. 1 + k) (count_on (next c) [] (goes_on c) ∙ count_nil)
    go false false true low =
        count_start (224 + c / 4096) (next (c / 64) ∷ next c ∷ []) (starts_high (224 + c / 4096) (omega arith))
        ∙ ap (λ k. 1 + k) (count_on (next (c / 64)) (next c ∷ []) (goes_on (c / 64)) ∙ count_on (next c) [] (goes_on c) ∙ count_nil)
    go false false false low =
        count_start (240 + c / 262144) (next (c / 4096) ∷ next (c / 64) ∷ next c ∷ []) (starts_high (240 + c / 262144) (omega arith))
        ∙ ap (λ k. 1 + k) (count_on (next (c / 4096)) (next (c / 64) ∷ next c ∷ []) (goes_on (c / 4096)) ∙ count_on (next (c / 64)) (next c ∷ []) (goes_on (c / 64)) ∙ count_on (next c) [] (goes_on c) ∙ count_nil)

pub count_push : (x : Chars) (c : ℕ) → char_count (x ++ encode c) ≡ char_count x + 1
count_push x c = count_append x (encode c) ∙ ap (λ k. char_count x + k) (count_encode c)

-- a character begins at its first byte
pub whole_alone : (c : ℕ) → is_whole (encode c) ≡ true
unfolding encode
whole_alone c = go (ltb c 128) (ltb c 2048) (ltb c 65536) refl
  where
    go : (x y z : Bool) → ltb c 128 ≡ x
        → is_whole (cond x (c ∷ []) (cond y ((192 + c / 64) ∷ next c ∷ []) (cond z ((224 + c / 4096) ∷ next (c / 64) ∷ next c ∷ []) ((240 + c / 262144) ∷ next (c / 4096) ∷ next (c / 64) ∷ next c ∷ [])))) ≡ true
    go true y z low = starts_low c (grind (arith, nat_tests))
    go false true z low = starts_high (192 + c / 64) (omega arith)
    go false false true low = starts_high (224 + c / 4096) (omega arith)
    go false false false low = starts_high (240 + c / 262144) (omega arith)

-- the front of a text is empty where the text is
pub empty_take : (n : ℕ) (x : Chars) → is_empty (take_chars (suc n) x) ≡ is_empty x
empty_take n [] = ap is_empty (take_nil (suc n))
empty_take n (b ∷ x) = go (is_char_start b) refl
  where
    go : (s : Bool) → is_char_start b ≡ s → is_empty (take_chars (suc n) (b ∷ x)) ≡ false
    go true e = ap is_empty (take_start n b x e)
    go false e = ap is_empty (take_on (suc n) b x e)

-- a character is there
pub some_last : (x : Chars) (c : ℕ) → is_empty (x ++ encode c) ≡ false
unfolding encode
some_last (b ∷ x) c = refl
some_last [] c = go (ltb c 128) (ltb c 2048) (ltb c 65536)
  where
    go : (x y z : Bool)
        → is_empty (cond x (c ∷ []) (cond y ((192 + c / 64) ∷ next c ∷ []) (cond z ((224 + c / 4096) ∷ next (c / 64) ∷ next c ∷ []) ((240 + c / 262144) ∷ next (c / 4096) ∷ next (c / 64) ∷ next c ∷ [])))) ≡ false
    go true y z = refl
    go false true z = refl
    go false false true = refl
    go false false false = refl

-- openings

abbrev pub with_words : Chars → Bool → Opening
with_words words more = record { words = words; more = more }

longer_is : (x : Chars) → is_longer x ≡ true → 512 < char_count x
longer_is x e = grind (arith, nat_tests)

shorter_is : (x : Chars) → is_longer x ≡ false → char_count x ≤ 512
shorter_is x e = grind (arith, nat_tests)

is_longer-true : (x : Chars) → 512 < char_count x → is_longer x ≡ true
is_longer-true x h = grind (arith, nat_tests)

is_longer-false : (x : Chars) → char_count x ≤ 512 → is_longer x ≡ false
is_longer-false x h = grind (arith, nat_tests)

kept : (x : Chars) → is_longer x ≡ false → cut x ≡ x
kept x e = take_all x 512 (shorter_is x e)

longer_first : (x y : Chars) → is_longer x ≡ true → is_longer (x ++ y) ≡ true
longer_first x y e = is_longer-true (x ++ y) (let h = longer_is x e in let k = count_append x y in omega arith)

longer_last : (x y : Chars) → is_longer y ≡ true → is_longer (x ++ y) ≡ true
longer_last x y e = is_longer-true (x ++ y) (let h = longer_is y e in let k = count_append x y in omega arith)

or_true : (x : Bool) → (x || true) ≡ true
or_true true = refl
or_true false = refl

or_false : (x : Bool) → (x || false) ≡ x
or_false true = refl
or_false false = refl

-- the opening tells all that what follows may change
pub followed_opening : (x y : Chars) → followed (opening_of x) y ≡ opening_of (x ++ y)
followed_opening x y = go (is_longer x) refl
  where
    go : (m : Bool) → is_longer x ≡ m → with_words (cond m (cut x) (cut (cut x ++ y))) (m || is_longer (cut x ++ y)) ≡ opening_of (x ++ y)
    go true e = λ i. record { words = sym (take_more x y 512 (longer_is x e)) i; more = sym (longer_first x y e) i }
    go false e = ap (λ (l : Chars). opening_of (l ++ y)) (kept x e)

followed_twice-at : (w : Chars) (m : Bool) (x y : Chars) → followed (followed (with_words w m) x) y ≡ followed (with_words w m) (x ++ y)
followed_twice-at w true x y = refl
followed_twice-at w false x y = followed_opening (w ++ x) y ∙ ap opening_of (append_assoc w x y)

-- what follows may come in two parts
pub followed_twice : (o : Opening) (x y : Chars) → followed (followed o x) y ≡ followed o (x ++ y)
followed_twice o x y = followed_twice-at o.words o.more x y

followed_cut-at : (w : Chars) (m : Bool) (s y : Chars) → and_more (followed (with_words w m) (s ++ cut y)) (is_longer y) ≡ followed (with_words w m) (s ++ y)
followed_cut-at w true s y = refl
followed_cut-at w false s y = λ i. record { words = words_are i; more = more_is (is_longer y) refl i }
  where
    words_are : cut (w ++ (s ++ cut y)) ≡ cut (w ++ (s ++ y))
    words_are = ap cut (sym (append_assoc w s (cut y))) ∙ take_last (w ++ s) y 512 512 (omega arith) ∙ ap cut (append_assoc w s y)

    more_is : (m : Bool) → is_longer y ≡ m → (is_longer (w ++ (s ++ cut y)) || m) ≡ is_longer (w ++ (s ++ y))
    more_is true e = or_true (is_longer (w ++ (s ++ cut y))) ∙ sym (ap is_longer (sym (append_assoc w s y)) ∙ longer_last (w ++ s) y e)
    more_is false e = or_false (is_longer (w ++ (s ++ cut y))) ∙ ap (λ (l : Chars). is_longer (w ++ (s ++ l))) (kept y e)

-- what follows may be cut, if it is known whether more of it follows
pub followed_cut : (o : Opening) (s y : Chars) → and_more (followed o (s ++ cut y)) (is_longer y) ≡ followed o (s ++ y)
followed_cut o s y = followed_cut-at o.words o.more s y

pub followed_nil : (w : Chars) (m : Bool) → char_count w ≤ 512 → with_words w m ≡ followed (with_words w m) []
followed_nil w true most = refl
followed_nil w false most = λ i. record { words = words_are i; more = more_is i }
  where
    words_are : w ≡ cut (w ++ [])
    words_are = sym (take_all w 512 most) ∙ ap cut (sym (append-nil w))

    more_is : false ≡ is_longer (w ++ [])
    more_is = sym (is_longer-false w most) ∙ ap is_longer (sym (append-nil w))

-- a character is one too many
pub put_full : (w : Chars) (c : ℕ) → char_count w ≡ 512 → with_words w true ≡ followed (with_words w false) (encode_utf8 c)
put_full w c full = λ i. record { words = words_are i; more = more_is i }
  where
    words_are : w ≡ cut (w ++ encode c)
    words_are = sym (take_full w (encode c) (whole_alone c) 512 full)

    more_is : true ≡ is_longer (w ++ encode c)
    more_is = sym (is_longer-true (w ++ encode c) (let k = count_push w c in omega arith))

-- a text fits
text_fits : (w t : Chars) → char_count w + char_count t ≤ 512 → with_words (w ++ t) false ≡ followed (with_words w false) t
text_fits w t room = λ i. record { words = words_are i; more = more_is i }
  where
    fits : char_count (w ++ t) ≤ 512
    fits = let k = count_append w t in omega arith

    words_are : w ++ t ≡ cut (w ++ t)
    words_are = sym (take_all (w ++ t) 512 fits)

    more_is : false ≡ is_longer (w ++ t)
    more_is = sym (is_longer-false (w ++ t) fits)

-- the same of a value whose words and mark are known

pub stays_nil : (o : Opening) (w : Chars) (m : Bool) → with_words w m ≡ o → char_count w ≤ 512 → o ≡ followed o []
stays_nil o w m view most = subst (λ (p : Opening). p ≡ followed p []) view (followed_nil w m most)

pub puts_none : (o : Opening) (w : Chars) (m : Bool) (c : ℕ) → with_words w m ≡ o → m ≡ false → char_count w ≡ 512 → with_words w true ≡ followed o (encode_utf8 c)
puts_none o w m c view unmarked full = put_full w c full ∙ ap (λ (p : Opening). followed p (encode c)) ((λ i. with_words w (sym unmarked i)) ∙ view)

pub puts_text : (o : Opening) (w t new : Chars) (m : Bool) → with_words w m ≡ o → m ≡ false → char_count w + char_count t ≤ 512 → new ≡ w ++ t → with_words new m ≡ followed o t
puts_text o w t new m view unmarked room is =
    (λ i. with_words (is i) (unmarked i)) ∙ text_fits w t room ∙ ap (λ (p : Opening). followed p t) ((λ i. with_words w (sym unmarked i)) ∙ view)

pub puts_one : (o : Opening) (w new : Chars) (m : Bool) (c : ℕ) → with_words w m ≡ o → m ≡ false → char_count w < 512 → new ≡ w ++ encode_utf8 c → with_words new m ≡ followed o (encode_utf8 c)
puts_one o w new m c view unmarked room is = puts_text o w (encode c) new m view unmarked (let k = count_encode c in omega arith) is

-- where more came, nothing that follows changes anything
pub puts_nothing : (o : Opening) (w t : Chars) (m : Bool) → with_words w m ≡ o → m ≡ true → o ≡ followed o t
puts_nothing o w t m view marked = subst (λ (p : Opening). p ≡ followed p t) ((λ i. with_words w (sym marked i)) ∙ view) refl

pub opening_nil : with_words [] false ≡ opening_of []
opening_nil = λ i. record { words = sym (take_nil 512) i; more = more_is i }
  where
    more_is : false ≡ is_longer []
    more_is = sym (is_longer-false [] (let k = count_nil in omega arith))
