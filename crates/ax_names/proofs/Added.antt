-- What a text adds to flat words, one byte at a time.
use Rattle.std.proofs.Common.{◌≡◌, ℕ, ◌+◌, ◌/◌, ◌<◌, ◌≤◌, List, [], ◌∷◌, ◌++◌, Bool, true, false, cond, not, ◌&&◌, ◌||◌, refl, sym, ap, ◌∙◌, arith, append_assoc, append-nil, ltb}
use Rattle.std.specs.List.{join_with_byte, list_all}
use Rattle.std.proofs.lemmas.Bool.Decides.{nat_tests}
use lib.Utf8.{encode, next}
use Rattle.ax_base.specs.Characters.{Chars, is_white, is_blank, tokens, tokens_after, flat}
use Rattle.ax_names.specs.Pieces.{is_empty, begins_white, ends_white, spaced}

-- the space before a word, where words and white space stand before it
abbrev pub space : Bool → Bool → Chars
space some white = cond (some && white) (32 ∷ []) []

-- what a text adds, flat, where words stand before it or not, and white space behind them or not
abbrev pub added : Bool → Bool → Chars → Chars
added some white [] = []
added some white (c ∷ cs) = cond (is_white c) (added some true cs) (space some white ++ (c ∷ added true false cs))

pub white_step : (some white : Bool) (c : ℕ) (cs : Chars) → is_white c ≡ true → added some white (c ∷ cs) ≡ added some true cs
white_step some white c cs e = ap (λ t. cond t (added some true cs) (space some white ++ (c ∷ added true false cs))) e

pub ink_step : (some white : Bool) (c : ℕ) (cs : Chars) → is_white c ≡ false → added some white (c ∷ cs) ≡ space some white ++ (c ∷ added true false cs)
ink_step some white c cs e = ap (λ t. cond t (added some true cs) (space some white ++ (c ∷ added true false cs))) e

-- a flat text is what the text adds to nothing

join : List Chars → Chars
join ws = join_with_byte 32 ws

-- a word at hand is there
abbrev StartsSome : List Chars → Type 0
StartsSome ts = (v : Chars) × (vs : List Chars) × (ts ≡ v ∷ vs)

some_word-step : (s : Bool) (w : ℕ) (ws : Chars) (c : ℕ) (cs : Chars) → StartsSome (tokens_after (w ∷ (ws ++ c ∷ [])) cs) → StartsSome (cond s ((w ∷ ws) ∷ tokens_after [] cs) (tokens_after (w ∷ (ws ++ c ∷ [])) cs))
some_word-step true w ws c cs ih = (w ∷ ws, tokens_after [] cs, refl)
some_word-step false w ws c cs ih = ih

some_word : (w : ℕ) (ws t : Chars) → StartsSome (tokens_after (w ∷ ws) t)
some_word w ws [] = (w ∷ ws, [], refl)
some_word w ws (c ∷ cs) = some_word-step (is_white c) w ws c cs (some_word w (ws ++ c ∷ []) cs)

-- what the rest of a text adds behind whole words, within a word, and where there are none
abbrev Behind : Chars → Type 0
Behind t = (w : Chars) → join (w ∷ tokens_after [] t) ≡ w ++ added true true t

abbrev Within : Chars → Type 0
Within t = (w : ℕ) (ws : Chars) → join (tokens_after (w ∷ ws) t) ≡ (w ∷ ws) ++ added true false t

abbrev Alone : Chars → Type 0
Alone t = (white : Bool) → join (tokens_after [] t) ≡ added false white t

behind_step : (c : ℕ) (cs : Chars) → Behind cs → Within cs → (s : Bool) (w : Chars)
    → join (w ∷ cond s (tokens_after [] cs) (tokens_after (c ∷ []) cs)) ≡ w ++ cond s (added true true cs) (32 ∷ c ∷ added true false cs)
unfolding join
behind_step c cs behind within true w = behind w
behind_step c cs behind within false w =
    let some = some_word c [] cs in
    ap (λ (ts : List Chars). join (w ∷ ts)) some.2 ∙ ap (λ (ts : List Chars). w ++ (32 ∷ join ts)) (sym some.2) ∙ ap (λ (l : Chars). w ++ (32 ∷ l)) (within c [])

within_step : (c : ℕ) (cs : Chars) → Behind cs → Within cs → (s : Bool) (w : ℕ) (ws : Chars)
    → join (cond s ((w ∷ ws) ∷ tokens_after [] cs) (tokens_after (w ∷ (ws ++ c ∷ [])) cs)) ≡ (w ∷ ws) ++ cond s (added true true cs) (c ∷ added true false cs)
within_step c cs behind within true w ws = behind (w ∷ ws)
within_step c cs behind within false w ws = within w (ws ++ c ∷ []) ∙ append_assoc (w ∷ ws) (c ∷ []) (added true false cs)

alone_step : (c : ℕ) (cs : Chars) → Within cs → Alone cs → (s : Bool) → join (cond s (tokens_after [] cs) (tokens_after (c ∷ []) cs)) ≡ cond s (added false true cs) (c ∷ added true false cs)
alone_step c cs within alone true = alone true
alone_step c cs within alone false = within c []

all_three : (t : Chars) → Behind t × Within t × Alone t
unfolding join
all_three [] = (λ w. sym (append-nil w), λ w ws. sym (append-nil (w ∷ ws)), λ white. refl)
all_three (c ∷ cs) =
    let rest = all_three cs in
    (λ w. behind_step c cs rest.0 rest.1 (is_white c) w, λ w ws. within_step c cs rest.0 rest.1 (is_white c) w ws, λ white. alone_step c cs rest.1 rest.2 (is_white c))

pub flat_added : (t : Chars) (white : Bool) → flat t ≡ added false white t
unfolding flat tokens join
flat_added t white = (all_three t).2 white

pub flat_nil : flat [] ≡ []
flat_nil = flat_added [] false

-- white space before everything adds nothing
added_same : (t : Chars) → added false true t ≡ added false false t
added_same t = sym (flat_added t true) ∙ flat_added t false

-- behind words a text adds its flat text, with a space before it where white space came between
added_some-step : (c : ℕ) (cs : Chars) → added true true cs ≡ space true (true && not (is_empty (added false false cs))) ++ added false false cs → (s white : Bool)
    → cond s (added true true cs) (space true white ++ (c ∷ added true false cs))
    ≡ space true ((white || s) && not (is_empty (cond s (added false true cs) (c ∷ added true false cs)))) ++ cond s (added false true cs) (c ∷ added true false cs)
added_some-step c cs ih true true = ih ∙ ap (λ (l : Chars). space true (true && not (is_empty l)) ++ l) (sym (added_same cs))
added_some-step c cs ih true false = ih ∙ ap (λ (l : Chars). space true (true && not (is_empty l)) ++ l) (sym (added_same cs))
added_some-step c cs ih false true = refl
added_some-step c cs ih false false = refl

added_some : (t : Chars) (white : Bool) → added true white t ≡ space true ((white || begins_white t) && not (is_empty (added false false t))) ++ added false false t
added_some [] true = refl
added_some [] false = refl
added_some (c ∷ cs) white = added_some-step c cs (added_some cs true) (is_white c) white

pub spaced_added : (words : Chars) (white : Bool) (t : Chars) → added (not (is_empty words)) white t ≡ spaced words (white || begins_white t) (flat t)
spaced_added [] white t = sym (flat_added t white)
spaced_added (w ∷ ws) white t = added_some t white ∙ ap (λ (l : Chars). space true ((white || begins_white t) && not (is_empty l)) ++ l) (sym (flat_added t false))

-- a text behind a text

-- whether words are there, and whether white space stands last, after a text
abbrev seen : Bool → Chars → Bool
seen some [] = some
seen some (c ∷ cs) = cond (is_white c) (seen some cs) (seen true cs)

abbrev pub last_white : Bool → Chars → Bool
last_white white [] = white
last_white white (c ∷ cs) = last_white (is_white c) cs

added_append-step : (c : ℕ) (cs b : Chars) → ((some white : Bool) → added some white (cs ++ b) ≡ added some white cs ++ added (seen some cs) (last_white white cs) b) → (s some white : Bool)
    → cond s (added some true (cs ++ b)) (space some white ++ (c ∷ added true false (cs ++ b)))
    ≡ cond s (added some true cs) (space some white ++ (c ∷ added true false cs)) ++ added (cond s (seen some cs) (seen true cs)) (last_white s cs) b
added_append-step c cs b ih true some white = ih some true
added_append-step c cs b ih false some white =
    ap (λ (l : Chars). space some white ++ (c ∷ l)) (ih true false) ∙ sym (append_assoc (space some white) (c ∷ added true false cs) (added (seen true cs) (last_white false cs) b))

added_append : (a b : Chars) (some white : Bool) → added some white (a ++ b) ≡ added some white a ++ added (seen some a) (last_white white a) b
added_append [] b some white = refl
added_append (c ∷ cs) b some white = added_append-step c cs b (added_append cs b) (is_white c) some white

seen_true-step : (s : Bool) (cs : Chars) → seen true cs ≡ true → cond s (seen true cs) (seen true cs) ≡ true
seen_true-step true cs e = e
seen_true-step false cs e = e

seen_true : (t : Chars) → seen true t ≡ true
seen_true [] = refl
seen_true (c ∷ cs) = seen_true-step (is_white c) cs (seen_true cs)

seen_false-step : (s : Bool) (c : ℕ) (cs : Chars) → seen false cs ≡ not (is_empty (added false true cs)) → cond s (seen false cs) (seen true cs) ≡ not (is_empty (cond s (added false true cs) (c ∷ added true false cs)))
seen_false-step true c cs ih = ih
seen_false-step false c cs ih = seen_true cs

seen_false : (t : Chars) (white : Bool) → seen false t ≡ not (is_empty (added false white t))
seen_false [] white = refl
seen_false (c ∷ cs) white = seen_false-step (is_white c) c cs (seen_false cs true)

-- of a text that is there, its last character alone tells
last_white-some : (white : Bool) (c : ℕ) (cs : Chars) → last_white white (c ∷ cs) ≡ ends_white (c ∷ cs)
last_white-some white c [] = refl
last_white-some white c (d ∷ ds) = last_white-some (is_white c) d ds

pub last_white-false : (t : Chars) → last_white false t ≡ ends_white t
last_white-false [] = refl
last_white-false (c ∷ cs) = last_white-some false c cs

pub last_white-append : (a b : Chars) (white : Bool) → last_white white (a ++ b) ≡ last_white (last_white white a) b
last_white-append [] b white = refl
last_white-append (c ∷ cs) b white = last_white-append cs b (is_white c)

pub flat_append : (a b : Chars) → flat (a ++ b) ≡ flat a ++ spaced (flat a) (ends_white a || begins_white b) (flat b)
flat_append a b =
    flat_added (a ++ b) false ∙ added_append a b false false
    ∙ (λ i. added false false a ++ added (seen_false a false i) (last_white-false a i) b)
    ∙ ap (λ (l : Chars). l ++ added (not (is_empty l)) (ends_white a) b) (sym (flat_added a false))
    ∙ ap (λ (l : Chars). flat a ++ l) (spaced_added (flat a) (ends_white a) b)

-- a text that ends in no white space has a word
ink_last-step : (s : Bool) (c d : ℕ) (ds : Chars) → is_empty (added false true (d ∷ ds)) ≡ false → is_empty (cond s (added false true (d ∷ ds)) (c ∷ added true false (d ∷ ds))) ≡ false
ink_last-step true c d ds ih = ih
ink_last-step false c d ds ih = refl

ink_last : (c : ℕ) (cs : Chars) (white : Bool) → ends_white (c ∷ cs) ≡ false → is_empty (added false white (c ∷ cs)) ≡ false
ink_last c [] white e = ap (λ (l : Chars). is_empty l) (ink_step false white c [] e)
ink_last c (d ∷ ds) white e = ink_last-step (is_white c) c d ds (ink_last d ds true e)

ends_or : (r white none : Bool) → (r ≡ false → none ≡ false) → r ≡ (r || (none && white))
ends_or true white none h = refl
ends_or false white none h = ap (λ (z : Bool). z && white) (sym (h refl))

-- white space stands last where the text ends so, and where a text of no words follows white space
pub last_white-flat : (t : Chars) (white : Bool) → last_white white t ≡ (ends_white t || (is_empty (flat t) && white))
last_white-flat [] white = ap (λ (l : Chars). is_empty l && white) (sym flat_nil)
last_white-flat (c ∷ cs) white =
    last_white-some white c cs ∙ ends_or (ends_white (c ∷ cs)) white (is_empty (flat (c ∷ cs))) (λ e. ap (λ (l : Chars). is_empty l) (flat_added (c ∷ cs) false) ∙ ink_last c cs false e)

-- the same, where the text is looked at alone
pub last_white-empty : (t : Chars) (white : Bool) → last_white white t ≡ (ends_white t || (is_empty t && white))
last_white-empty [] white = refl
last_white-empty (c ∷ cs) white = last_white-some white c cs ∙ ends_or (ends_white (c ∷ cs)) white false (λ e. refl)

-- a text that begins with no white space has a word
pub ink_first : (c : ℕ) (cs : Chars) → is_white c ≡ false → is_empty (flat (c ∷ cs)) ≡ false
ink_first c cs e = ap (λ (l : Chars). is_empty l) (flat_added (c ∷ cs) false ∙ ink_step false false c cs e)

-- a text is blank where it adds nothing
blank_added-step : (s : Bool) (c : ℕ) (cs : Chars) → list_all is_white cs ≡ is_empty (added false true cs) → (s && list_all is_white cs) ≡ is_empty (cond s (added false true cs) (c ∷ added true false cs))
blank_added-step true c cs ih = ih
blank_added-step false c cs ih = refl

blank_added : (t : Chars) (white : Bool) → is_blank t ≡ is_empty (added false white t)
blank_added [] white = refl
blank_added (c ∷ cs) white = blank_added-step (is_white c) c cs (blank_added cs true)

pub blank_flat : (t : Chars) → is_blank t ≡ is_empty (flat t)
blank_flat t = blank_added t false ∙ ap (λ (l : Chars). is_empty l) (sym (flat_added t false))

-- characters in place of bytes

low_white : (c : ℕ) → is_white c ≡ true → c < 128
low_white c white = grind (arith, nat_tests)

high_ink : (b : ℕ) → 128 ≤ b → is_white b ≡ false
high_ink b high = grind (arith, nat_tests)

white_byte : (c : ℕ) → is_white c ≡ true → encode c ≡ c ∷ []
unfolding encode
white_byte c white = let low : ltb c 128 ≡ true = (let h = low_white c white in grind (arith, nat_tests)) in rw low refl

pub white_added : (some white : Bool) (c : ℕ) (rest : Chars) → is_white c ≡ true → added some white (encode c ++ rest) ≡ added some true rest
white_added some white c rest e = ap (λ (l : Chars). added some white (l ++ rest)) (white_byte c e) ∙ white_step some white c rest e

pub ink_added : (some white : Bool) (c : ℕ) (rest : Chars) → is_white c ≡ false → added some white (encode c ++ rest) ≡ space some white ++ (encode c ++ added true false rest)
unfolding encode
ink_added some white c rest e = go (ltb c 128) (ltb c 2048) (ltb c 65536)
  where
    on : (k : ℕ) (more : Chars) → added true false (next k ∷ more) ≡ next k ∷ added true false more
    on k more = ink_step true false (next k) more (high_ink (next k) (omega arith))

    go : (x y z : Bool)
        → added some white (cond x (c ∷ []) (cond y ((192 + c / 64) ∷ next c ∷ []) (cond z ((224 + c / 4096) ∷ next (c / 64) ∷ next c ∷ []) ((240 + c / 262144) ∷ next (c / 4096) ∷ next (c / 64) ∷ next c ∷ []))) ++ rest)
        ≡ space some white ++ (cond x (c ∷ []) (cond y ((192 + c / 64) ∷ next c ∷ []) (cond z ((224 + c / 4096) ∷ next (c / 64) ∷ next c ∷ []) ((240 + c / 262144) ∷ next (c / 4096) ∷ next (c / 64) ∷ next c ∷ []))) ++ added true false rest)
    go true y z = ink_step some white c rest e
    go false true z =
        ink_step some white (192 + c / 64) (next c ∷ rest) (high_ink (192 + c / 64) (omega arith)) ∙ ap (λ (l : Chars). space some white ++ ((192 + c / 64) ∷ l)) (on c rest)
    go false false true =
        ink_step some white (224 + c / 4096) (next (c / 64) ∷ next c ∷ rest) (high_ink (224 + c / 4096) (omega arith))
        ∙ ap (λ (l : Chars). space some white ++ ((224 + c / 4096) ∷ l)) (on (c / 64) (next c ∷ rest) ∙ ap (λ (l : Chars). next (c / 64) ∷ l) (on c rest))
    go false false false =
        ink_step some white (240 + c / 262144) (next (c / 4096) ∷ next (c / 64) ∷ next c ∷ rest) (high_ink (240 + c / 262144) (omega arith))
        ∙ ap (λ (l : Chars). space some white ++ ((240 + c / 262144) ∷ l))
        (on (c / 4096) (next (c / 64) ∷ next c ∷ rest) ∙ ap (λ (l : Chars). next (c / 4096) ∷ l) (on (c / 64) (next c ∷ rest) ∙ ap (λ (l : Chars). next (c / 64) ∷ l) (on c rest)))
