-- Which of some texts counts: the first that is not blank.
use Rattle.std.proofs.Common.{◌≡◌, Bool, true, false, cond, Option, Some, None, refl, sym, ap, ◌∙◌}
use Rattle.ax_base.specs.Characters.{Chars, is_blank}
use Rattle.ax_names.specs.OwnTexts.{said_or, unless_blank}
use Rattle.ax_names.specs.Pieces.{Phrase, piece_of, has_no_words}

-- a piece tells whether its text is blank
pub tells_blank : ((t : Chars) → has_no_words (piece_of t) ≡ is_blank t) → (p : Phrase) (t : Chars) → p ≡ piece_of t → (asked v : Bool) → asked ≡ has_no_words p → asked ≡ v → is_blank t ≡ v
tells_blank law p t is asked v told answer = sym (law t) ∙ ap has_no_words (sym is) ∙ sym told ∙ answer

-- a text that is not blank counts, and after one that is blank the rest does
pub counts : (x rest : Chars) → is_blank x ≡ false → said_or x rest ≡ x
counts x rest some = ap (λ b. cond b rest x) some

pub skipped : (x rest : Chars) → is_blank x ≡ true → said_or x rest ≡ rest
skipped x rest none = ap (λ b. cond b rest x) none

-- the first of two texts counts, or the second, or neither
pub first_told : {G : Type 0} (of : Chars → G) (first second : Chars) (told : G) → told ≡ of first → is_blank first ≡ false → Some told ≡ unless_blank of (said_or first second)
first_told of first second told is some =
    ap Some is ∙ ap (λ b. cond b None (Some (of first))) (sym some) ∙ ap (unless_blank of) (sym (counts first second some))

pub second_told : {G : Type 0} (of : Chars → G) (first second said : Chars) (told : G) → told ≡ of said → said ≡ second → is_blank first ≡ true → is_blank said ≡ false
    → Some told ≡ unless_blank of (said_or first second)
second_told of first second said told is same none some =
    ap Some (is ∙ ap of same) ∙ ap (λ b. cond b None (Some (of second))) (sym (ap is_blank (sym same) ∙ some)) ∙ ap (unless_blank of) (sym (skipped first second none))

pub neither_told : {G : Type 0} (of : Chars → G) (first second said : Chars) → said ≡ second → is_blank first ≡ true → is_blank said ≡ true → None ≡ unless_blank of (said_or first second)
neither_told of first second said same none nor = ap (λ b. cond b None (Some (of second))) (sym (ap is_blank (sym same) ∙ nor)) ∙ ap (unless_blank of) (sym (skipped first second none))

-- of three texts the first two go before the third
pub in_turn : (first second third : Chars) → said_or (said_or first second) third ≡ said_or first (said_or second third)
in_turn first second third = go (is_blank first) refl
  where
    go : (b : Bool) → is_blank first ≡ b → said_or (said_or first second) third ≡ said_or first (said_or second third)
    go true none = ap (λ t. said_or t third) (skipped first second none) ∙ sym (skipped first (said_or second third) none)
    go false some = ap (λ t. said_or t third) (counts first second some) ∙ counts first third some ∙ sym (counts first (said_or second third) some)

-- what was told of the first two of three texts counts
pub told_counts : {G : Type 0} (of : Chars → G) (first second third : Chars) (told : Option G) (said : G) → told ≡ Some said → told ≡ unless_blank of (said_or first second)
    → said ≡ of (said_or first (said_or second third))
told_counts of first second third told said is same = go (is_blank (said_or first second)) refl (sym is ∙ same)
  where
    go : (b : Bool) → is_blank (said_or first second) ≡ b → Some said ≡ cond b None (Some (of (said_or first second))) → said ≡ of (said_or first (said_or second third))
    go true none some = absurd (cc)
    go false some inside =
        let same : said ≡ of (said_or first second) = cc in
        same ∙ ap of (sym (counts (said_or first second) third some) ∙ in_turn first second third)

-- where nothing was told of them, the third counts
pub third_counts : {G : Type 0} (of : Chars → G) (first second third : Chars) (told : Option G) (said : G) → told ≡ None → told ≡ unless_blank of (said_or first second) → said ≡ of third
    → said ≡ of (said_or first (said_or second third))
third_counts of first second third told said is same last = go (is_blank (said_or first second)) refl (sym is ∙ same)
  where
    go : (b : Bool) → is_blank (said_or first second) ≡ b → None ≡ cond b None (Some (of (said_or first second))) → said ≡ of (said_or first (said_or second third))
    go false some inside = absurd (cc)
    go true none inside = last ∙ ap of (sym (skipped (said_or first second) third none) ∙ in_turn first second third)
