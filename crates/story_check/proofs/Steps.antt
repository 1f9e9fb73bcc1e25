-- One line of a story after another.
use Rattle.std.proofs.Common.{◌≡◌, ℕ, ◌+◌, ◌-◌, ◌<◌, ◌==◌, List, ◌∷◌, length, Bool, refl, sym, ap, ◌∙◌, subst, arith}
use Rattle.std.specs.Prelude.{Result, Ok, Err}
use Rattle.std.specs.List.{after_first, position_or_len}
use Rattle.std.proofs.lemmas.List.{length-drop}
use Rattle.std.proofs.lemmas.List.Splits.{slice_split_first, slice_split_none}
use Rattle.std.proofs.lemmas.List.Sums.{fails_before_first}
use Rattle.story_lines.specs.Lines.{line_of}
use Rattle.story_check.specs.declared.refusals.Refusal.{Refusal}
use Rattle.story_check.specs.declared.refusals.AcceptFail.{AcceptFail}
use Rattle.story_check.specs.declared.refusals.AcceptFail.TheVariants.{Refused, NoMemory}
use Rattle.story_check.specs.Acceptance.{LinesRead, after_line, after_lines, pieces, AcceptFails, IsFirstLine, HasNoLineFeed}
use Rattle.story_check.specs.Holding.{Progress, held, GoesOn}

-- the first line comes first
split : (n : ℕ) (p : LinesRead) (text line after : List ℕ) → IsFirstLine text line after
    → after_lines n p (pieces text) ≡ after_lines n p (line ∷ pieces after)
split n p text line after h =
    ap (after_lines n p) (slice_split_first (λ b. b == 10) text 0 h.found)
    ∙ ap (λ (l : List ℕ). after_lines n p (l ∷ pieces (after_first (λ (b : ℕ). b == 10) text))) (sym h.front)
    ∙ ap (λ (a : List ℕ). after_lines n p (line ∷ pieces a)) (sym h.rest)

-- a line that is taken goes on with those behind it
pub goes_on : (n : ℕ) (p q : LinesRead) (text line after : List ℕ) → IsFirstLine text line after → after_line n p (line_of line) ≡ Ok q
    → after_lines n p (pieces text) ≡ after_lines (n + 1) q (pieces after)
goes_on n p q text line after h e = split n p text line after h ∙ through (after_line n p (line_of line)) e
  where
    through : (r : Result LinesRead Refusal) → r ≡ Ok q → elim r [ Ok z ↦ after_lines (n + 1) z (pieces after) | Err refusal ↦ Err refusal ] ≡ after_lines (n + 1) q (pieces after)
    through (Ok z) f = cc
    through (Err z) f = absurd (cc)

-- a line that is refused is the first refusal
pub breaks : (n : ℕ) (p : LinesRead) (refusal : Refusal) (text line after : List ℕ) → IsFirstLine text line after → after_line n p (line_of line) ≡ Err refusal
    → after_lines n p (pieces text) ≡ Err refusal
breaks n p refusal text line after h e = split n p text line after h ∙ through (after_line n p (line_of line)) e
  where
    through : (r : Result LinesRead Refusal) → r ≡ Err refusal → elim r as (λ (w : Result LinesRead Refusal). Result LinesRead Refusal) [ Ok z ↦ after_lines (n + 1) z (pieces after) | Err z ↦ Err z ] ≡ Err refusal
    through (Ok z) f = absurd (cc)
    through (Err z) f = f

-- the last line has no line feed
pub ends : (n : ℕ) (p : LinesRead) (text : List ℕ) → HasNoLineFeed text → after_lines n p (pieces text) ≡ after_line n p (line_of text)
ends n p text e =
    ap (after_lines n p) (slice_split_none (λ b. b == 10) text (λ k d h. fails_before_first (λ b. b == 10) text k d (subst (λ n. k < n) (sym e) h)))
    ∙ through (after_line n p (line_of text))
  where
    through : (r : Result LinesRead Refusal) → elim r [ Ok z ↦ Ok z | Err z ↦ Err z ] ≡ r
    through (Ok z) = refl
    through (Err z) = refl

-- what fails at the first line, fails as all lines do
pub fails_at : (fail : AcceptFail) (n : ℕ) (p : LinesRead) (text line after : List ℕ) (what : Result LinesRead Refusal) → IsFirstLine text line after
    → after_lines n p (pieces text) ≡ what → AcceptFails fail (after_line n p (line_of line)) → AcceptFails fail what
fails_at NoMemory n p text line after what h same e = tt
fails_at (Refused refusal) n p text line after what h same e = sym same ∙ breaks n p refusal text line after h e

-- what is held of these lines, by what it says of itself
pub own_keeps : (keeps : Bool) (h : Progress) (q : LinesRead) → h ≡ held keeps q → h ≡ held h.keeps q
own_keeps keeps h q is = is ∙ ap (λ (b : Bool). held b q) (sym (ap (λ (z : Progress). z.keeps) is))

-- what is held of lines that come to what all lines come to, with those that are left
abbrev pub Leads : Bool → Progress → ℕ → List ℕ → Result LinesRead Refusal → Type 0
Leads keeps h n text what = (q : LinesRead) × (h ≡ held keeps q) × (after_lines n q (pieces text) ≡ what)

pub leads_on : (keeps : Bool) (h new : Progress) (n : ℕ) (text line after : List ℕ) (what : Result LinesRead Refusal) → IsFirstLine text line after
    → ((q : LinesRead) → h ≡ held h.keeps q → (z : LinesRead) × (after_line n q (line_of line) ≡ Ok z) × (new ≡ held h.keeps z))
    → Leads keeps h n text what → Leads keeps new (n + 1) after what
leads_on keeps h new n text line after what first step (q, is, same) =
    let next = step q (own_keeps keeps h q is) in
    (next.0, next.2 ∙ ap (λ (b : Bool). held b next.0) (ap (λ (z : Progress). z.keeps) is), sym (goes_on n q next.0 text line after first next.1) ∙ same)

-- what fails at the first line that is left, fails as all lines do
pub leads_wrong : (fail : AcceptFail) (keeps : Bool) (h : Progress) (n : ℕ) (text line after : List ℕ) (what : Result LinesRead Refusal) → IsFirstLine text line after
    → ((q : LinesRead) → h ≡ held h.keeps q → AcceptFails fail (after_line n q (line_of line))) → Leads keeps h n text what → AcceptFails fail what
leads_wrong fail keeps h n text line after what first step (q, is, same) = fails_at fail n q text line after what first same (step q (own_keeps keeps h q is))

-- the last line comes to what all come to
pub leads_to_end : {T : Type 0} (r : Result T AcceptFail) (keeps : Bool) (h new : Progress) (n : ℕ) (text : List ℕ) (what : Result LinesRead Refusal) → HasNoLineFeed text
    → ((q : LinesRead) → h ≡ held h.keeps q → GoesOn r h.keeps new (after_line n q (line_of text))) → Leads keeps h n text what → GoesOn r keeps new what
leads_to_end r keeps h new n text what last step (q, is, same) =
    subst (λ (b : Bool). GoesOn r b new what) (ap (λ (z : Progress). z.keeps) is)
    (subst (λ w. GoesOn r h.keeps new w) (sym (ends n q text last) ∙ same) (step q (own_keeps keeps h q is)))

-- a failure that is handed on
pub fails_after : {T : Type 0} (r : Result T AcceptFail) (fail e : AcceptFail) (keeps : Bool) (new : Progress) (what : Result LinesRead Refusal) → r ≡ Err fail → fail ≡ e → AcceptFails e what → GoesOn r keeps new what
fails_after (Ok x) fail e keeps new what f g h = absurd (cc)
fails_after (Err y) fail e keeps new what f g h = let same : y ≡ e = cc in subst (λ (z : AcceptFail). AcceptFails z what) (sym same) h

fewer : (n k : ℕ) → k < n → n - (k + 1) < n
fewer n k h = omega arith

-- what stands behind the first line is shorter than all
pub shorter : (text line after : List ℕ) → IsFirstLine text line after → length after < length text
shorter text line after h =
    let k : ℕ = position_or_len (λ b. b == 10) text in
    subst (λ (a : List ℕ). length a < length text) (sym h.rest)
    (subst (λ (n : ℕ). n < length text) (sym (length-drop (k + 1) text)) (fewer (length text) k h.found))
