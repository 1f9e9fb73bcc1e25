-- Which bytes are lines, and what the lines come to.
use Rattle.std.proofs.Common.{◌≡◌, ℕ, ◌≤◌, ◌<◌, ◌^◌, List, length, Bool, true, false, Ok, Err, Result, refl, sym, ap, ◌∙◌, subst, arith}
use Rattle.std.specs.Prelude.{nat_lt}
use Rattle.std.specs.Str.{is_utf8, IsUtf8}
use Rattle.std.proofs.lemmas.Str.{IsUtf8-from_is_utf8, is_utf8-from_IsUtf8}
use Rattle.std.proofs.lemmas.Bool.Decides.{nat_tests}
use Rattle.story_check.specs.declared.refusals.Refusal.{Refusal}
use Rattle.story_check.specs.declared.refusals.Cause.TheVariants.{StoryTooLong, NotUtf8}
use Rattle.story_check.specs.declared.refusals.AcceptFail.{AcceptFail}
use Rattle.story_check.specs.declared.refusals.AcceptFail.TheVariants.{Refused, NoMemory}
use Rattle.story_check.specs.Stories.{Story}
use Rattle.story_check.specs.Acceptance.{LinesRead, pieces, input_refusal, at_first, after_lines, at_end, ended, judged, judged_lines, AcceptFails, Accepts}

not_true : (b : Bool) → (b ≡ true → ⊥) → b ≡ false
not_true true h = absurd (h refl)
not_true false h = refl

fits : (n : ℕ) → n ≤ 2 ^ 24 → nat_lt (2 ^ 24) n ≡ false
fits n h = grind (arith, nat_tests)

too_long : (n : ℕ) → 2 ^ 24 < n → nat_lt (2 ^ 24) n ≡ true
too_long n h = grind (arith, nat_tests)

pub judged_long : (bytes : List ℕ) → 2 ^ 24 < length bytes → judged bytes ≡ Err (input_refusal StoryTooLong)
unfolding judged
judged_long bytes h = rw (too_long (length bytes) h) refl

pub judged_no_utf8 : (bytes : List ℕ) → length bytes ≤ 2 ^ 24 → (IsUtf8 bytes → ⊥) → judged bytes ≡ Err (input_refusal NotUtf8)
unfolding judged
judged_no_utf8 bytes h bad = rw (fits (length bytes) h, not_true (is_utf8 bytes) (λ e. bad (IsUtf8-from_is_utf8 bytes e))) refl

pub judged_text : (bytes : List ℕ) → length bytes ≤ 2 ^ 24 → IsUtf8 bytes → judged bytes ≡ judged_lines (pieces bytes)
unfolding judged
judged_text bytes h u = rw (fits (length bytes) h, is_utf8-from_IsUtf8 bytes u) refl
