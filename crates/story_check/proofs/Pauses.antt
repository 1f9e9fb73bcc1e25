-- A page without its edits has the same flushes and waits.
use Rattle.std.proofs.Common.{◌≡◌, ℕ, ◌+◌, max, List, [], ◌∷◌, ◌++◌, Bool, true, false, not, ◌&&◌, refl, ap}
use Rattle.std.specs.Prelude.{nat_lt, nat_le, if◌then◌else◌, Option, Some, None}
use Rattle.std.specs.Option.{option_or}
use Rattle.story_check.specs.declared.story.PageLine.{PageLine}
use Rattle.story_check.specs.declared.story.PageLine.TheVariants.{Change, Flush, Until}
use Rattle.story_check.specs.declared.story.ClientLine.{ClientLine}
use Rattle.story_check.specs.declared.story.ClientLine.TheVariants.{Ask, Again, Hear, Await, Notices}
use Rattle.story_check.specs.declared.refusals.Cause.TheVariants.{Stuck}
use Rattle.story_check.specs.Stories.{Story, flushes, cap, awaited, awaits_met, untils_met, stuck, unflushed}
use Rattle.story_check.specs.Acceptance.{await_refusal, story_refusal, input_refusal}
use Rattle.story_check.specs.Holding.{pauses, story_kept}

pub flushes-pauses : (xs : List PageLine) → flushes (pauses xs) ≡ flushes xs
flushes-pauses [] = refl
flushes-pauses (Change e ∷ xs) = flushes-pauses xs
flushes-pauses (Flush ∷ xs) = ap (λ n. 1 + n) (flushes-pauses xs)
flushes-pauses (Until k ∷ xs) = flushes-pauses xs

cap-pauses : (xs : List PageLine) (t : ℕ) → cap (pauses xs) t ≡ cap xs t
cap-pauses [] t = refl
cap-pauses (Change e ∷ xs) t = cap-pauses xs t
cap-pauses (Flush ∷ xs) t = ap (λ n. 1 + n) (cap-pauses xs t)
cap-pauses (Until k ∷ xs) t = ap (λ n. if nat_lt t k then 0 else n) (cap-pauses xs t)

untils-pauses : (xs : List PageLine) (t : ℕ) → untils_met t (pauses xs) ≡ untils_met t xs
untils-pauses [] t = refl
untils-pauses (Change e ∷ xs) t = untils-pauses xs t
untils-pauses (Flush ∷ xs) t = untils-pauses xs t
untils-pauses (Until k ∷ xs) t = ap (λ b. nat_le k t && b) (untils-pauses xs t)

awaits-pauses : (page : List PageLine) (g : ℕ) (xs : List ClientLine) → awaits_met (pauses page) g xs ≡ awaits_met page g xs
awaits-pauses page g [] = refl
awaits-pauses page g (Await a ∷ xs) = λ i. nat_le a (cap-pauses page g i) && awaits-pauses page (max g a) xs i
awaits-pauses page g (Ask q ∷ xs) = awaits-pauses page g xs
awaits-pauses page g (Again q ∷ xs) = awaits-pauses page g xs
awaits-pauses page g (Hear ∷ xs) = awaits-pauses page g xs
awaits-pauses page g (Notices ∷ xs) = awaits-pauses page g xs

pub pauses-append : (xs ys : List PageLine) → pauses (xs ++ ys) ≡ pauses xs ++ pauses ys
pauses-append [] ys = refl
pauses-append (Change e ∷ xs) ys = pauses-append xs ys
pauses-append (Flush ∷ xs) ys = ap (λ zs. Flush ∷ zs) (pauses-append xs ys)
pauses-append (Until k ∷ xs) ys = ap (λ zs. Until k ∷ zs) (pauses-append xs ys)

pub unflushed-append : (b : Bool) (xs ys : List PageLine) → unflushed b (xs ++ ys) ≡ unflushed (unflushed b xs) ys
unflushed-append b [] ys = refl
unflushed-append b (Change e ∷ xs) ys = unflushed-append true xs ys
unflushed-append b (Flush ∷ xs) ys = unflushed-append false xs ys
unflushed-append b (Until k ∷ xs) ys = unflushed-append b xs ys

stuck-kept : (keeps : Bool) (s : Story) → stuck (story_kept keeps s) ≡ stuck s
stuck-kept true s = refl
stuck-kept false s = λ i. not (awaits-pauses s.page 0 s.client i && untils-pauses s.page (awaited 0 s.client) i)

pub flushes-kept : (keeps : Bool) (s : Story) → flushes (story_kept keeps s).page ≡ flushes s.page
flushes-kept true s = refl
flushes-kept false s = flushes-pauses s.page

pub client-kept : (keeps : Bool) (s : Story) → (story_kept keeps s).client ≡ s.client
client-kept true s = refl
client-kept false s = refl

-- what is refused of a story is refused of it without its edits
pub refusal-kept : (keeps : Bool) (s : Story) (awaits : List (ℕ × ℕ)) → story_refusal (story_kept keeps s) awaits ≡ story_refusal s awaits
refusal-kept keeps s awaits = λ i. option_or (await_refusal (flushes-kept keeps s i) awaits) (if stuck-kept keeps s i then Some (input_refusal Stuck) else None)
