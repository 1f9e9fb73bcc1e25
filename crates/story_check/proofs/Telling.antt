-- What the bytes tell: a story, with or without its edits, and the document of its last moment.
use Rattle.std.proofs.Common.{◌≡◌, ℕ, ◌≤◌, ◌^◌, List, length, Bool, true, false, Result, Ok, Err, refl, sym, ap, ◌∙◌, subst}
use Rattle.std.specs.Prelude.{nat_lt, if◌then◌else◌}
use Rattle.std.specs.Str.{is_utf8, IsUtf8}
use Rattle.ax_base.specs.Document.{Document}
use Rattle.story_check.specs.declared.refusals.Refusal.{Refusal}
use Rattle.story_check.specs.declared.refusals.Cause.{Cause}
use Rattle.story_check.specs.declared.refusals.Cause.TheVariants.{StoryTooLong, NotUtf8}
use Rattle.story_check.specs.declared.refusals.AcceptFail.{AcceptFail}
use Rattle.story_check.specs.declared.refusals.AcceptFail.TheVariants.{Refused, NoMemory}
use Rattle.story_check.specs.Stories.{Story, flushes, stuck}
use Rattle.story_check.specs.Moments.{document_at, IsAccepted}
use Rattle.story_check.specs.Acceptance.{LinesRead, pieces, input_refusal, at_first, after_lines, at_end, ended, judged, judged_lines, Accepted, AcceptFails, Accepts}
use Rattle.story_check.specs.Holding.{Progress, held, story_kept, told, told_of, told_where}
use Rattle.story_check.specs.declared.last.LastMoment.{LastMoment}
use Rattle.story_check.specs.Last.{IsLastOf}
use Rattle.story_check.proofs.Pauses.{flushes-kept, client-kept}
use Rattle.story_check.proofs.Sound.{IsGood, sound-first, sound-lines, good-lines}
use Rattle.story_check.proofs.Judging.{judged_text}
use Rattle.story_check.proofs.Keeping.{tells}

-- an answer for the lines is one for the bytes
pub accepts_bytes : (r : Result (Story × Document) AcceptFail) (keeps : Bool) (bytes text : List ℕ) → length bytes ≤ 2 ^ 24 → IsUtf8 bytes → text ≡ bytes
    → Accepts r (told_where keeps (judged_lines (pieces text))) → Accepts r (told_where keeps (judged bytes))
accepts_bytes r keeps bytes text h u same e =
    subst (λ w. Accepts r w) (ap (λ (b : List ℕ). told_where keeps (judged_lines (pieces b))) same ∙ ap (told_where keeps) (sym (judged_text bytes h u))) e

-- a failure of the whole is told
pub fails_at_input : (fail : AcceptFail) (keeps : Bool) (bytes : List ℕ) (cause : Cause) → fail ≡ Refused (input_refusal cause) → judged bytes ≡ Err (input_refusal cause) → AcceptFails fail (told_where keeps (judged bytes))
fails_at_input fail keeps bytes cause is e = subst (λ (f : AcceptFail). AcceptFails f (told_where keeps (judged bytes))) (sym is) (ap (told_where keeps) e)

-- a failure of the lines is one of the story
pub fails_lines : (fail : AcceptFail) (keeps : Bool) (lines : List (List ℕ)) → AcceptFails fail (after_lines 1 at_first lines) → AcceptFails fail (told_where keeps (judged_lines lines))
fails_lines NoMemory keeps lines e = tt
fails_lines (Refused refusal) keeps lines e = through (after_lines 1 at_first lines) e
  where
    through : (r : Result LinesRead Refusal) → r ≡ Err refusal → told_where keeps (ended r) ≡ Err refusal
    through (Ok z) f = absurd (cc)
    through (Err z) f = cc

-- an answer at the end of the lines is one for the story
pub accepts_end : (r : Result (Story × Document) AcceptFail) (keeps : Bool) (lines : List (List ℕ)) (new : Progress) → (q : LinesRead) × (after_lines 1 at_first lines ≡ Ok q) × (new ≡ held keeps q)
    → Accepts r (told new) → Accepts r (told_where keeps (judged_lines lines))
accepts_end r keeps lines new (q, comes, is) e =
    subst (λ w. Accepts r w) (ap told is ∙ tells keeps q (sound-lines 1 at_first q lines sound-first comes) ∙ ap (told_where keeps) (sym (through (after_lines 1 at_first lines) comes))) e
  where
    through : (w : Result LinesRead Refusal) → w ≡ Ok q → ended w ≡ at_end q
    through (Ok z) f = cc
    through (Err z) f = absurd (cc)

-- which story was told
pub told_from : (keeps : Bool) (what : Result Story Refusal) (s : Story) (d : Document) → told_where keeps what ≡ Ok (s, d) → (z : Story) × (what ≡ Ok z) × (s ≡ story_kept keeps z) × (d ≡ document_at z (flushes z.page))
told_from keeps (Ok z) s d e = let both = parts (told_of keeps z) (told_where keeps (Ok z)) refl e in (z, refl, both.0, both.1)
  where
    parts : (t : Story × Document) (r : Result (Story × Document) Refusal) → r ≡ Ok t → r ≡ Ok (s, d) → (s ≡ t.0) × (d ≡ t.1)
    parts t r e f = let same : t ≡ (s, d) = cc in (sym (ap (λ (u : Story × Document). u.0) same), sym (ap (λ (u : Story × Document). u.1) same))
told_from keeps (Err refusal) s d e = absurd (cc)

pub fails_from : (fail : AcceptFail) (keeps : Bool) (what : Result Story Refusal) → AcceptFails fail (told_where keeps what) → AcceptFails fail what
fails_from NoMemory keeps what e = tt
fails_from (Refused refusal) keeps (Ok z) e = absurd (cc)
fails_from (Refused refusal) keeps (Err z) e = cc

-- the bytes that are a story are an accepted one
pub good-bytes : (bytes : List ℕ) (s : Story) → judged bytes ≡ Ok s → IsGood s
unfolding judged
good-bytes bytes s e = through (nat_lt (2 ^ 24) (length bytes)) (is_utf8 bytes) e
  where
    through : (a b : Bool) → (if a then Err (input_refusal StoryTooLong) else if b then judged_lines (pieces bytes) else Err (input_refusal NotUtf8)) ≡ Ok s → IsGood s
    through true b f = absurd (cc)
    through false true f = good-lines (pieces bytes) s f
    through false false f = absurd (cc)

-- what the first lines come to
pub read_first : (keeps : Bool) (h new : Progress) (lines : List (List ℕ)) → h ≡ held keeps at_first
    → ((p : LinesRead) → h ≡ held h.keeps p → (q : LinesRead) × (after_lines 1 p lines ≡ Ok q) × (new ≡ held h.keeps q))
    → (q : LinesRead) × (after_lines 1 at_first lines ≡ Ok q) × (new ≡ held keeps q)
read_first keeps h new lines e f =
    let same : h.keeps ≡ keeps = ap (λ (z : Progress). z.keeps) e in
    subst (λ (b : Bool). (q : LinesRead) × (after_lines 1 at_first lines ≡ Ok q) × (new ≡ held b q)) same (f at_first (e ∙ ap (λ (b : Bool). held b at_first) (sym same)))

-- the story that was told with its edits
pub told_story : (bytes : List ℕ) (s : Story) (d : Document) → told_where true (judged bytes) ≡ Ok (s, d) → judged bytes ≡ Ok s
told_story bytes s d e = let t = told_from true (judged bytes) s d e in t.1 ∙ ap (λ (z : Story). Ok z) (sym t.2)

-- the last moment that was told
pub told_last : (bytes : List ℕ) (s : Story) (d : Document) (last : LastMoment) → told_where false (judged bytes) ≡ Ok (s, d) → last.flushes ≡ flushes s.page → last.client.items ≡ s.client
    → last.document ≡ d → (story : Story) × Accepted bytes story × IsLastOf story last
told_last bytes s d last e count lines document =
    let t = told_from false (judged bytes) s d e in (
      t.0,
      t.1,
      record {
        flushes_are = count ∙ ap (λ (z : Story). flushes z.page) t.2 ∙ flushes-kept false t.0;
        client_is = lines ∙ ap (λ (z : Story). z.client) t.2 ∙ client-kept false t.0;
        document_is = document ∙ t.3;
      },
    )
