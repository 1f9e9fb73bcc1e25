-- The core machine.
use Rattle.std.specs.Prelude.{◌≡◌, ℕ, zero, suc, ◌+◌, List, [], ◌∷◌, ◌++◌, length, slice_get, Option, Some, None, nat_le, if◌then◌else◌}
use Rattle.ax_base.specs.declared.ids.Who.{Who}
use Rattle.ax_base.specs.declared.ids.Who.TheVariants.{Page, Client}
use Rattle.story_check.specs.declared.story.PageLine.{PageLine}
use Rattle.story_check.specs.declared.story.PageLine.TheVariants.{Change, Flush, Until}
use Rattle.story_check.specs.declared.story.ClientLine.{ClientLine}
use Rattle.story_check.specs.declared.story.ClientLine.TheVariants.{Ask, Again, Hear, Await, Notices}
use Rattle.story_check.specs.Stories.{Story, flushes}
use Rattle.ax_ask.specs.declared.transcripts.Entry.{Entry}
use Rattle.ax_ask.specs.declared.transcripts.Transcript.{Transcript}
use Rattle.ax_ask.specs.declared.transcripts.EntryBody.{EntryBody}
use Rattle.ax_ask.specs.declared.transcripts.EntryBody.TheVariants.{Reply, Await as AwaitBody, Hear as HearBody, Notices as NoticesBody}
use Rattle.ax_world.specs.declared.turns.Turn.{Turn}
use Rattle.ax_world.specs.declared.turns.Turn.TheVariants.{Did, Waiting, Done}
use Rattle.ax_answer.specs.Moments.{answer_at, notices_of}

-- lines done by each side, what is published and taken, the last bell, the last moment noticed, and the entries
pub record State : Type 0 where
  pub page_done : ℕ
  pub client_done : ℕ
  pub published : ℕ
  pub taken : ℕ
  pub bell : ℕ
  pub noticed : ℕ
  pub entries : List Entry

abbrev pub start : State
start = record { page_done = 0; client_done = 0; published = 0; taken = 0; bell = 0; noticed = 0; entries = [] }

-- what a turn leads to, and what it came to
pub record Step : Type 0 where
  pub state : State
  pub turn : Turn

abbrev pub did : State → Step
did c = record { state = c; turn = Did }

-- a line that waits stays
abbrev pub waits : State → ℕ → ℕ → Step
waits c need have = record { state = c; turn = Waiting need have }

-- a side without a line
abbrev pub ended : State → Step
ended c = record { state = c; turn = Done }

-- the client's line printed this
abbrev pub printed : State → ℕ → EntryBody → State
printed c moment body = record c { client_done = c.client_done + 1; entries = c.entries ++ record { number = c.client_done + 1; moment = moment; body = body } ∷ [] }

abbrev pub page_step : State → Option PageLine → Step
page_step c None = ended c
page_step c (Some (Change e)) = did (record c { page_done = c.page_done + 1 })
page_step c (Some Flush) = did (record c { page_done = c.page_done + 1; published = c.published + 1 })
page_step c (Some (Until k)) = if nat_le k c.taken then did (record c { page_done = c.page_done + 1 }) else waits c k c.taken

abbrev pub client_step : Story → State → Option ClientLine → Step
client_step s c None = ended c
client_step s c (Some (Ask q)) = did (record (printed c c.published (Reply (answer_at s c.published q))) { taken = c.published })
client_step s c (Some (Await a)) = if nat_le a c.published then did (record (printed c c.published AwaitBody) { taken = c.published }) else waits c a c.published
client_step s c (Some (Again q)) = did (printed c c.taken (Reply (answer_at s c.taken q)))
client_step s c (Some Hear) = did (record (printed c c.published HearBody) { bell = c.published })
client_step s c (Some Notices) = did (record (printed c c.taken (NoticesBody (notices_of s c.noticed c.taken))) { noticed = c.taken })

-- one turn of a side
abbrev pub step : Story → State → Who → Step
step s c Page = page_step c (slice_get s.page c.page_done)
step s c Client = client_step s c (slice_get s.client c.client_done)

-- the state after these turns
abbrev pub after_turns : Story → List Who → State → State
after_turns s [] c = c
after_turns s (who ∷ turns) c = after_turns s turns (step s c who).state

-- so many turns of each side, in turn, the page first
abbrev pub alternate : ℕ → List Who
alternate zero = []
alternate (suc n) = Page ∷ Client ∷ alternate n

-- some turns lead to this state
abbrev pub IsReached : Story → State → Type 0
IsReached s c = (turns : List Who) × (c ≡ after_turns s turns start)

-- so many alternate turns lead from the first state to the second, whatever turns led to the first
abbrev pub InRounds : Story → State → State → Type 0
InRounds s c d = (n : ℕ) × ((turns : List Who) → c ≡ after_turns s turns start → d ≡ after_turns s (turns ++ alternate n) start)

-- no side has a line left
abbrev pub IsOver : Story → State → Type 0
IsOver s c = (c.page_done ≡ length s.page) × (c.client_done ≡ length s.client)

abbrev pub lines_done : State → ℕ
lines_done c = c.page_done + c.client_done

-- the turns of the story, and then as many alternate turns as can be of use
abbrev pub played : Story → State
played s = after_turns s (s.turns ++ alternate (length s.page + length s.client)) start

-- the transcript of the story that is played: its entries, and the number of flushes
abbrev pub transcript_of : Story → Transcript
transcript_of s = record { entries = (played s).entries; flushes = flushes s.page }

-- what alternate turns alone come to, without the turns of the story
abbrev pub played_in_turns : Story → State
played_in_turns s = after_turns s (alternate (length s.page + length s.client)) start

-- the transcript of that play
abbrev pub transcript_in_turns : Story → Transcript
transcript_in_turns s = record { entries = (played_in_turns s).entries; flushes = flushes s.page }
