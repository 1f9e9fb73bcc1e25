-- Which entries the lines of a client may give, and which transcripts a story may have.
use Rattle.std.specs.Prelude.{◌≡◌, ℕ, ◌+◌, ◌≤◌, max, List, [], ◌∷◌, take}
use Rattle.story_check.specs.declared.story.ClientLine.{ClientLine}
use Rattle.story_check.specs.declared.story.ClientLine.TheVariants.{Ask, Again, Hear, Await, Notices}
use Rattle.story_check.specs.Stories.{Story, flushes, cap}
use Rattle.ax_ask.specs.declared.transcripts.Entry.{Entry}
use Rattle.ax_ask.specs.declared.transcripts.Transcript.{Transcript}
use Rattle.ax_ask.specs.declared.transcripts.EntryBody.TheVariants.{Reply, Await as AwaitBody, Hear as HearBody, Notices as NoticesBody}
use Rattle.ax_answer.specs.Moments.{answer_at, notices_of}

-- where the client stands: its lines done, the moment of its tree, its last bell, and the last moment whose notices it printed
pub record Place : Type 0 where
  pub lines : ℕ
  pub moment : ℕ
  pub bell : ℕ
  pub noticed : ℕ

abbrev pub outset : Place
outset = record { lines = 0; moment = 0; bell = 0; noticed = 0 }

-- a number that a take or a look may find
abbrev pub IsFound : Story → Place → ℕ → Type 0
IsFound s c k = (max c.moment c.bell ≤ k) × (k ≤ cap s.page c.moment)

-- an entry that a line may give
abbrev pub IsEntry : Story → Place → ClientLine → Entry → Type 0
IsEntry s c (Ask q) e = IsFound s c e.moment × (e.body ≡ Reply (answer_at s e.moment q))
IsEntry s c (Await a) e = IsFound s c e.moment × (a ≤ e.moment) × (e.body ≡ AwaitBody)
IsEntry s c (Again q) e = (e.moment ≡ c.moment) × (e.body ≡ Reply (answer_at s c.moment q))
IsEntry s c Hear e = IsFound s c e.moment × (e.body ≡ HearBody)
IsEntry s c Notices e = (e.moment ≡ c.moment) × (e.body ≡ NoticesBody (notices_of s c.noticed c.moment))

-- where the client stands after a line with this entry
abbrev pub after_entry : Place → ClientLine → Entry → Place
after_entry c (Ask q) e = record c { lines = c.lines + 1; moment = e.moment }
after_entry c (Await a) e = record c { lines = c.lines + 1; moment = e.moment }
after_entry c (Again q) e = record c { lines = c.lines + 1 }
after_entry c Hear e = record c { lines = c.lines + 1; bell = e.moment }
after_entry c Notices e = record c { lines = c.lines + 1; noticed = c.moment }

-- where the client stands after these lines with these entries
abbrev pub place_after : Place → List ClientLine → List Entry → Place
place_after c [] es = c
place_after c (l ∷ ls) [] = c
place_after c (l ∷ ls) (e ∷ es) = place_after (after_entry c l e) ls es

-- these lines may give these entries, one each, with their numbers
abbrev pub AreLegal : Story → Place → List ClientLine → List Entry → Type 0
AreLegal s c [] [] = Unit
AreLegal s c (line ∷ lines) (e ∷ es) = (e.number ≡ c.lines + 1) × IsEntry s c line e × AreLegal s (after_entry c line e) lines es
AreLegal s c [] (e ∷ es) = ⊥
AreLegal s c (line ∷ lines) [] = ⊥

-- the entries of the first j lines of the client
abbrev pub IsLegalSoFar : Story → ℕ → List Entry → Type 0
IsLegalSoFar s j es = AreLegal s outset (take j s.client) es

-- the entries of all lines of the client
abbrev pub IsLegal : Story → List Entry → Type 0
IsLegal s es = AreLegal s outset s.client es

-- the transcript of a whole run: all flushes of the page, and the entries of all lines of the client
abbrev pub IsLegalTranscript : Story → Transcript → Type 0
IsLegalTranscript s w = (w.flushes ≡ flushes s.page) × IsLegal s w.entries
