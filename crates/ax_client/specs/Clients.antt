-- What the client's worker promises, and where it stands between two lines.
use Rattle.std.specs.Prelude.{◌≡◌, ℕ, ◌+◌, ◌≤◌, ◌<◌, max, List, [], ◌∷◌, ◌++◌, length, false, Result, Ok, Err}
use Rattle.turn_word.specs.declared.view.Deed.{Deed}
use Rattle.turn_word.specs.declared.view.Deed.TheVariants.{Take}
use Rattle.turn_word.specs.declared.view.ClientRecord.{ClientRecord}
use Rattle.turn_word.specs.Deeds.{last_number}
use Rattle.ax_port.specs.States.{ClientState, SameClient, done, taken_up_to}
use Rattle.story_check.specs.declared.story.ClientLine.{ClientLine}
use Rattle.story_check.specs.declared.story.ClientLine.TheVariants.{Await}
use Rattle.story_check.specs.Stories.{Story, cap, awaited}
use Rattle.ax_ask.specs.declared.transcripts.EntryBody.{EntryBody}
use Rattle.story_check.specs.Moments.{tree_at, AreTrees}
use Rattle.ax_answer.specs.Legal.{outset, AreLegal, IsLegalTranscript, place_after}
use Rattle.ax_answer.specs.Moments.{notices_of}
use Rattle.ax_client.specs.declared.ends.ClientEnd.{ClientEnd}
use Rattle.ax_client.specs.declared.ends.ClientEnd.TheVariants.{Done, NoMemory, Ended}
use Rattle.ax_client.specs.declared.steps.Side.{Side}
use Rattle.ax_client.specs.Follow.{AreLooks, Follows, LastWasOver}

-- A line awaits moment `need`, and `have` is less. No line before it awaits more than `have` or than what was taken, so it is the first that does.
pub record AwaitsAt (lines : List ClientLine) (need have taken : ℕ) : Type 0 where
  pub before : List ClientLine
  pub after : List ClientLine
  pub is : lines ≡ before ++ Await need ∷ after
  pub met : awaited 0 before ≤ have
  pub reached : awaited 0 before ≤ taken
  pub more : have < need

-- what each end says
abbrev pub ClientDid : Story → ClientRecord → ClientEnd → Type 0
ClientDid s r (Done w) = IsLegalTranscript s w × Follows s.client w.entries r.deeds × (awaited 0 s.client ≤ r.taken)
ClientDid s r NoMemory = Unit {0}
ClientDid s r (Ended need have) = LastWasOver have r.deeds × AwaitsAt s.client need have r.taken

-- the worker with one entry more
abbrev pub with_entry : Side → ℕ → EntryBody → Side
with_entry side moment body = record side { entries = side.entries ++ record { number = side.done + 1; moment = moment; body = body } ∷ []; done = side.done + 1 }

-- all that was published was taken, and the tree is that of its last moment
pub record Took (s : Story) (old new : ClientRecord) (side next : Side) : Type 0 where
  pub record_is : new ≡ taken_up_to (done old (Take next.moment)) next.moment
  pub rises : last_number 0 old.deeds ≤ next.moment
  pub goes_on : old.taken ≤ next.moment
  pub capped : next.moment ≤ cap s.page old.taken
  pub tree : next.tree ≡ tree_at s next.moment
  pub pending : next.pending ≡ side.pending ++ notices_of s old.taken next.moment
  pub entries : next.entries ≡ side.entries
  pub done : next.done ≡ side.done

-- the port looked, any number of times
pub record Listened (a b : ClientState) : Type 0 where
  pub same : SameClient a b
  pub taken : b.client.taken ≡ a.client.taken
  pub over : b.client.over ≡ a.client.over
  pub looks : List Deed
  pub are_looks : AreLooks looks
  pub deeds : b.client.deeds ≡ a.client.deeds ++ looks
  pub rises : last_number 0 a.client.deeds ≤ last_number 0 b.client.deeds

-- the worker between two lines: which are left, and what it made of those before
pub record ClientStands (s : Story) (left : List ClientLine) (r : ClientRecord) (side : Side) : Type 0 where
  pub before : List ClientLine
  pub bell : ℕ
  pub noticed : ℕ
  pub is : s.client ≡ before ++ left
  pub few : length s.client ≤ 16384
  pub trees : AreTrees s
  pub count : side.done ≡ length before
  pub legal : AreLegal s outset before side.entries
  pub place : place_after outset before side.entries ≡ record { lines = side.done; moment = r.taken; bell = bell; noticed = noticed }
  pub follows : Follows before side.entries r.deeds
  pub waited : awaited 0 before ≤ r.taken
  pub heard_most : max r.taken bell ≤ last_number 0 r.deeds
  pub noticed_most : noticed ≤ r.taken
  pub going : r.over ≡ false
  pub moment : side.moment ≡ r.taken
  pub tree : side.tree ≡ tree_at s r.taken
  pub pending : side.pending ≡ notices_of s noticed r.taken

-- a line was done, or the worker ends there
abbrev pub LineDid : Story → List ClientLine → ClientRecord → Result Side ClientEnd → Type 0
LineDid s left r (Ok side) = ClientStands s left r side
LineDid s left r (Err end) = ClientDid s r end
