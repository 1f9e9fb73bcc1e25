-- What the top call promises. Each command has one row in each of the first definitions; those after them are the same for all commands.
use Rattle.std.specs.Prelude.{◌≡◌, ◌⊎◌, ℕ, ◌+◌, ◌^◌, List, Option, Some, None, String, take, IsSomeAnd}
use Rattle.std.specs.declared.alloc.Global.{Global}
use Rattle.std.specs.Io.KnownBytes.{Appends}
use Rattle.ax_edge.specs.Causes.{Rose}
use Rattle.ax_edge.specs.Transfers.{TakesInput, AddsFront}
use Rattle.story_check.specs.Stories.{Story}
use Rattle.ax_answer.specs.Legal.{IsLegalTranscript}
use Rattle.ax_world.specs.Machine.{transcript_of}
use Rattle.ax_session.specs.declared.words.Command.{Command}
use Rattle.ax_session.specs.declared.words.Command.TheVariants.{Dump, Replay, Run, Gen}
use Rattle.ax_session.specs.declared.words.Status.{Status}
use Rattle.ax_session.specs.declared.words.Status.TheVariants.{Done, Refused, ReadFault, WriteFault, NoMemory, Words}
use Rattle.story_check.specs.declared.refusals.Refusal.{Refusal}
use Rattle.ax_session.specs.Command.{command_of}
use Rattle.ax_session.specs.Refusals.{refusal_text}
use Rattle.story_check.specs.Acceptance.{Accepted, IsRefused}
use Rattle.ax_ask.specs.declared.transcripts.Transcript.{Transcript}
use Rattle.ax_ask.specs.Transcripts.{transcript_text}
use Rattle.ax_session.specs.Texts.{dump_text, replay_text, summary_text}
use Rattle.story_gen.specs.Generated.{generated}

-- The input is one that the command does, and this text shows what it comes to. What is replayed is legal: each reply is that of the
-- tree built afresh from the document after the edits flushed by its moment, and no moment falls.
abbrev pub Does : Command → List ℕ → List ℕ → Type 0
Does Dump input text = (story : Story) × Accepted input story × (text ≡ dump_text story)
Does Replay input text = (story : Story) × Accepted input story × IsLegalTranscript story (transcript_of story) × (text ≡ replay_text story)
Does Run input text = (story : Story) × (transcript : Transcript) × Accepted input story × IsLegalTranscript story transcript × (text ≡ transcript_text transcript)
Does (Gen n) input text = (story : Story) × Accepted input story × IsLegalTranscript story (transcript_of story) × (text ≡ summary_text story)

-- the input is one that the command does
abbrev pub IsGood : Command → List ℕ → Type 0
IsGood Dump input = (story : Story) × Accepted input story
IsGood Replay input = (story : Story) × Accepted input story
IsGood Run input = (story : Story) × Accepted input story
IsGood (Gen n) input = (story : Story) × Accepted input story

-- this is the refusal of the input
abbrev pub Refuses : Command → List ℕ → Refusal → Type 0
Refuses Dump input refusal = IsRefused input refusal
Refuses Replay input refusal = IsRefused input refusal
Refuses Run input refusal = IsRefused input refusal
Refuses (Gen n) input refusal = IsRefused input refusal

-- a command that reads the source
abbrev pub IsReader : Command → Type 0
IsReader Dump = Unit {0}
IsReader Replay = Unit {0}
IsReader Run = Unit {0}
IsReader (Gen n) = ⊥

-- for this input the command may answer so and write this text
abbrev pub MayAnswer : Command → List ℕ → Status → List ℕ → Type 0
MayAnswer command input Done text = Does command input text
MayAnswer command input Refused text = (refusal : Refusal) × Refuses command input refusal × (text ≡ refusal_text refusal)
MayAnswer command input ReadFault text = ⊥
MayAnswer command input WriteFault text = ⊥
MayAnswer command input NoMemory text = ⊥
MayAnswer command input Words text = ⊥

-- one more byte than a story may have
abbrev pub most_read : ℕ
most_read = 2 ^ 24 + 1

-- the input of a command, where the source tells what it has left: that of `gen` is the generated story
abbrev pub HasInput : Command → Option (List ℕ) → List ℕ → Type 0
HasInput Dump left input = IsSomeAnd left (λ bytes. input ≡ take most_read bytes)
HasInput Replay left input = IsSomeAnd left (λ bytes. input ≡ take most_read bytes)
HasInput Run left input = IsSomeAnd left (λ bytes. input ≡ take most_read bytes)
HasInput (Gen n) left input = input ≡ generated n

-- the input of a command was taken from the source, and nothing else; for `gen` nothing is taken
abbrev pub TakesFor : Command → Option (List ℕ) → Option (List ℕ) → List ℕ → Type 0
TakesFor Dump left left' input = TakesInput most_read left left' input
TakesFor Replay left left' input = TakesInput most_read left left' input
TakesFor Run left left' input = TakesInput most_read left left' input
TakesFor (Gen n) left left' input = (input ≡ generated n) × (left' ≡ left)

-- the input was taken and nothing else, and this text is the answer to it
pub record Replies (words : List (String Global)) (left left' : Option (List ℕ)) (status : Status) (text : List ℕ) : Type 0 where
  pub command : Command
  pub form : command_of words ≡ Some command
  pub input : List ℕ
  pub taken : TakesFor command left left' input
  pub answer : MayAnswer command input status text

-- the text of the answer went out, and nothing else
abbrev pub WritesAnswer : List (String Global) → Option (List ℕ) → Option (List ℕ) → Option (List ℕ) → Option (List ℕ) → Status → Type 0
WritesAnswer words left left' gone gone' status = (text : List ℕ) × Replies words left left' status text × Appends gone gone' text

-- a prefix of the text of an answer was written, and nothing else
abbrev pub WritesFront : List (String Global) → Option (List ℕ) → Option (List ℕ) → Option (List ℕ) → Option (List ℕ) → Type 0
WritesFront words left left' gone gone' = (status : Status) × (text : List ℕ) × Replies words left left' status text × AddsFront gone gone' text

-- a command that reads met a fault
abbrev pub FailsToRead : List (String Global) → ℕ → ℕ → Type 0
FailsToRead words reads reads' = (command : Command) × (command_of words ≡ Some command) × IsReader command × Rose reads reads'

-- no read or write failed
abbrev pub NoFault : ℕ → ℕ → ℕ → ℕ → Type 0
NoFault reads reads' writes writes' = (reads' ≡ reads) × (writes' ≡ writes)

-- what each status says
abbrev pub StatusMeans : {I O : Type 0} → (I → Option (List ℕ)) → (I → ℕ) → (O → Option (List ℕ)) → (O → ℕ) → List (String Global) → I → I → O → O → Status → Type 0
StatusMeans left reads gone writes words i i' o o' Done = WritesAnswer words (left i) (left i') (gone o) (gone o') Done × NoFault (reads i) (reads i') (writes o) (writes o')
StatusMeans left reads gone writes words i i' o o' Refused = WritesAnswer words (left i) (left i') (gone o) (gone o') Refused × NoFault (reads i) (reads i') (writes o) (writes o')
StatusMeans left reads gone writes words i i' o o' ReadFault = FailsToRead words (reads i) (reads i') × (o' ≡ o)
StatusMeans left reads gone writes words i i' o o' WriteFault = Rose (writes o) (writes o') × WritesFront words (left i) (left i') (gone o) (gone o')
StatusMeans left reads gone writes words i i' o o' NoMemory = o' ≡ o
StatusMeans left reads gone writes words i i' o o' Words = (i' ≡ i) × (o' ≡ o)

-- this answer, or want of memory
abbrev pub IsOrNoMemory : Status → Status → Type 0
IsOrNoMemory status want = (status ≡ want) ⊎ (status ≡ NoMemory)

-- Without a fault, a good input is done and a refused one is refused, or memory ran out.
abbrev pub Completes : Command → List ℕ → Status → Type 0
Completes command input status = (IsGood command input → IsOrNoMemory status Done) × ((refusal : Refusal) → Refuses command input refusal → IsOrNoMemory status Refused)

abbrev pub IsComplete : List (String Global) → Option (List ℕ) → ℕ → ℕ → ℕ → ℕ → Status → Type 0
IsComplete words left reads reads' writes writes' status =
    (command : Command) (input : List ℕ) → command_of words ≡ Some command → HasInput command left input → ¬ (Rose reads reads') → ¬ (Rose writes writes') → Completes command input status

-- what a command does on one thread leaves the spawner as it was, and so do words that are no command
abbrev pub LeavesSpawner : {S : Type 0} → Option Command → S → S → Type 0
LeavesSpawner None old new = new ≡ old
LeavesSpawner (Some Dump) old new = new ≡ old
LeavesSpawner (Some Replay) old new = new ≡ old
LeavesSpawner (Some Run) old new = Unit {0}
LeavesSpawner (Some (Gen n)) old new = new ≡ old

-- what a command that reads nothing leaves: the source as it was, and so do words that are no command
abbrev pub LeavesSource : {I : Type 0} → Option Command → I → I → Type 0
LeavesSource None old new = new ≡ old
LeavesSource (Some Dump) old new = Unit {0}
LeavesSource (Some Replay) old new = Unit {0}
LeavesSource (Some Run) old new = Unit {0}
LeavesSource (Some (Gen n)) old new = new ≡ old
