-- That nothing but a fault or want of memory comes between an input and its answer.
use Rattle.std.proofs.Common.{◌≡◌, ℕ, List, Option, Some, None, refl, sym, ◌∙◌, subst, inl}
use Rattle.std.specs.Prelude.{String}
use Rattle.std.specs.declared.alloc.Global.{Global}
use Rattle.ax_ask.specs.declared.transcripts.Transcript.{Transcript}
use Rattle.ax_ask.specs.Transcripts.{transcript_text}
use Rattle.story_check.specs.declared.last.LastMoment.{LastMoment}
use Rattle.story_check.specs.Last.{IsLastOf}
use Rattle.story_check.specs.Stories.{Story}
use Rattle.ax_answer.specs.Legal.{IsLegalTranscript}
use Rattle.ax_world.specs.Machine.{transcript_of}
use Rattle.ax_session.specs.declared.words.Command.{Command}
use Rattle.ax_session.specs.declared.words.Command.TheVariants.{Dump, Replay, Run, Gen}
use Rattle.ax_session.specs.declared.words.Status.{Status}
use Rattle.ax_session.specs.declared.words.Status.TheVariants.{Done, Refused, ReadFault, WriteFault, NoMemory, Words}
use Rattle.story_check.specs.declared.refusals.Refusal.{Refusal}
use Rattle.ax_session.specs.Command.{command_of}
use Rattle.story_check.specs.Acceptance.{Accepted}
use Rattle.ax_session.specs.Texts.{document_text, replay_text, summary_text}
use Rattle.ax_session.specs.TopCall.{Does, IsGood, Refuses, MayAnswer, Completes, IsComplete, TakesFor, HasInput, LeavesSource, LeavesSpawner}
use Rattle.ax_session.proofs.Lines.{last_text}

-- no input is both done and refused
good_apart : (command : Command) (input : List ℕ) (refusal : Refusal) → IsGood command input → Refuses command input refusal → ⊥
good_apart Dump input refusal h r = let e = sym h.1 ∙ r in cc
good_apart Replay input refusal h r = let e = sym h.1 ∙ r in cc
good_apart Run input refusal h r = let e = sym h.1 ∙ r in cc
good_apart (Gen n) input refusal h r = let e = sym h.1 ∙ r in cc

done_is_good : (command : Command) (input text : List ℕ) → Does command input text → IsGood command input
done_is_good Dump input text h = (h.0, h.1)
done_is_good Replay input text h = (h.0, h.1)
done_is_good Run input text h = (h.0, h.2)
done_is_good (Gen n) input text h = (h.0, h.1)

-- an answer to an input is the one that it has
answers : (command : Command) (input : List ℕ) (status : Status) (text : List ℕ) → MayAnswer command input status text → Completes command input status
answers command input Done text h = (λ a. inl refl, λ refusal r. absurd (good_apart command input refusal (done_is_good command input text h) r))
answers command input Refused text h = (λ a. absurd (good_apart command input h.0 a h.1), λ refusal r. inl refl)
answers command input ReadFault text h = absurd h
answers command input WriteFault text h = absurd h
answers command input NoMemory text h = absurd h
answers command input Words text h = absurd h

-- the input of a command is one
one_input : (command : Command) (left new : Option (List ℕ)) (taken input : List ℕ) → TakesFor command left new taken → HasInput command left input → taken ≡ input
one_input Dump None new taken input t h = absurd h
one_input Dump (Some bytes) new taken input t h = t.is_all ∙ sym h
one_input Replay None new taken input t h = absurd h
one_input Replay (Some bytes) new taken input t h = t.is_all ∙ sym h
one_input Run None new taken input t h = absurd h
one_input Run (Some bytes) new taken input t h = t.is_all ∙ sym h
one_input (Gen n) left new taken input t h = t.0 ∙ sym h

pub complete_from : (words : List (String Global)) (mine : Command) (left new : Option (List ℕ)) (reads reads' writes writes' : ℕ) (taken input : List ℕ) (status : Status) (text : List ℕ)
    → command_of words ≡ Some mine → TakesFor mine left new taken → input ≡ taken → MayAnswer mine input status text → IsComplete words left reads reads' writes writes' status
complete_from words mine left new reads reads' writes writes' taken input status text w t e h command other w' l _ _ =
    let same : mine ≡ command = cc in
    let read : taken ≡ other = one_input command left new taken other (subst (λ c. TakesFor c left new taken) same t) l in
    answers command other status text (subst (λ c. MayAnswer c other status text) same (subst (λ i. MayAnswer mine i status text) (e ∙ read) h))

-- what `dump` writes of an accepted story, by its last moment
pub dumps : (input : List ℕ) (last : LastMoment) (text : List ℕ) → (story : Story) × Accepted input story × IsLastOf story last → text ≡ document_text last.document last.flushes → Does Dump input text
dumps input last text (story, a, is) t = (story, a, t ∙ last_text story last.document last.flushes is.document_is is.flushes_are)

-- what `replay` writes of an accepted story
pub replays : (input : List ℕ) (story : Story) (text : List ℕ) → Accepted input story → IsLegalTranscript story (transcript_of story) → text ≡ replay_text story → Does Replay input text
replays input story text a legal t = (story, a, legal, t)

-- what `gen` writes of an accepted story
pub summarizes : (n : ℕ) (input : List ℕ) (story : Story) (text : List ℕ) → Accepted input story → IsLegalTranscript story (transcript_of story) → text ≡ summary_text story → Does (Gen n) input text
summarizes n input story text a legal t = (story, a, legal, t)

-- what `run` writes of an accepted story
pub runs : (input : List ℕ) (story : Story) (transcript : Transcript) (text : List ℕ) → Accepted input story → IsLegalTranscript story transcript → text ≡ transcript_text transcript → Does Run input text
runs input story transcript text a legal t = (story, transcript, a, legal, t)

-- a spawner that nobody used
pub left_alone : {S : Type 0} (command : Option Command) (spawner : S) → LeavesSpawner command spawner spawner
left_alone None spawner = refl
left_alone (Some Dump) spawner = refl
left_alone (Some Replay) spawner = refl
left_alone (Some Run) spawner = tt
left_alone (Some (Gen n)) spawner = refl

-- what the command of some words does to the spawner
pub leaves : {S : Type 0} (words : Option Command) (command : Command) (old new : S) → words ≡ Some command → LeavesSpawner (Some command) old new → LeavesSpawner words old new
leaves words command old new is h = subst (λ w. LeavesSpawner w old new) (sym is) h

-- and to the source
pub leaves_source : {I : Type 0} (words : Option Command) (command : Command) (old new : I) → words ≡ Some command → LeavesSource (Some command) old new → LeavesSource words old new
leaves_source words command old new is h = subst (λ w. LeavesSource w old new) (sym is) h
