use Rattle.std.proofs.Common.{◌≡◌, List, [], sym, ap, ◌∙◌, subst}
use Rattle.ax_ask.specs.declared.transcripts.Entry.{Entry}
use Rattle.story_check.specs.Stories.{Story, flushes}
use Rattle.ax_answer.specs.Legal.{IsLegal}
use Rattle.ax_world.specs.Machine.{State, transcript_in_turns}
use Rattle.ax_world.specs.Worlds.{Play}
use Rattle.ax_world.proofs.Rounds.{rounds_alone, rounds_legal}
use Rattle.ax_world.proofs.world.play_in_turns.Goals as goal

pub returns : goal.returns
returns c =
    let is = c.in_ok-in_rounds.ensures in
    let begins = ap (λ (w : Play). w.state) c.in_ok-world.ensures in
    let over = rounds_alone c.args.story.now _ _ c.requires.free begins is.rounds is.over in
    let entries = c.into_transcript.ensures.entries ∙ ap (λ (x : State). x.entries) over in
    let count = c.into_transcript.ensures.flushes ∙ ap (λ (s : Story). flushes s.page) is.story in
    let told : c.into_transcript.result ≡ transcript_in_turns c.args.story.now = λ i. record { entries = entries i; flushes = count i } in
    record {
      value = told;
      legal = (
        count,
        subst (λ (es : List Entry). IsLegal c.args.story.now es) (sym c.into_transcript.ensures.entries)
            (rounds_legal c.args.story.now _ _ [] begins is.rounds is.over),
      );
    }
