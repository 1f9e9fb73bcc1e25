use Rattle.std.proofs.Common.{◌≡◌, sym, ap, subst, ◌∙◌}
use Rattle.story_check.specs.Stories.{Story, flushes}
use Rattle.ax_answer.specs.Legal.{IsLegalTranscript}
use Rattle.ax_world.specs.Machine.{State, transcript_of}
use Rattle.ax_world.specs.Worlds.{Play}
use Rattle.ax_world.proofs.Rounds.{step_more, all_done, rounds_end}
use Rattle.ax_world.proofs.world.replay.Goals as goal

pub loop-who-preserved : goal.loop-who-preserved
loop-who-preserved c = record {
  story = ap (λ (w : Play). w.story) c.in_ok-next.ensures.0 ∙ c.loop-who.invariant.story;
  state = step_more c.args.story.now c.turns-who-items.result.now c.loop-who.who-index _ c.loop-who.world.state _ c.loop-who-test.true c.loop-who.invariant.state (ap (λ (w : Play). w.state) c.in_ok-next.ensures.0);
}

pub returns : goal.returns
returns c =
    let done = all_done _ _ _ c.loop-who.who-index _ c.turns-who-items.ensures c.loop-who-test.false c.loop-who.invariant.state in
    let over = rounds_end c.args.story.now c.loop-who.world.state _ c.requires.free done c.in_ok-in_rounds.ensures.rounds c.in_ok-in_rounds.ensures.over in
    let entries = c.into_transcript.ensures.entries ∙ ap (λ (x : State). x.entries) over in
    let count = c.into_transcript.ensures.flushes ∙ ap (λ (s : Story). flushes s.page) c.in_ok-in_rounds.ensures.story in
    let is : c.into_transcript.result ≡ transcript_of c.args.story.now = λ i. record { entries = entries i; flushes = count i } in
    record { value = is; legal = subst (IsLegalTranscript c.args.story.now) (sym is) (c.playing_ends.ensures.legal c.args.story.now c.requires.free) }
