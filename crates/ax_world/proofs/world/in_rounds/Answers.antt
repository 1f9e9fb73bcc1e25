use Rattle.std.proofs.Common.{◌+◌, ap, ◌∙◌}
use Rattle.ax_world.specs.Worlds.{Play}
use Rattle.ax_world.proofs.Rounds.{no_rounds, round_more, round_falls}
use Rattle.ax_world.proofs.world.in_rounds.Goals as goal

pub rounds-init : goal.rounds-init
rounds-init c = record { story = c.requires.story; state = (0, no_rounds _ _) }

pub rounds-smaller : goal.rounds-smaller
rounds-smaller c =
    let t = c.requires.state in
    round_falls c.args.story.now t.0 c.rounds.invariant.state.0 _ _ _ c.requires.free (c.rounds.invariant.state.1 t.0 t.1) (ap (λ (w : Play). w.state) c.in_ok-after_page.ensures.0) (ap (λ (w : Play). w.state) c.in_ok-after_client.ensures.0) (λ over. let h = c.rounds-test.ensures.1 over in cc)

pub rounds-preserved : goal.rounds-preserved
rounds-preserved c = record {
  story = ap (λ (w : Play). w.story) c.in_ok-after_client.ensures.0 ∙ (ap (λ (w : Play). w.story) c.in_ok-after_page.ensures.0 ∙ c.rounds.invariant.story);
  state = (c.rounds.invariant.state.0 + 1, λ turns e. round_more _ turns c.rounds.invariant.state.0 _ _ _ (c.rounds.invariant.state.1 turns e) (ap (λ (w : Play). w.state) c.in_ok-after_page.ensures.0) (ap (λ (w : Play). w.state) c.in_ok-after_client.ensures.0));
}
