use Rattle.std.proofs.Common.{◌≡◌, ◌+◌, ◌-◌, length}
use Rattle.ax_world.specs.Machine.{lines_done, InRounds}
use Rattle.ax_world.proofs.world.in_rounds.Given as goal

abbrev pub invariant-rounds : goal.invariant-rounds
invariant-rounds l = record {
  story : l.world.story ≡ l.story;
  state : InRounds l.story l.fn.world.state l.world.state;
}

abbrev pub decreases-rounds : goal.decreases-rounds
decreases-rounds l = length l.story.page + length l.story.client - lines_done l.world.state
