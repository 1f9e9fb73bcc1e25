use Rattle.std.proofs.Common.{◌≡◌, take}
use Rattle.ax_world.specs.Machine.{start, after_turns}
use Rattle.ax_world.proofs.world.replay.Given as goal

abbrev pub invariant-loop-who : goal.invariant-loop-who
invariant-loop-who l = record {
  story : l.world.story ≡ l.story;
  state : l.world.state ≡ after_turns l.story (take l.who-index l.who-items) start;
}
