use Rattle.ax_world.proofs.Kept.{log_fits, kept_take}
use Rattle.ax_world.proofs.world.World.take.Goals as goal

pub patch-requires : goal.patch-requires
patch-requires c = log_fits _ _ _ _ _ _ c.self.invariant.0

pub invariant_of-result : goal.invariant_of-result
invariant_of-result c = (kept_take _ _ _ _ _ _ _ _ _ _ c.self.invariant.0 c.empty.ensures c.in_ok-client_tree.ensures.tree c.in_ok-client_tree.ensures.notices c.in_ok-extend.ensures.ok, c.self.invariant.1)
