use Rattle.ax_world.proofs.Kept.{kept_told}
use Rattle.ax_world.proofs.world.World.print_notices.Goals as goal

pub invariant_of-world : goal.invariant_of-world
invariant_of-world c = (kept_told _ _ _ _ _ _ _ c.self.invariant.0 c.new.ensures, c.self.invariant.1)
