use Rattle.std.proofs.Common.{arith}
use Rattle.ax_base.proofs.Marked.{out-marked, out-unmarked}
use Rattle.ax_base.proofs.id_set.Marks.remove.Goals as goal

pub returns-then-at-len : goal.returns-then-at-len
returns-then-at-len c = rw c.self.view_is at (out-marked c.self.inside.items.items c.args.id (omega (arith, c.self.inside.items.ok.0)))

pub returns-else-at-len : goal.returns-else-at-len
returns-else-at-len c = rw c.self.view_is at (out-unmarked c.self.inside.items.items c.args.id (omega (arith, c.self.inside.items.ok.0)))
