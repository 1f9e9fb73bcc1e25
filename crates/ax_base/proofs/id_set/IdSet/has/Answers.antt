use Rattle.std.proofs.Common.{◌∙◌, arith}
use Rattle.ax_base.proofs.Marked.{has-front, has-back}
use Rattle.ax_base.proofs.id_set.IdSet.has.Goals as goal

pub returns-then-id-lt-NEAR_IDS : goal.returns-then-id-lt-NEAR_IDS
returns-then-id-lt-NEAR_IDS c = rw (c.id.view_is, c.self.view_is) at (c.has.ensures ∙ has-front c.self.inside.near c.self.inside.far.keys c.id.inside.0 c.self.invariant (omega arith))

pub returns-else-id-lt-NEAR_IDS : goal.returns-else-id-lt-NEAR_IDS
returns-else-id-lt-NEAR_IDS c = rw (c.id.view_is, c.self.view_is) at (c.contains.ensures ∙ has-back c.self.inside.near c.self.inside.far.keys c.id.inside.0 c.self.invariant (omega arith))
