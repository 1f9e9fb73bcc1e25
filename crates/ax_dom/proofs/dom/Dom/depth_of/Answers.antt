use Rattle.ax_dom.proofs.Kept.{depth_missing}
use Rattle.ax_dom.proofs.dom.Dom.depth_of.Goals as goal

pub returns-in-None : goal.returns-in-None
returns-in-None c = depth_missing _ _ _ _ _ c.self.view_is c.self.invariant.tree c.in-None.ensures
