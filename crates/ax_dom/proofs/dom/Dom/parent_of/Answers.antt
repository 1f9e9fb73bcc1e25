use Rattle.ax_dom.proofs.Kept.{parent_missing}
use Rattle.ax_dom.proofs.dom.Dom.parent_of.Goals as goal

pub returns-in-None-clause-value : goal.returns-in-None-clause-value
returns-in-None-clause-value c = parent_missing _ _ _ _ _ c.self.view_is c.self.invariant.tree c.in-None.ensures
