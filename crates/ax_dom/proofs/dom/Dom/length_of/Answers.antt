use Rattle.ax_dom.proofs.Kept.{length_missing}
use Rattle.ax_dom.proofs.dom.Dom.length_of.Goals as goal

pub returns-in-None : goal.returns-in-None
returns-in-None c = length_missing _ _ _ _ _ c.self.view_is c.in-None.ensures
