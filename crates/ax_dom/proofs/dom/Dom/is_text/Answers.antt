use Rattle.ax_dom.proofs.Kept.{body_missing}
use Rattle.ax_dom.proofs.dom.Dom.is_text.Goals as goal

pub returns-in-None : goal.returns-in-None
returns-in-None c = body_missing _ _ _ _ _ c.self.view_is c.in-None.ensures
