use Rattle.std.proofs.Common.{◌∙◌}
use Rattle.ax_dom.proofs.Kept.{has_is}
use Rattle.ax_dom.proofs.dom.Dom.has.Goals as goal

pub returns : goal.returns
returns c = c.has.ensures ∙ has_is _ _ _ _ _ c.self.view_is
