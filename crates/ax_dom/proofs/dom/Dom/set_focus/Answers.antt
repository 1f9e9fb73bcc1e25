use Rattle.ax_dom.proofs.Focused.{kept_focused}
use Rattle.ax_dom.proofs.dom.Dom.set_focus.Goals as goal

pub invariant_of-self : goal.invariant_of-self
invariant_of-self c = kept_focused _ _ _ _ c.self.invariant _ c.self.view_is c.requires
