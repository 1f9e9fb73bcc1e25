use Rattle.std.proofs.Common.{◌∙◌}
use Rattle.ax_dom.proofs.Kept.{children_found, children_missing}
use Rattle.ax_dom.proofs.dom.Dom.children_of.Goals as goal

pub returns-in-Some-clause-value : goal.returns-in-Some-clause-value
returns-in-Some-clause-value c = c.as_slice.ensures ∙ children_found _ _ _ _ _ c.self.view_is _ c.in-Some.ensures

pub returns-in-None-clause-value : goal.returns-in-None-clause-value
returns-in-None-clause-value c = children_missing _ _ _ _ _ c.self.view_is c.in-None.ensures
