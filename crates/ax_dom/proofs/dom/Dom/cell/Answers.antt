use Rattle.ax_dom.proofs.Kept.{cell_found, cell_missing}
use Rattle.ax_dom.proofs.dom.Dom.cell.Goals as goal

pub returns-in-Some-clause-value : goal.returns-in-Some-clause-value
returns-in-Some-clause-value g c = cell_found _ _ _ _ _ c.self.view_is _ c.in-Some.ensures c.self.invariant

pub returns-in-None-clause-value : goal.returns-in-None-clause-value
returns-in-None-clause-value g c = cell_missing _ _ _ _ _ c.self.view_is c.in-None.ensures
