use Rattle.ax_base.specs.Document.{depth}
use Rattle.ax_dom.proofs.dom.Dom.+is_above.Given as goal

-- how many levels are above the node
abbrev pub decreases-is_above : goal.decreases-is_above
decreases-is_above l = depth l.self.now l.below
