use Rattle.std.proofs.Common.{◌≡◌, true}
use Rattle.ax_base.specs.Document.{has, depth}
use Rattle.ax_base.specs.Context.{is_hidden}
use Rattle.ax_names.proofs.hidden.is_hidden.Given as goal

-- the node at hand is there, and hidden where the one asked of is
abbrev pub invariant-up : goal.invariant-up
invariant-up g l = (has l.dom l.at ≡ true) × (is_hidden l.dom l.at ≡ is_hidden l.dom l.fn.id)

abbrev pub decreases-up : goal.decreases-up
decreases-up g l = depth l.dom l.at
