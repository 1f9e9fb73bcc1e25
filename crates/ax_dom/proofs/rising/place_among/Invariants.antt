use Rattle.std.proofs.Common.{◌-◌}
use Rattle.ax_dom.proofs.Halving.{Halved}
use Rattle.ax_dom.proofs.rising.place_among.Given as goal

abbrev pub decreases-halve : goal.decreases-halve
decreases-halve l = l.past - l.from

-- the place is in what is left
abbrev pub invariant-halve : goal.invariant-halve
invariant-halve l = Halved l.ids l.fn.id l.from l.past
