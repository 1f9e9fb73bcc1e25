use Rattle.std.proofs.Common.{◌+◌, ◌-◌}
use Rattle.std.specs.Prelude.{vec_len}
use Rattle.ax_base.specs.IdMaps.{SamePlaces}
use Rattle.ax_base.proofs.dense.grow.Given as goal

-- each id has what it had
abbrev pub invariant-grow : goal.invariant-grow
invariant-grow g l = SamePlaces l.initial.places.items l.places.items

abbrev pub decreases-grow : goal.decreases-grow
decreases-grow g l = l.at + 1 - vec_len l.places
