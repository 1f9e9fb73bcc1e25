use Rattle.std.proofs.Common.{◌≡◌, drop, true}
use Rattle.ax_names.specs.Pieces.{evenly_spaced}
use Rattle.ax_names.proofs.front.is_evenly_spaced.Given as goal

-- what is left decides
abbrev pub invariant-loop-b : goal.invariant-loop-b
invariant-loop-b l = evenly_spaced l.parted (drop l.b-index l.b-items) ≡ evenly_spaced true l.text
