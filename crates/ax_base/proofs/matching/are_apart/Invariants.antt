use Rattle.std.proofs.Common.{◌≡◌, false, take}
use Rattle.ax_base.proofs.matching.are_apart.Given as goal

-- where none was apart so far, the two are the same so far
abbrev pub invariant-loop-at : goal.invariant-loop-at
invariant-loop-at l = l.apart ≡ false → take l.at l.ids ≡ take l.at l.others
