use Rattle.std.proofs.Common.{◌≡◌, false, take}
use Rattle.kids_pass.specs.Kids.{AreObjects}
use Rattle.kids_pass.proofs.kept.KeptKids.has_marked.Given as goal

abbrev pub invariant-loop-at : goal.invariant-loop-at
invariant-loop-at l = l.marked ≡ false → AreObjects l.self (take l.at l.children)
