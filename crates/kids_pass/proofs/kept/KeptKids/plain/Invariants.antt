use Rattle.std.proofs.Common.{take}
use Rattle.kids_pass.specs.Kids.{AreObjects}
use Rattle.kids_pass.proofs.kept.KeptKids.plain.Given as goal

abbrev pub invariant-loop-at : goal.invariant-loop-at
invariant-loop-at l = AreObjects l.self (take l.at l.children)
