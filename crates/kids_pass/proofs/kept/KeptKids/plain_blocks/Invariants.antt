use Rattle.std.proofs.Common.{◌-◌, ◌≤◌, length, take}
use Rattle.kids_pass.specs.Kids.{AreObjects}
use Rattle.kids_pass.proofs.kept.KeptKids.plain_blocks.Given as goal

abbrev pub invariant-plain : goal.invariant-plain
invariant-plain l = (l.at ≤ length l.children) × AreObjects l.self (take l.at l.children)

abbrev pub decreases-plain : goal.decreases-plain
decreases-plain l = length l.children - l.at
