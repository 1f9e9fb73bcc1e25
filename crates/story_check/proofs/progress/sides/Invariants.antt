use Rattle.std.proofs.Common.{◌≡◌, map, take}
use Rattle.story_check.specs.Acceptance.{side}
use Rattle.story_check.proofs.progress.sides.Given as goal

abbrev pub invariant-loop-letter : goal.invariant-loop-letter
invariant-loop-letter l = l.turns.items ≡ map side (take l.letter-index l.letters)
