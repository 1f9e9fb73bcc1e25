use Rattle.std.proofs.Common.{◌≡◌, ◌==◌, take}
use Rattle.std.specs.List.{list_any}
use Rattle.ax_base.proofs.seeking.is_in_block.Given as goal

-- it was found among the ids so far
abbrev pub invariant-loop-x : goal.invariant-loop-x
invariant-loop-x l = l.found ≡ list_any (λ x. x == l.id-inside.0) (take l.x-index l.block)
