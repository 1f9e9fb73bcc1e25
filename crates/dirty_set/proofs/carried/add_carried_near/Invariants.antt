use Rattle.std.proofs.Common.{◌≡◌, ◌++◌, take}
use Rattle.dirty_set.specs.Marking.{carried_by_all}
use Rattle.dirty_set.proofs.carried.add_carried_near.Given as goal

abbrev pub invariant-loop-id : goal.invariant-loop-id
invariant-loop-id g l = l.texts.items ≡ l.fn.texts.items ++ carried_by_all l.dom (take l.id-index l.id-items)
