use Rattle.std.proofs.Common.{◌+◌, ◌-◌}
use Rattle.std.specs.Prelude.{vec_len}
use Rattle.ax_base.specs.IdSets.{SameMarks}
use Rattle.ax_base.proofs.id_set.grow.Given as goal

-- each id has the mark that it had
abbrev pub invariant-grow : goal.invariant-grow
invariant-grow l = SameMarks l.initial.items.items l.items.items

abbrev pub decreases-grow : goal.decreases-grow
decreases-grow l = l.at + 1 - vec_len l.items
