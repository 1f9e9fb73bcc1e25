use Rattle.std.proofs.Common.{◌≡◌, take}
use Rattle.ax_batch.proofs.batch.copy_records.Given as goal

abbrev pub invariant-loop-object : goal.invariant-loop-object
invariant-loop-object l = l.copy ≡ take l.object-index l.records
