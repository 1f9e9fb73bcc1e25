use Rattle.std.proofs.Common.{◌≡◌, take}
use Rattle.std.specs.Prelude.{option_copied}
use Rattle.ax_batch.specs.Fates.{value_in}
use Rattle.ax_batch.proofs.props.value_in.Given as goal

abbrev pub invariant-loop-value : goal.invariant-loop-value
invariant-loop-value l = option_copied l.found ≡ value_in l.prop (take l.value-index l.values)
