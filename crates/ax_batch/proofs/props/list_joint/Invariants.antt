use Rattle.std.proofs.Common.{◌≡◌, ◌++◌, take}
use Rattle.std.specs.Prelude.{flat_map, option_to_list}
use Rattle.std.specs.Option.{option_or}
use Rattle.ax_batch.specs.Fates.{value_in}
use Rattle.ax_batch.proofs.props.list_joint.Given as goal

abbrev pub invariant-loop-prop : goal.invariant-loop-prop
invariant-loop-prop l = l.props ≡ l.fn.props ++ flat_map (λ p. option_to_list (option_or (value_in p l.second) (value_in p l.first))) (take l.prop-index l.some)
