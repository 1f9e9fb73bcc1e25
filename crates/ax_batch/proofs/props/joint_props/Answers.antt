use Rattle.std.proofs.Common.{◌++◌, ap, ◌∙◌}
use Rattle.std.specs.Prelude.{flat_map, option_to_list}
use Rattle.std.specs.Option.{option_or}
use Rattle.ax_record.specs.Differences.{every_prop}
use Rattle.ax_batch.specs.Fates.{value_in, joint_props}
use Rattle.ax_batch.proofs.props.joint_props.Goals as goal

pub returns : goal.returns
unfolding joint_props
returns c = c.in_ok-list_joint.ensures ∙ ap (λ l. l ++ flat_map (λ p. option_to_list (option_or (value_in p c.args.second.now) (value_in p c.args.first.now))) every_prop) c.new-props.ensures
