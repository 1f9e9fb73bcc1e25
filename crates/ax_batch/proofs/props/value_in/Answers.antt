use Rattle.std.proofs.Common.{◌++◌, ◌∷◌, [], ◌+◌, take, arith, rules, ap, ◌∙◌}
use Rattle.std.specs.Prelude.{option_copied}
use Rattle.std.proofs.lemmas.List.{take_more}
use Rattle.ax_batch.proofs.TakingOver.{found_more}
use Rattle.ax_batch.proofs.props.value_in.Goals as goal

pub loop-value-preserved : goal.loop-value-preserved
loop-value-preserved c =
    found_more c.args.prop (take c.loop-value.value-index c.args.values.now) (take (c.loop-value.value-index + 1) c.args.values.now) c.value-item.result (option_copied c.loop-value.found) (option_copied c.later-found.result)
    c.loop-value.invariant c.later-found.ensures
    (take_more c.args.values.now c.loop-value.value-index c.value-item.result (omega arith) ∙ ap (λ x. take c.loop-value.value-index c.args.values.now ++ x ∷ []) (search rules))
