use Rattle.std.proofs.Common.{◌∙◌, ap}
use Rattle.std.proofs.lemmas.Result.{IfOk-weaker}
use Rattle.ax_names.specs.Pieces.{all_apart}
use Rattle.ax_names.specs.Sessions.{all_referred}
use Rattle.ax_names.proofs.Referring.{flat_referred}
use Rattle.ax_names.proofs.aria_labelledby.referred_by.Goals as goal

pub returns-clause-value : goal.returns-clause-value
returns-clause-value g c =
    let d = c.args.dom.now in
    let text = c.args.text.now in
    IfOk-weaker c.into_flat.result _ _ (λ p made. made (all_apart (all_referred d text)) c.in_ok-joined.ensures.value ∙ ap g.G.Gather.of (flat_referred d text)) c.into_flat.ensures
