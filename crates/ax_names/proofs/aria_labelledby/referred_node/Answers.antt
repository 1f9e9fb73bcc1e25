use Rattle.std.proofs.Common.{◌∙◌, ap, sym, cond}
use Rattle.std.proofs.lemmas.Result.{IfOk-weaker}
use Rattle.ax_base.specs.Characters.{flat}
use Rattle.ax_base.specs.Said.{said0, said_all}
use Rattle.ax_names.proofs.aria_labelledby.referred_node.Goals as goal

pub returns-then-is_hidden : goal.returns-then-is_hidden
returns-then-is_hidden g c =
    let d = c.args.dom.now in
    let n = c.args.id in
    let hidden = sym c.if-is_hidden.true ∙ c.is_hidden.ensures in
    IfOk-weaker c.into_flat.result _ _ (λ p made. made (said_all d n) c.in_ok-all.ensures.value ∙ ap (λ w. g.G.Gather.of (flat (cond w (said_all d n) (said0 d n)))) hidden) c.into_flat.ensures

pub returns : goal.returns
returns g c =
    let d = c.args.dom.now in
    let n = c.args.id in
    let shown = sym c.if-is_hidden.false ∙ c.is_hidden.ensures in
    IfOk-weaker c.into_flat-2.result _ _ (λ p made. made (said0 d n) c.in_ok-shown.ensures.value ∙ ap (λ w. g.G.Gather.of (flat (cond w (said_all d n) (said0 d n)))) shown) c.into_flat-2.ensures
