use Rattle.std.proofs.Common.{◌++◌, ◌∷◌, [], ap, sym, ◌∙◌, append_assoc}
use Rattle.std.specs.Option.{option_map_or}
use Rattle.std.proofs.lemmas.Result.{on_ok_weaker}
use Rattle.ax_base.specs.References.{referred_node}
use Rattle.ax_names.proofs.Known.{target_known}
use Rattle.ax_names.proofs.aria_labelledby.push_token.Goals as goal

pub push_node-requires-clause-known : goal.push_node-requires-clause-known
push_node-requires-clause-known g c = target_known c.args.dom.now c.args.token.now c.in-Some.id (sym (sym c.in-Some.is ∙ c.in_ok-found.ensures.value))

pub returns-in-Some-clause-value : goal.returns-in-Some-clause-value
returns-in-Some-clause-value g c =
    let d = c.args.dom.now in
    let of = g.G.Gather.of in
    let names = sym c.in-Some.is ∙ c.in_ok-found.ensures.value in
    on_ok_weaker c.push_node.result (λ added before is.
    added (before ++ 32 ∷ []) (c.in_ok-append.ensures before (32 ∷ []) is c.in_ok-space.ensures)
    ∙ ap of (append_assoc before (32 ∷ []) (referred_node d c.in-Some.id))
    ∙ ap (λ o. of (before ++ 32 ∷ option_map_or (referred_node d) o [])) names) c.push_node.ensures.value
