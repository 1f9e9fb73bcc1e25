use Rattle.std.proofs.lemmas.Result.{on_ok_weaker}
use Rattle.ax_base.specs.References.{referred_node}
use Rattle.ax_names.proofs.aria_labelledby.push_node.Goals as goal

pub returns-in-Some-clause-value : goal.returns-in-Some-clause-value
returns-in-Some-clause-value g c =
    let d = c.args.dom.now in
    let kept = c.in-Some.ensures.sound (referred_node d) c.requires.sayings.referred in
    on_ok_weaker c.append.result (λ added before is. added before (referred_node d c.args.id) is kept) c.append.ensures

pub returns-clause-value : goal.returns-clause-value
returns-clause-value g c =
    on_ok_weaker c.keep.result (λ kept before is. c.in_ok-append.ensures before (referred_node c.args.dom.now c.args.id) is c.in_ok-said.ensures) c.keep.ensures.sound

pub returns-clause-sayings : goal.returns-clause-sayings
returns-clause-sayings g c =
    on_ok_weaker c.keep.result (λ kept. record {
      targets = c.requires.sayings.targets;
      referred = kept (referred_node c.args.dom.now) c.requires.sayings.referred c.in_ok-said.ensures;
      contents = c.requires.sayings.contents;
    }) c.keep.ensures.sound
