use Rattle.std.proofs.Common.{refl, ap, ◌∙◌, arith}
use Rattle.std.proofs.lemmas.List.{take_all}
use Rattle.ax_dom.specs.Among.{is_in}
use Rattle.dom_ids.proofs.Climbing.{more_of}
use Rattle.dom_ids.proofs.ordering.set_of.Goals as goal

pub loop-node-init : goal.loop-node-init
loop-node-init c = λ n. ap (λ l. is_in l n) c.new-set.ensures

pub loop-node-preserved : goal.loop-node-preserved
loop-node-preserved c = λ n. more_of c.args.nodes.now c.loop-node.node-index c.node-item.result n c.loop-node.set c.add.new.self (omega arith) c.node-item.is (c.loop-node.invariant n) c.in_ok-add.ensures.ok

pub returns : goal.returns
returns c = λ n. c.loop-node.invariant n ∙ ap (λ l. is_in l n) (take_all c.loop-node.node-index c.args.nodes.now (omega arith))
