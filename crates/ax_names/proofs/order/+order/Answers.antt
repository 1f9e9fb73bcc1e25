use Rattle.std.proofs.Common.{arith}
use Rattle.ax_base.specs.Document.{IsChild}
use Rattle.ax_names.proofs.Speaking.{child_of, descends}
use Rattle.ax_names.proofs.Firsts.{added_below}
use Rattle.ax_names.proofs.order.+order.Goals as goal

pub put_node-requires : goal.put_node-requires
put_node-requires g t c κs within =
    let d = c.args.dom.now in
    let child : IsChild d c.args.id c.child-item.result = child_of d c.args.id c.loop-child.child-index _ _ c.children-child-items.ensures.value (omega arith) c.child-item.is in
    let l = c.decreases in
    let m = descends d c.children-child-items.ensures.tree c.args.id c.child-item.result child in
    (omega arith, within)

pub returns : goal.returns
returns g t c =
    added_below c.args.dom.now c.children-child-items.ensures.tree c.args.id c.args.nodes.now c.push.new.self c.loop-child.nodes c.children-child-items.result.now c.in_ok-push.ensures.ok
    c.children-child-items.ensures.value c.loop-child.child-index c.loop-child-test.false c.loop-child.invariant
