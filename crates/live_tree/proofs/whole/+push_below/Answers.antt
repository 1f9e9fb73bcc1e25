use Rattle.std.proofs.Common.{arith}
use Rattle.ax_base.specs.Document.{IsChild}
use Rattle.ax_dom.proofs.Walks.{child_of, descends, subtree_added}
use Rattle.live_tree.proofs.whole.+push_below.Goals as goal

pub push_below-requires : goal.push_below-requires
push_below-requires g t c κs within =
    let child : IsChild c.args.dom.now c.args.id c.child-item.result = child_of c.args.dom.now c.args.id c.loop-child.child-index c.child-item.result _ c.children-child-items.ensures.value (omega arith) c.child-item.is in
    let m = descends c.args.dom.now c.children-child-items.ensures.tree c.args.id c.child-item.result child in
    let l = c.decreases in
    (omega arith, within)

pub returns : goal.returns
returns g t c =
    subtree_added c.args.dom.now c.children-child-items.ensures.tree c.args.id c.args.nodes.now _ c.loop-child.nodes _ c.loop-child.child-index
    c.in_ok-push.ensures.ok c.children-child-items.ensures.value (omega arith) c.loop-child.invariant
