use Rattle.std.proofs.Common.{arith}
use Rattle.ax_base.specs.Document.{IsChild}
use Rattle.ax_dom.proofs.Walks.{child_of, descends}
use Rattle.dom_ids.proofs.Gathering.{nothing_gathered, more_gathered, all_gathered}
use Rattle.dom_ids.proofs.ordering.+gather.Goals as goal

pub returns-then-not-has : goal.returns-then-not-has
returns-then-not-has g t c = nothing_gathered c.args.dom.now c.requires.tree c.args.wanted.now c.args.ways.now c.args.out.now c.requires.ways c.args.id c.if-not-has.ensures

pub gather-requires : goal.gather-requires
gather-requires g t c κs within =
    let d = c.args.dom.now in
    let child : IsChild d c.args.id c.child-item.result = child_of d c.args.id c.loop-child.child-index _ _ c.children-child-items.ensures.value (omega arith) c.child-item.is in
    let m = descends d c.requires.tree c.args.id c.child-item.result child in
    let l = c.decreases in
    (omega arith, (within, (c.requires.tree, c.requires.ways)))

pub loop-child-preserved : goal.loop-child-preserved
loop-child-preserved g t c =
    more_gathered c.args.dom.now c.args.wanted.now c.args.out.now c.loop-child.out c.gather.new.out c.args.id c.loop-child.child-index c.child-item.result c.children-child-items.result.now
    (omega arith) c.child-item.is c.loop-child.invariant c.in_ok-gather.ensures

pub returns : goal.returns
returns g t c =
    all_gathered c.args.dom.now c.requires.tree c.args.wanted.now c.args.out.now c.loop-child.out c.args.id c.loop-child.child-index c.children-child-items.result.now
    c.children-child-items.ensures.value (omega arith) c.loop-child.invariant
