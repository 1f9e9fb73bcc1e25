use Rattle.std.proofs.Common.{arith}
use Rattle.ax_base.specs.Document.{IsChild}
use Rattle.ax_dom.proofs.Walks.{child_of, descends}
use Rattle.dirty_set.proofs.Walking.{walked_within, walk_first, walk_more, walk_closed, walk_within, call_closed, early_only}
use Rattle.dirty_set.proofs.below.+walking.Goals as goal

pub returns-then-has-clause-within : goal.returns-then-has-clause-within
returns-then-has-clause-within g t c = walked_within c.args.dom.now c.requires.tree c.args.walked.now c.args.id c.requires.closed c.if-has.ensures

pub loop-child-init : goal.loop-child-init
loop-child-init g t c = walk_first c.args.dom.now c.requires.tree c.args.walked.now c.add.new.self c.args.id c.if-has.ensures c.in_ok-add.ensures.ok c.args.steps.now c.children-child-items.new.steps c.children-child-items.result.now c.requires.closed c.requires.rises c.children-child-items.ensures.counted

pub walk_below-requires : goal.walk_below-requires
walk_below-requires g t c κs within =
    let d = c.args.dom.now in
    let child : IsChild d c.args.id c.child-item.result = child_of d c.args.id c.loop-child.child-index _ _ c.children-child-items.ensures.value (omega arith) c.child-item.is in
    let l = c.decreases in
    let m = descends d c.requires.tree c.args.id c.child-item.result child in
    (omega arith, (within, (c.requires.tree, (call_closed d c.requires.tree c.args.walked.now c.loop-child.walked c.args.id c.args.steps.now c.loop-child.steps c.loop-child.child-index c.children-child-items.result.now c.children-child-items.ensures.value c.loop-child.invariant c.child-item.result child, c.loop-child.invariant.rises))))

pub returns-in_err-walk_below-clause-only : goal.returns-in_err-walk_below-clause-only
returns-in_err-walk_below-clause-only g t c =
    let d = c.args.dom.now in
    let child : IsChild d c.args.id c.child-item.result = child_of d c.args.id c.loop-child.child-index _ _ c.children-child-items.ensures.value (omega arith) c.child-item.is in
    early_only d c.requires.tree c.args.walked.now c.loop-child.walked c.args.id c.args.steps.now c.loop-child.steps c.loop-child.child-index c.children-child-items.result.now c.children-child-items.ensures.value c.loop-child.invariant
    c.child-item.result child c.walk_below.new.walked c.walk_below.new.steps c.walk_below.ensures.keeps c.walk_below.ensures.only c.walk_below.ensures.counted

pub loop-child-preserved : goal.loop-child-preserved
loop-child-preserved g t c =
    let d = c.args.dom.now in
    let child : IsChild d c.args.id c.child-item.result = child_of d c.args.id c.loop-child.child-index _ _ c.children-child-items.ensures.value (omega arith) c.child-item.is in
    walk_more d c.requires.tree c.args.walked.now c.loop-child.walked c.args.id c.args.steps.now c.loop-child.steps c.loop-child.child-index c.children-child-items.result.now c.children-child-items.ensures.value c.loop-child.invariant
    c.child-item.result child c.walk_below.new.walked c.walk_below.new.steps c.walk_below.ensures.keeps c.walk_below.ensures.only c.walk_below.ensures.counted
    (omega arith) c.child-item.is c.in_ok-walk_below.ensures.closed c.in_ok-walk_below.ensures.within c.walk_below.ensures.rises

pub returns-clause-closed : goal.returns-clause-closed
returns-clause-closed g t c = walk_closed c.args.dom.now c.requires.tree c.args.walked.now c.loop-child.walked c.args.id c.args.steps.now c.loop-child.steps c.loop-child.child-index c.children-child-items.result.now c.children-child-items.ensures.value c.loop-child.invariant (omega arith)

pub returns-clause-within : goal.returns-clause-within
returns-clause-within g t c = walk_within c.args.dom.now c.requires.tree c.args.walked.now c.loop-child.walked c.args.id c.args.steps.now c.loop-child.steps c.loop-child.child-index c.children-child-items.result.now c.children-child-items.ensures.value c.loop-child.invariant (omega arith)
