use Rattle.std.proofs.Common.{◌≡◌, ◌-◌, ◌+◌, length, get_or, ap, ◌∙◌, arith}
use Rattle.kids_pass.specs.Kids.{IsKidsKept}
use Rattle.kids_pass.proofs.Descending.{one_down, children_below}
use Rattle.kids_pass.proofs.renewing.renew_each.Goals as goal

pub renew_one-requires-clause-children : goal.renew_one-requires-clause-children
renew_one-requires-clause-children g c =
    let ns = c.args.nodes.now in
    children_below c.args.dom.now ns (IsKidsKept c.args.dom.now c.loop-done.kids) (length ns - 1 - c.loop-done.done) (length ns - c.loop-done.done) c.index-nodes-nodes.result
    (omega arith) c.index-nodes-nodes.is (omega arith) c.loop-done.invariant.0 c.requires.tree c.requires.order

pub loop-done-preserved : goal.loop-done-preserved
loop-done-preserved g c =
    let ns = c.args.nodes.now in
    let x = c.index-nodes-nodes.result in
    let at : length ns - 1 - c.loop-done.done ≡ length ns - (c.loop-done.done + 1) = omega arith in
    let reads = c.renew_one.ensures.counted in
    let before = c.loop-done.invariant.1 in (
      one_down c.args.dom.now ns (IsKidsKept c.args.dom.now c.loop-done.kids) (length ns - (c.loop-done.done + 1)) (length ns - c.loop-done.done) x
          (omega arith) (c.index-nodes-nodes.is ∙ ap (λ k. get_or ns k x) at) (omega arith) c.loop-done.invariant.0
          (IsKidsKept c.args.dom.now c.renew_one.new.kids) c.in_ok-renew_one.ensures.keeps c.in_ok-renew_one.ensures.here,
      omega arith,
    )
