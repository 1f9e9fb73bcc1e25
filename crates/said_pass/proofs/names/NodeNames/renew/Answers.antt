use Rattle.std.proofs.Common.{subst, sym, length, arith}
use Rattle.std.proofs.lemmas.Iterator.Adapters.{YieldsList-from_rev_slice}
use Rattle.std.proofs.lemmas.Iterator.Consumers.{YieldsList-turn, YieldsList-end}
use Rattle.std.proofs.lemmas.List.{length_push}
use Rattle.said_pass.specs.Saids.{IsNameKept}
use Rattle.said_pass.proofs.Backward.{AreRightBehind, behind_more, behind_all, child_behind}
use Rattle.said_pass.proofs.names.NodeNames.renew.Goals as goal

pub renew_node-requires-clause-children : goal.renew_node-requires-clause-children
renew_node-requires-clause-children g c =
    let turn = YieldsList-turn (YieldsList-from_rev_slice c.args.nodes.now cc) c.loop-id.yielded _ c.loop-id.yielded_by _ _ c.in-Some.id c.in-Some.is c.next.ensures.steps in
    child_behind c.args.sources.now c.args.nodes.now (length c.loop-id.yielded) c.in-Some.id.now turn.0 turn.1 c.requires.tree c.requires.order (IsNameKept c.args.sources.now c.loop-id.self) c.loop-id.invariant.0

pub loop-id-preserved : goal.loop-id-preserved
loop-id-preserved g c =
    let d = c.args.sources.now in
    let turn = YieldsList-turn (YieldsList-from_rev_slice c.args.nodes.now cc) c.loop-id.yielded _ c.loop-id.yielded_by _ _ c.in-Some.id c.in-Some.is c.next.ensures.steps in
    let one = length_push c.loop-id.yielded c.in-Some.id in
    let read = c.renew_node.ensures.counted in
    let far = c.loop-id.invariant.1 in (
      subst (λ k. AreRightBehind d c.args.nodes.now k (IsNameKept d c.renew_node.new.self)) (sym one)
          (behind_more d c.args.nodes.now (length c.loop-id.yielded) c.in-Some.id.now turn.0 turn.1 (IsNameKept d c.loop-id.self) (IsNameKept d c.renew_node.new.self) c.loop-id.invariant.0 c.in_ok-renew_node.ensures.stays c.in_ok-renew_node.ensures.here),
      omega arith,
    )

pub returns-clause-value : goal.returns-clause-value
returns-clause-value g c =
    let end = YieldsList-end (YieldsList-from_rev_slice c.args.nodes.now cc) c.loop-id.yielded _ c.loop-id.yielded_by _ _ c.in-None.is c.next.ensures.steps in
    behind_all c.args.sources.now c.args.nodes.now (IsNameKept c.args.sources.now c.loop-id.self) (length c.loop-id.yielded) end.1 c.loop-id.invariant.0
