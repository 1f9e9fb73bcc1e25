use Rattle.std.proofs.Common.{◌+◌, take, sym, subst, arith}
use Rattle.node_order.specs.Parents.{AreParentsOf}
use Rattle.node_order.proofs.Finding.{found_more, none_more}
use Rattle.node_order.proofs.parents.parents_of.Goals as goal
use Rattle.node_order.proofs.parents.parents_of.Goals.{in-Some+in_ok-put, in_default}

pub loop-id-preserved : goal.loop-id-preserved
loop-id-preserved g c =
    let d = c.args.dom.now in
    let ns = c.args.nodes.now in
    let i = c.loop-id.id-index in
    let far = c.loop-id.invariant.value in
    let read = c.parent.ensures.counted in
    let before = c.loop-id.invariant.counted in
    record {
      value = elim c.match-parent.branch [
        | in-Some+in_ok-put w ↦ subst (AreParentsOf d (take (i + 1) ns)) (sym w.found-is) (found_more d ns i c.id-item.result (omega arith) c.id-item.is c.loop-id.found far w.in-Some.parent w.put.new.self (sym w.in-Some.ensures.value) w.in_ok-put.ensures)
        | in_default w ↦ subst (AreParentsOf d (take (i + 1) ns)) (sym w.found-is) (none_more d ns i c.id-item.result (omega arith) c.id-item.is c.loop-id.found far w.in_default.ensures.value)
      ];
      counted = omega arith;
    }
