use Rattle.std.proofs.Common.{take}
use Rattle.ax_dom.specs.Rewrites.{IsRewritten, rebased_among}
use Rattle.ax_dom.proofs.node_map.NodeMap.rebase_depths.Given as goal

-- the nodes so far are re-based
abbrev pub invariant-loop-id : goal.invariant-loop-id
invariant-loop-id l = IsRewritten l.initial.self l.self (rebased_among (take l.id-index l.ids) l.base l.top)
