use Rattle.std.proofs.Common.{◌≡◌, not, take}
use Rattle.std.specs.Prelude.{filter, nat_eq}
use Rattle.std.specs.List.{list_any}
use Rattle.ax_dom.proofs.node_map.NodeMap.remove_all.Given as goal

-- the nodes so far are gone
abbrev pub invariant-loop-id : goal.invariant-loop-id
invariant-loop-id l = l.self ≡ filter (λ e. not (list_any (nat_eq e.0) (take l.id-index l.ids))) l.initial.self
