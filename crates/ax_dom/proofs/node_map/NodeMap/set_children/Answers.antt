use Rattle.std.proofs.Common.{◌∙◌, ap}
use Rattle.ax_dom.specs.declared.cell.NodeEntry.{NodeEntry}
use Rattle.ax_dom.proofs.Rewrites.{rewritten_at, rewritten_none}
use Rattle.ax_dom.proofs.node_map.NodeMap.set_children.Goals as goal
use Rattle.ax_dom.proofs.node_map.NodeMap.set_children.Goals.{in-Some, in_default}

pub returns : goal.returns
returns c =
    let es = c.self.inside.map in
    let fs = c.match-get_mut.self-inside.map in
    let make : NodeEntry → NodeEntry = λ s. record s { children = c.args.list } in
    elim c.match-get_mut.branch [
      | in-Some w ↦
          let h = c.get_mut.follows.holds (record w.in-Some.entry.now { children = c.args.list }) in
          rw c.self.view_is at (rewritten_at es fs c.args.id make w.in-Some.entry.now w.in-Some.ensures.value (ap (λ i. i.map) w.self-inside-is ∙ h))
      | in_default w ↦ rw c.self.view_is at (rewritten_none es fs c.args.id make w.in_default.ensures.value (ap (λ i. i.map) w.self-inside-is ∙ c.get_mut.follows.holds-at-none))
    ]
