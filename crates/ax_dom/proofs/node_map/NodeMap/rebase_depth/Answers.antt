use Rattle.std.proofs.Common.{◌≡◌, ◌∙◌, ap, ◌+◌, ◌-◌}
use Rattle.std.specs.Prelude.{min}
use Rattle.std.specs.Ordering.{nat_cmp}
use Rattle.std.specs.Map.{set_value}
use Rattle.std.specs.BTreeMap.{is_at}
use Rattle.ax_dom.specs.Rewrites.{rebased}
use Rattle.ax_dom.proofs.Rewrites.{rewritten_at, rewritten_none}
use Rattle.ax_dom.proofs.node_map.NodeMap.rebase_depth.Goals as goal
use Rattle.ax_dom.proofs.node_map.NodeMap.rebase_depth.Goals.{in-Some, in_default}

pub returns : goal.returns
returns c =
    let es = c.self.inside.map in
    let fs = c.match-get_mut.self-inside.map in
    let id = c.args.id in
    elim c.match-get_mut.branch [
      | in-Some w ↦
          let s = w.in-Some.entry.now in
          let h = c.get_mut.follows.holds (record s { cell = record s.cell { depth = w.min.result } }) in
          let below : w.min-below.result ≡ min (s.cell.depth - c.args.top) 64 = w.min-below.ensures ∙ ap (λ n. min n 64) (w.saturating_sub.ensures ∙ ap (λ n. n - c.args.top) w.from.ensures) in
          let depth : w.min.result ≡ min (c.args.base + min (s.cell.depth - c.args.top) 64) 64 = w.min.ensures ∙ ap (λ n. min (c.args.base + n) 64) below in
          rw c.self.view_is at (rewritten_at es fs id (rebased c.args.base c.args.top) s w.in-Some.ensures.value (ap (λ i. i.map) w.self-inside-is ∙ h
          ∙ ap (λ d. set_value (is_at (nat_cmp id)) es (record s { cell = record s.cell { depth = d } })) depth))
      | in_default w ↦
          rw c.self.view_is at (rewritten_none es fs id (rebased c.args.base c.args.top) w.in_default.ensures.value (ap (λ i. i.map) w.self-inside-is ∙ c.get_mut.follows.holds-at-none))
    ]
