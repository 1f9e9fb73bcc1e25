use Rattle.std.proofs.Common.{◌∙◌, ap}
use Rattle.std.specs.Ordering.{nat_cmp}
use Rattle.std.specs.Map.{set_value}
use Rattle.std.specs.BTreeMap.{is_at}
use Rattle.ax_dom.specs.declared.cell.NodeEntry.{NodeEntry}
use Rattle.ax_dom.specs.Places.{without}
use Rattle.ax_dom.proofs.Rewrites.{rewritten_at}
use Rattle.ax_dom.proofs.node_map.NodeMap.unlink_child.Goals as goal

pub returns-in-Some-get_mut : goal.returns-in-Some-get_mut
returns-in-Some-get_mut c =
    let es = c.self.inside.map in
    let s = c.in-Some-get_mut.entry.now in
    let id = c.in-Some.parent in
    let new : NodeEntry = record s { children = c.take_out.new.self } in
    let make : NodeEntry → NodeEntry = λ x. record x { children = without c.args.id x.children } in
    let h = c.get_mut.follows.holds new in
    let t = rewritten_at es (c.get_mut.follows.lender new) id make s c.in-Some-get_mut.ensures.value
    (h ∙ ap (λ l. set_value (is_at (nat_cmp id)) es (record s { children = l })) c.take_out.ensures) in
    rw c.in-Some.is (rw c.self.view_is at t)
