use Rattle.std.proofs.Common.{◌∙◌, sym, arith}
use Rattle.std.specs.Ordering.{nat_cmp}
use Rattle.std.specs.BTreeMap.{is_at}
use Rattle.ax_base.proofs.IdParts.{lookup-front, lookup-back, not_behind, not_before}
use Rattle.ax_base.proofs.id_map.IdMap.get.Goals as goal

pub returns-then-id-lt-NEAR_IDS : goal.returns-then-id-lt-NEAR_IDS
returns-then-id-lt-NEAR_IDS g c =
    let near = c.self.inside.near in
    let far = c.self.inside.far.entries in
    let id = c.id.inside.0 in
    rw (c.id.view_is, c.self.view_is) at (c.get.ensures ∙ sym (lookup-front (is_at (nat_cmp id)) near far (not_behind near far id c.self.invariant (omega arith))))

pub returns-else-id-lt-NEAR_IDS : goal.returns-else-id-lt-NEAR_IDS
returns-else-id-lt-NEAR_IDS g c =
    let near = c.self.inside.near in
    let far = c.self.inside.far.entries in
    let id = c.id.inside.0 in
    rw (c.id.view_is, c.self.view_is) at (c.get-else-id-lt-NEAR_IDS.ensures.value ∙ sym (lookup-back (is_at (nat_cmp id)) near far (not_before near far id c.self.invariant (omega arith))))
