use Rattle.std.proofs.Common.{◌∙◌, ◌++◌, ap, arith}
use Rattle.std.specs.Ordering.{nat_cmp}
use Rattle.std.specs.BTreeMap.{is_at}
use Rattle.ax_base.proofs.IdParts.{remove-front, remove-back, split-out, split-out_back, not_behind, not_before}
use Rattle.ax_base.proofs.id_map.IdMap.remove.Goals as goal

pub invariant_of-self : goal.invariant_of-self
invariant_of-self g c = rw c.remove.ensures (split-out c.self.inside.near c.self.inside.far.entries (is_at (nat_cmp c.id.inside.0)) c.self.invariant)

pub invariant_of-self-else-id-lt-NEAR_IDS : goal.invariant_of-self-else-id-lt-NEAR_IDS
invariant_of-self-else-id-lt-NEAR_IDS g c = rw c.drop_far.ensures (split-out_back c.self.inside.near c.self.inside.far.entries (is_at (nat_cmp c.id.inside.0)) c.self.invariant)

pub returns-then-id-lt-NEAR_IDS : goal.returns-then-id-lt-NEAR_IDS
returns-then-id-lt-NEAR_IDS g c =
    let near = c.self.inside.near in
    let far = c.self.inside.far.entries in
    let id = c.id.inside.0 in
    rw (c.id.view_is, c.self.view_is) at (ap (λ l. l ++ far) c.remove.ensures ∙ remove-front (is_at (nat_cmp id)) near far (not_behind near far id c.self.invariant (omega arith)))

pub returns-else-id-lt-NEAR_IDS : goal.returns-else-id-lt-NEAR_IDS
returns-else-id-lt-NEAR_IDS g c =
    let near = c.self.inside.near in
    let far = c.self.inside.far.entries in
    let id = c.id.inside.0 in
    rw (c.id.view_is, c.self.view_is) at (ap (λ l. near ++ l) c.drop_far.ensures ∙ remove-back (is_at (nat_cmp id)) near far (not_before near far id c.self.invariant (omega arith)))
