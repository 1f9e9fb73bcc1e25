use Rattle.std.proofs.Common.{◌∙◌, ◌++◌, refl, sym, ap, arith}
use Rattle.std.specs.Ordering.{nat_cmp}
use Rattle.std.specs.BTreeMap.{is_at}
use Rattle.ax_base.proofs.IdParts.{lookup-front, lookup-back, set-front, set-back, not_behind, not_before, split-set}
use Rattle.ax_base.proofs.id_map.IdMap.get_mut.Goals as goal

pub invariant_of-self-lent : goal.invariant_of-self-lent
invariant_of-self-lent g c o =
    let near = c.self.inside.near in
    let far = c.self.inside.far.entries in
    (λ w. rw (c.get_mut.follows.holds w) (split-set near far (is_at (nat_cmp c.id.inside.0)) w c.self.invariant), rw c.get_mut.follows.holds-at-none c.self.invariant)

pub returns-then-id-lt-NEAR_IDS : goal.returns-then-id-lt-NEAR_IDS
returns-then-id-lt-NEAR_IDS g c =
    let near = c.self.inside.near in
    let far = c.self.inside.far.entries in
    let id = c.id.inside.0 in
    let none = not_behind near far id c.self.invariant (omega arith) in (
      (
        refl,
        λ w. rw (c.id.view_is, c.self.view_is) at (ap (λ l. l ++ far) (c.get_mut.follows.holds w) ∙ set-front (is_at (nat_cmp id)) near far w none),
        ap (λ l. l ++ far) c.get_mut.follows.holds-at-none ∙ c.self.view_is,
      ),
      record { writes_back = tt; value = rw (c.id.view_is, c.self.view_is) at (c.get_mut.ensures.value ∙ sym (lookup-front (is_at (nat_cmp id)) near far none)) },
    )

pub returns-else-id-lt-NEAR_IDS : goal.returns-else-id-lt-NEAR_IDS
returns-else-id-lt-NEAR_IDS g c =
    let near = c.self.inside.near in
    let far = c.self.inside.far.entries in
    let id = c.id.inside.0 in
    let none = not_before near far id c.self.invariant (omega arith) in (
      (
        refl,
        λ w. rw (c.id.view_is, c.self.view_is) at (ap (λ l. near ++ l) (c.get_mut-else-id-lt-NEAR_IDS.follows.holds w).0 ∙ set-back (is_at (nat_cmp id)) near far w none),
        ap (λ m. near ++ m.entries) c.get_mut-else-id-lt-NEAR_IDS.follows.holds-at-none ∙ c.self.view_is,
      ),
      record { writes_back = tt; value = rw (c.id.view_is, c.self.view_is) at (c.get_mut-else-id-lt-NEAR_IDS.ensures.value ∙ sym (lookup-back (is_at (nat_cmp id)) near far none)) },
    )
