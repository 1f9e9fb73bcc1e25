use Rattle.std.proofs.Common.{◌∙◌, ◌++◌, ap, arith}
use Rattle.ax_base.proofs.IdParts.{insert-front, insert-back, split-put, split-put_back}
use Rattle.ax_base.proofs.id_map.IdMap.put.Goals as goal

pub invariant_of-self-then-id-lt-NEAR_IDS : goal.invariant_of-self-then-id-lt-NEAR_IDS
invariant_of-self-then-id-lt-NEAR_IDS g c = rw c.in_ok-put.ensures.ok (split-put c.self.inside.near c.self.inside.far.entries c.id.inside.0 c.args.value (omega arith) c.self.invariant)

pub returns-then-id-lt-NEAR_IDS-clause-ok : goal.returns-then-id-lt-NEAR_IDS-clause-ok
returns-then-id-lt-NEAR_IDS-clause-ok g c =
    let near = c.self.inside.near in
    let far = c.self.inside.far.entries in
    rw (c.id.view_is, c.self.view_is) at (ap (λ l. l ++ far) c.in_ok-put.ensures.ok ∙ insert-front near far c.id.inside.0 c.args.value c.self.invariant (omega arith))

pub invariant_of-self-2 : goal.invariant_of-self-2
invariant_of-self-2 g c = rw c.in_ok-insert.ensures.entries (split-put_back c.self.inside.near c.self.inside.far.entries c.id.inside.0 c.args.value (omega arith) c.self.invariant)

pub returns-clause-ok : goal.returns-clause-ok
returns-clause-ok g c =
    let near = c.self.inside.near in
    let far = c.self.inside.far.entries in
    rw (c.id.view_is, c.self.view_is) at (ap (λ l. near ++ l) c.in_ok-insert.ensures.entries ∙ insert-back near far c.id.inside.0 c.args.value c.self.invariant (omega arith))
