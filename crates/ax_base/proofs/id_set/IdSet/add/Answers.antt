use Rattle.std.proofs.Common.{◌∙◌, ◌++◌, ap, arith}
use Rattle.ax_base.proofs.Marked.{put-front, put-back, apart-put, apart-put_back}
use Rattle.ax_base.proofs.id_set.IdSet.add.Goals as goal

pub invariant_of-self-then-id-lt-NEAR_IDS : goal.invariant_of-self-then-id-lt-NEAR_IDS
invariant_of-self-then-id-lt-NEAR_IDS c = rw c.in_ok-add.ensures.ok (apart-put c.self.inside.near c.self.inside.far.keys c.id.inside.0 c.self.invariant (omega arith))

pub returns-then-id-lt-NEAR_IDS-clause-ok : goal.returns-then-id-lt-NEAR_IDS-clause-ok
returns-then-id-lt-NEAR_IDS-clause-ok c =
    let near = c.self.inside.near in
    let far = c.self.inside.far.keys in
    rw (c.id.view_is, c.self.view_is) at (ap (λ l. l ++ far) c.in_ok-add.ensures.ok ∙ put-front near far c.id.inside.0 c.self.invariant (omega arith))

pub invariant_of-self-2 : goal.invariant_of-self-2
invariant_of-self-2 c = rw c.in_ok-insert.ensures.keys (apart-put_back c.self.inside.near c.self.inside.far.keys c.id.inside.0 c.self.invariant (omega arith))

pub returns-clause-ok : goal.returns-clause-ok
returns-clause-ok c =
    let near = c.self.inside.near in
    let far = c.self.inside.far.keys in
    rw (c.id.view_is, c.self.view_is) at (ap (λ l. near ++ l) c.in_ok-insert.ensures.keys ∙ put-back near far c.id.inside.0 c.self.invariant (omega arith))
