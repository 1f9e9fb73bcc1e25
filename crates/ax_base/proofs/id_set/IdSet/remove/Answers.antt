use Rattle.std.proofs.Common.{◌∙◌, ◌++◌, ap, arith}
use Rattle.ax_base.proofs.Marked.{out-front, out-back, apart-out, apart-out_back}
use Rattle.ax_base.proofs.id_set.IdSet.remove.Goals as goal

pub invariant_of-self : goal.invariant_of-self
invariant_of-self c = rw c.remove.ensures (apart-out c.self.inside.near c.self.inside.far.keys c.id.inside.0 c.self.invariant)

pub invariant_of-self-else-id-lt-NEAR_IDS : goal.invariant_of-self-else-id-lt-NEAR_IDS
invariant_of-self-else-id-lt-NEAR_IDS c = rw c.remove-else-id-lt-NEAR_IDS.ensures.keys (apart-out_back c.self.inside.near c.self.inside.far.keys c.id.inside.0 c.self.invariant)

pub returns-then-id-lt-NEAR_IDS : goal.returns-then-id-lt-NEAR_IDS
returns-then-id-lt-NEAR_IDS c =
    let near = c.self.inside.near in
    let far = c.self.inside.far.keys in
    rw (c.id.view_is, c.self.view_is) at (ap (λ l. l ++ far) c.remove.ensures ∙ out-front near far c.id.inside.0 c.self.invariant (omega arith))

pub returns-else-id-lt-NEAR_IDS : goal.returns-else-id-lt-NEAR_IDS
returns-else-id-lt-NEAR_IDS c =
    let near = c.self.inside.near in
    let far = c.self.inside.far.keys in
    rw (c.id.view_is, c.self.view_is) at (ap (λ l. near ++ l) c.remove-else-id-lt-NEAR_IDS.ensures.keys ∙ out-back near far c.id.inside.0 c.self.invariant (omega arith))
