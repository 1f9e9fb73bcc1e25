use Rattle.std.proofs.Common.{◌∙◌, length, sym, ap, arith}
use Rattle.std.specs.Ordering.{nat_cmp}
use Rattle.std.specs.BTreeMap.{is_at}
use Rattle.ax_dom.proofs.Counted.{length-out, nothing_out}
use Rattle.ax_dom.proofs.used.UsedIds.remove.Goals as goal

pub invariant_of-self : goal.invariant_of-self
invariant_of-self c =
    let less = length-out (is_at (nat_cmp c.args.id)) c.self.inside.ids (sym c.has.ensures ∙ c.if-has.true) in
    let all = ap length c.remove.ensures in
    omega arith

pub returns-else-has : goal.returns-else-has
returns-else-has c = rw c.self.view_is at (nothing_out (is_at (nat_cmp c.args.id)) c.self.inside.ids (sym c.has.ensures ∙ c.if-has.false))
