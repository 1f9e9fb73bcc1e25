use Rattle.std.proofs.Common.{length, ap, arith}
use Rattle.ax_dom.proofs.Counted.{length-put}
use Rattle.ax_dom.proofs.used.UsedIds.add.Goals as goal

pub invariant_of-self-2 : goal.invariant_of-self-2
invariant_of-self-2 c =
    let more = length-put c.args.id c.self.inside.ids (rw (← c.self.view_is) at c.requires) in
    let all = ap length c.in_ok-add.ensures.ok in
    omega (arith, c.in-Some.ensures)
