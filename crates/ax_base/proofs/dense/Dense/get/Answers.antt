use Rattle.std.proofs.Common.{◌∙◌, arith}
use Rattle.ax_base.proofs.Filled.{found-place, found-past}
use Rattle.ax_base.proofs.dense.Dense.get.Goals as goal

pub returns-in-Some : goal.returns-in-Some
returns-in-Some g c =
    let places = c.self.inside.places.items in
    rw c.self.view_is at (c.get-in-Some.ensures ∙ found-place places c.args.id c.in-Some.place.now (omega (arith, c.in-Some.ensures.lookup.3)) (rw c.deref.ensures.value at c.in-Some.ensures.lookup.1))

pub returns-in-None : goal.returns-in-None
returns-in-None g c = rw c.self.view_is at (found-past c.self.inside.places.items c.args.id (rw c.deref.ensures.value at c.in-None.ensures.lookup.3))
