use Rattle.std.proofs.Common.{◌∙◌, ap, map, arith}
use Rattle.ax_base.specs.IdMaps.{value_of, filled_from}
use Rattle.ax_base.proofs.Filled.{out-place, out-past}
use Rattle.ax_base.proofs.dense.Dense.remove.Goals as goal

pub returns-else-at-len : goal.returns-else-at-len
returns-else-at-len g c = rw c.self.view_is at (out-past c.self.inside.places.items c.args.id (omega (arith, c.self.inside.places.ok.0)))

pub returns-then-at-len : goal.returns-then-at-len
returns-then-at-len g c =
    let places = c.self.inside.places.items in
    rw c.self.view_is at (ap (λ l. filled_from 0 (map value_of l)) c.set_place.ensures ∙ out-place places c.args.id (omega (arith, c.self.inside.places.ok.0)))
