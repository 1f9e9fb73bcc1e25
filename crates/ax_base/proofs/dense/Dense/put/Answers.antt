use Rattle.std.proofs.Common.{◌∙◌, ap, map, Some, arith}
use Rattle.ax_base.specs.declared.dense.Place.TheVariants.{Full}
use Rattle.ax_base.specs.IdMaps.{value_of, filled_from}
use Rattle.std.proofs.lemmas.Result.{err_from_is_err_and}
use Rattle.ax_base.proofs.Filled.{put-place, same-places}
use Rattle.ax_base.proofs.dense.Dense.put.Goals as goal

pub returns-in_err-grow-clause-err : goal.returns-in_err-grow-clause-err
returns-in_err-grow-clause-err g c =
    let p = err_from_is_err_and c.from_residual-in_err-grow.result c.from_residual-in_err-grow.ensures.1 in
    rw p.1 (same-places c.self.inside.places.items c.grow.new.places.items c.grow.ensures.same ∙ c.self.view_is)

pub returns-clause-ok : goal.returns-clause-ok
returns-clause-ok g c =
    let new = c.grow.new.places in
    rw c.self.view_is at (ap (λ l. filled_from 0 (map value_of l)) c.set_place.ensures ∙ put-place c.self.inside.places.items new.items c.args.id (Full c.in_ok-boxed.boxed) c.args.value c.grow.ensures.same (omega (arith, c.in_ok-grow.ensures.room, new.ok.0)) (ap (λ v. Some v) c.in_ok-boxed.ensures.ok))
