use Rattle.std.proofs.Common.{◌∙◌, refl}
use Rattle.ax_base.proofs.Filled.{found-place, found-past, write-place, write-past, keep-place}
use Rattle.ax_base.proofs.dense.Dense.get_mut.Goals as goal

pub returns-in-Some : goal.returns-in-Some
returns-in-Some g c =
    let places = c.self.inside.places.items in
    let place = c.in-Some.place.now in
    let within = c.in-Some.ensures.item.3.0 in
    let read = c.in-Some.ensures.value in (
      (
        refl,
        λ w. rw c.self.view_is at (write-place places c.args.id place w within read),
        keep-place places c.args.id place within read ∙ c.self.view_is,
      ),
      record { writes_back = tt; value = rw c.self.view_is at (c.get_mut-in-Some.ensures.value ∙ found-place places c.args.id place within read) },
    )

pub returns-in-None : goal.returns-in-None
returns-in-None g c =
    let places = c.self.inside.places.items in
    let past = c.in-None.ensures.item.3 in (
      (refl, λ w. rw c.self.view_is at (write-past places c.args.id w past), c.self.view_is),
      record { writes_back = tt; value = rw c.self.view_is at (found-past places c.args.id past) },
    )
