use Rattle.std.proofs.Common.{refl}
use Rattle.ax_dom.proofs.FirstPlaces.{put_before}
use Rattle.ax_dom.proofs.node_map.place_of.Goals as goal

pub returns-clause-place : goal.returns-clause-place
returns-clause-place c id = put_before c.args.b id c.args.ids.now c.first_place.result c.first_place.ensures.within (c.first_place.ensures.before refl) c.first_place.ensures.here
