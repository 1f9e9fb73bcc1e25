use Rattle.std.proofs.Common.{rules, SFits, w32, to_z-of_z}
use Rattle.hit_test.proofs.point.hit.Goals as goal

pub returns : goal.returns
returns g c =
    let fits_x : SFits w32 c.args.x = search rules in
    let fits_y : SFits w32 c.args.y = search rules in
    simp to_z-of_z at (c.in-Ok.ensures.found)
