-- The sides of a rectangle are passed as they are.
use Rattle.std.proofs.Common.{rules, w32}
use Rattle.std.proofs.lemmas.Int.{to_z-of_z}
use Rattle.std.specs.Prelude.{codes}
use Rattle.ax_ask.specs.Numbers.{pair_text}
use Rattle.ax_ask.proofs.Joined.{with_gap}
use Rattle.ax_ask.proofs.numbers.push_rect.Goals as goal
use mir.Val.{SFits}

pub returns : goal.returns
returns c =
    let r = c.args.rect in
    let fits_x : SFits w32 r.x = search rules in
    let fits_y : SFits w32 r.y = search rules in
    let fits_w : SFits w32 r.w = search rules in
    let fits_h : SFits w32 r.h = search rules in
    let place = simp to_z-of_z at (c.in_ok-push_pair.ensures {u = tt}) in
    let size = simp to_z-of_z at (c.in_ok-push_pair-2.ensures {u = tt}) in
    with_gap _ _ _ c.args.label.now (pair_text r.x r.y) (codes " ") (pair_text r.w r.h) place size
