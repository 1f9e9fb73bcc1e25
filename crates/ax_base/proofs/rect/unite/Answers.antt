use Rattle.std.proofs.Common.{ℤ, ◌+ℤ◌, arith, w32}
use mir.Val.{to_z, of_z}
use Rattle.std.specs.Int.{int_min, int_max}
use Rattle.std.proofs.lemmas.Int.{ints}
use Rattle.ax_base.proofs.Rectangles.{same_between, same_min, same_max}
use Rattle.ax_base.proofs.rect.unite.Goals as goal

-- a number as it is passed
abbrev kept : ℤ → ℤ
kept z = to_z w32 (of_z w32 z)

pub returns-clause-value : goal.returns-clause-value
returns-clause-value c =
    let a = c.args.a in
    let b = c.args.b in
    let low = c.edges-left.result in
    let high = c.edges-top.result in
    same_between c.between.result (kept low.0) (kept high.0) (kept low.1) (kept high.1)
    (int_min a.x b.x) (int_min a.y b.y) (int_max (a.x +ℤ a.w) (b.x +ℤ b.w)) (int_max (a.y +ℤ a.h) (b.y +ℤ b.h)) c.between.ensures.value
    (same_min (kept low.0) low.0 a.x b.x (kept a.x) (kept b.x) c.edges-left.ensures.low (omega (arith, ints)) (omega (arith, ints)) (omega (arith, ints)))
    (same_min (kept high.0) high.0 a.y b.y (kept a.y) (kept b.y) c.edges-top.ensures.low (omega (arith, ints)) (omega (arith, ints)) (omega (arith, ints)))
    (same_max (kept low.1) low.1 (a.x +ℤ a.w) (b.x +ℤ b.w) (kept a.x +ℤ kept a.w) (kept b.x +ℤ kept b.w) c.edges-left.ensures.high (omega (arith, ints)) (omega (arith, ints)) (omega (arith, ints)))
    (same_max (kept high.1) high.1 (a.y +ℤ a.h) (b.y +ℤ b.h) (kept a.y +ℤ kept a.h) (kept b.y +ℤ kept b.h) c.edges-top.ensures.high (omega (arith, ints)) (omega (arith, ints)) (omega (arith, ints)))
