use Rattle.std.proofs.Common.{ℤ, ◌+ℤ◌, arith, w32}
use mir.Val.{to_z, of_z}
use Rattle.std.proofs.lemmas.Int.{ints, clamps}
use Rattle.ax_base.proofs.Rectangles.{same_max}
use Rattle.ax_base.proofs.rect.edges.Goals as goal

-- a number as it is passed
abbrev kept : ℤ → ℤ
kept z = to_z w32 (of_z w32 z)

pub returns-clause-high : goal.returns-clause-high
returns-clause-high c =
    same_max (kept c.max.result) c.max.result (c.args.a +ℤ c.args.a_side) (c.args.b +ℤ c.args.b_side) (kept (kept c.args.a +ℤ kept c.args.a_side)) (kept (kept c.args.b +ℤ kept c.args.b_side)) c.max.ensures.value
    (omega (arith, ints)) (omega (arith, ints)) (omega (arith, ints))

pub returns-clause-within : goal.returns-clause-within
returns-clause-within c =
    let low = c.min.ensures.value in
    let high = c.max.ensures.value in
    (omega (arith, ints, clamps, low, high), omega (arith, ints, clamps, low, high), omega (arith, ints, clamps, low, high))
