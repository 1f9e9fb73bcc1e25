-- Rectangles (this project's own).
use Rattle.std.specs.Prelude.{◌^◌, ◌-◌, ℤ, pos, negsuc, ◌+ℤ◌, ◌-ℤ◌, ◌≤ℤ◌, Bool, ◌&&◌, int_le, int_lt, List, [], ◌∷◌, All, fold, map}
use Rattle.std.specs.Int.{int_min, int_max}
use Rattle.ax_base.specs.declared.body.Body.{Body}
use Rattle.ax_base.specs.declared.body.Body.TheVariants.{Element, Words}
use Rattle.ax_base.specs.declared.rect.Rect.{Rect}
use Rattle.ax_base.specs.declared.rect.Run.{Run}

-- the sides are not negative, the left and top edges are at least -2^20, the right and bottom edges at most 2^21
abbrev pub IsWithinBounds : Rect → Type 0
IsWithinBounds r = (pos 0 ≤ℤ r.w) × (pos 0 ≤ℤ r.h) × (negsuc (2 ^ 20 - 1) ≤ℤ r.x) × (negsuc (2 ^ 20 - 1) ≤ℤ r.y) × ((r.x +ℤ r.w) ≤ℤ pos (2 ^ 21)) × ((r.y +ℤ r.h) ≤ℤ pos (2 ^ 21))

-- the rectangle of each of some runs is within bounds
abbrev pub AreRunsWithin : List Run → Type 0
AreRunsWithin runs = All (λ (r : Run). IsWithinBounds r.rect) runs

-- the rectangles of a node are within bounds: the frame of an element, and those of the runs of a text
abbrev pub HasRectsWithin : Body → Type 0
HasRectsWithin (Element tag attrs frame) = IsWithinBounds frame
HasRectsWithin (Words chars runs) = AreRunsWithin runs

-- an edge at least -2^20 and a side from it on that is not negative and ends at most at 2^21
abbrev pub IsSideWithin : ℤ → ℤ → Type 0
IsSideWithin edge side = (pos 0 ≤ℤ side) × (negsuc (2 ^ 20 - 1) ≤ℤ edge) × ((edge +ℤ side) ≤ℤ pos (2 ^ 21))

-- two edges in their order, within the same bounds
abbrev pub IsSpanWithin : ℤ → ℤ → Type 0
IsSpanWithin low high = (negsuc (2 ^ 20 - 1) ≤ℤ low) × (low ≤ℤ high) × (high ≤ℤ pos (2 ^ 21))

-- the rectangle of nothing
abbrev pub nowhere : Rect
nowhere = record { x = pos 0; y = pos 0; w = pos 0; h = pos 0 }

-- the rectangle between a left, a top, a right and a bottom edge
abbrev pub between : ℤ → ℤ → ℤ → ℤ → Rect
between left top right bottom = record { x = left; y = top; w = right -ℤ left; h = bottom -ℤ top }

-- the least rectangle that holds two: its left and top edges are the lesser ones of the two, its right and bottom edges the greater ones
abbrev pub unite : Rect → Rect → Rect
unite a b = between (int_min a.x b.x) (int_min a.y b.y) (int_max (a.x +ℤ a.w) (b.x +ℤ b.w)) (int_max (a.y +ℤ a.h) (b.y +ℤ b.h))

-- the least rectangle that holds some, and that of nothing where there are none
abbrev pub united : List Rect → Rect
united [] = nowhere
united (r ∷ rs) = fold unite r rs

-- whether a number lies in `edge .. edge + side`, the end excluded
abbrev pub spans : ℤ → ℤ → ℤ → Bool
spans edge side at = int_le edge at && int_lt at (edge +ℤ side)

-- whether a rectangle holds a point: its left and top edges belong to it, its right and bottom edges do not
abbrev pub holds_point : Rect → ℤ → ℤ → Bool
holds_point r x y = spans r.x r.w x && spans r.y r.h y

-- the least rectangle that holds the rectangles of some runs
abbrev pub frame_of_runs : List Run → Rect
frame_of_runs runs = united (map (λ r. r.rect) runs)
