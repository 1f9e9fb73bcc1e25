-- Bounds of the edges of rectangles.
use Rattle.std.proofs.Common.{◌≡◌, ◌∙◌, ℤ, ◌+ℤ◌, ◌-ℤ◌, List, [], ◌∷◌, map, arith}
use Rattle.std.specs.Prelude.{All, fold}
use Rattle.std.proofs.lemmas.Int.{ints, clamps}
use Rattle.std.proofs.lemmas.List.Elements.{All-head, All-tail, All-map}
use Rattle.ax_base.specs.declared.rect.Rect.{Rect}
use Rattle.ax_base.specs.declared.rect.Run.{Run}
use Rattle.ax_base.specs.Rects.{IsWithinBounds, AreRunsWithin, IsSideWithin, between, unite, united, frame_of_runs}
use Rattle.std.specs.Int.{int_min, int_max}

pub made : (l t r b x y w h : ℤ) → x ≡ l → y ≡ t → w ≡ (r -ℤ l) → h ≡ (b -ℤ t) → ◌≡◌ {A = Rect} (record { x = x; y = y; w = w; h = h }) (between l t r b)
made l t r b x y w h ex ey ew eh = λ i. record { x = ex i; y = ey i; w = ew i; h = eh i }

pub same_max : (r m a b x y : ℤ) → m ≡ int_max x y → r ≡ m → x ≡ a → y ≡ b → r ≡ int_max a b
same_max r m a b x y is er ex ey = er ∙ is ∙ (λ i. int_max (ex i) (ey i))

pub same_between : (q : Rect) (l t r b left top right bottom : ℤ) → q ≡ between l t r b → l ≡ left → t ≡ top → r ≡ right → b ≡ bottom → q ≡ between left top right bottom
same_between q l t r b left top right bottom is el et er eb = is ∙ (λ i. between (el i) (et i) (er i) (eb i))

pub same_min : (r m a b x y : ℤ) → m ≡ int_min x y → r ≡ m → x ≡ a → y ≡ b → r ≡ int_min a b
same_min r m a b x y is er ex ey = er ∙ is ∙ (λ i. int_min (ex i) (ey i))

-- the side from the lesser of two edges to the greater of those across
side_within : (a v b w : ℤ) → IsSideWithin a v → IsSideWithin b w → IsSideWithin (int_min a b) (int_max (a +ℤ v) (b +ℤ w) -ℤ int_min a b)
side_within a v b w one two = (omega (arith, ints, clamps), omega (arith, ints, clamps), omega (arith, ints, clamps))

-- what holds two rectangles within bounds is within bounds
unite_within : (a b : Rect) → IsWithinBounds a → IsWithinBounds b → IsWithinBounds (unite a b)
unite_within a b one two =
    let across = side_within a.x a.w b.x b.w (one.0, one.2, one.4) (two.0, two.2, two.4) in
    let down = side_within a.y a.h b.y b.h (one.1, one.3, one.5) (two.1, two.3, two.5) in
    (across.0, down.0, across.1, down.1, across.2, down.2)

-- and so is what holds many
pub united_within : (rs : List Rect) → All IsWithinBounds rs → IsWithinBounds (united rs)
united_within [] all = (omega (arith, ints), omega (arith, ints), omega (arith, ints), omega (arith, ints), omega (arith, ints), omega (arith, ints))
united_within (r ∷ rs) all = more r rs (All-head IsWithinBounds r rs all) (All-tail IsWithinBounds r rs all)
  where
    more : (frame : Rect) (xs : List Rect) → IsWithinBounds frame → All IsWithinBounds xs → IsWithinBounds (fold unite frame xs)
    more frame [] within all = within
    more frame (x ∷ xs) within all = more (unite frame x) xs (unite_within frame x within (All-head IsWithinBounds x xs all)) (All-tail IsWithinBounds x xs all)

pub frame_of_runs_within : (runs : List Run) → AreRunsWithin runs → IsWithinBounds (frame_of_runs runs)
frame_of_runs_within runs all = united_within (map (λ (r : Run). r.rect) runs) (All-map IsWithinBounds (λ (r : Run). r.rect) runs all)
