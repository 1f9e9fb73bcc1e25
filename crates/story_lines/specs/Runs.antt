-- Rectangles, and the runs of a text.
use Rattle.std.specs.Prelude.{◌^◌, ℤ, pos, List, [], ◌∷◌, codes, Option, Some, None, option_map}
use Rattle.serde_json.specs.Data.{Data, Items, no_items, item}
use Rattle.serde_json.specs.Find.{get, as_array, as_number, as_i64}
use Rattle.ax_base.specs.declared.rect.Rect.{Rect}
use Rattle.ax_base.specs.declared.rect.Run.{Run}
use Rattle.story_lines.specs.Values.{◌>>=◌, integer, around_zero}

-- where a left or a top edge lies
abbrev pub edge : Data → Option ℤ
edge d = as_number d >>= as_i64 >>= around_zero (2 ^ 20)

-- how wide or high something is
abbrev pub size : Data → Option ℤ
size d = option_map pos (integer 0 (2 ^ 20) d)

-- a rectangle by its left and top edges, its width and its height
abbrev pub rect_by : Data → Data → Data → Data → Option Rect
rect_by x y w h = do
  left ← edge x
  top ← edge y
  width ← size w
  height ← size h
  Some (record { x = left; y = top; w = width; h = height })

-- `[x, y, w, h]`
abbrev pub rect : Items → Option Rect
rect (item x (item y (item w (item h no_items)))) = rect_by x y w h
rect _ = None

-- the rectangle at the key `rect`
abbrev pub rect_at : Data → Option Rect
rect_at d = get (codes "rect") d >>= as_array >>= rect

-- a run by its characters from `first` to before `past`, the number of its line and its frame
abbrev pub run_by : Data → Data → Data → Option Rect → Option Run
run_by first past line frame = do
  from ← integer 0 (2 ^ 16) first
  to ← integer 0 (2 ^ 16) past
  number ← integer 0 (2 ^ 20) line
  rect ← frame
  Some (record { first = from; past = to; line = number; rect = rect })

-- `[first, past, line, x, y, w, h]`
abbrev pub run : Items → Option Run
run (item first (item past (item line (item x (item y (item w (item h no_items))))))) = run_by first past line (rect_by x y w h)
run _ = None

-- one run
abbrev pub run_in : Data → Option Run
run_in d = as_array d >>= run

-- some runs, in their order
abbrev pub runs : Items → Option (List Run)
runs no_items = Some []
runs (item d ds) = do
  one ← run_in d
  more ← runs ds
  Some (one ∷ more)

-- the runs at the key `list`
abbrev pub runs_at : Data → Option (List Run)
runs_at d = get (codes "list") d >>= as_array >>= runs
