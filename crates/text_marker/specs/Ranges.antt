-- The text of a range, and its bounds (this project's own).
use Rattle.std.specs.Prelude.{ℕ, ◌-◌, Bool, false, ◌&&◌, ◌==◌, nat_lt, if◌then◌else◌, List, [], ◌∷◌, ◌++◌, length, take, drop, filter, map, fold, Option, Some, None, slice_get}
use Rattle.std.specs.List.{flat_map}
use Rattle.std.specs.Option.{option_map_or}
use Rattle.ax_ask.specs.declared.requests.Marker.{Marker}
use Rattle.ax_base.specs.declared.rect.Rect.{Rect}
use Rattle.ax_base.specs.declared.rect.Run.{Run}
use Rattle.ax_base.specs.Rects.{unite}
use Rattle.ax_record.specs.Tree.{Tree}
use Rattle.text_order.specs.Texts.{later_texts}
use Rattle.text_marker.specs.Markers.{words_of, is_above}
use Rattle.text_marker.specs.Lines.{runs_of}

-- the lesser of two markers, and the greater
abbrev pub lesser : Tree → Marker → Marker → Marker
lesser t a b = if is_above t b a then b else a

abbrev pub greater : Tree → Marker → Marker → Marker
greater t a b = if is_above t b a then a else b

-- those of some ids that stand up to one of them, with it
abbrev pub up_to : ℕ → List ℕ → List ℕ
up_to last [] = []
up_to last (n ∷ ns) = n ∷ (if n == last then [] else up_to last ns)

-- the texts of a range, from its first to its last
abbrev pub range_texts : Tree → Marker → Marker → List ℕ
range_texts t a b = up_to b.id (a.id ∷ later_texts t a.id)

-- where the part of a text begins that a range from one marker to another has, and where it ends
abbrev pub low_of : Marker → ℕ → ℕ
low_of a n = if n == a.id then a.offset else 0

abbrev pub high_of : Tree → Marker → ℕ → ℕ
high_of t b n = if n == b.id then b.offset else length (words_of t n)

-- the part of a text that a range from one marker to another has
abbrev pub part : Tree → Marker → Marker → ℕ → List ℕ
part t a b n = drop (low_of a n) (take (high_of t b n) (words_of t n))

-- two runs stand on one line
abbrev pub meet : Option Run → Option Run → Bool
meet None other = false
meet (Some one) None = false
meet (Some one) (Some other) = one.line == other.line

-- both texts have runs, and the last line of the first is the first line of the second
abbrev pub is_joined : Tree → ℕ → ℕ → Bool
is_joined t one other = meet (slice_get (runs_of t one) (length (runs_of t one) - 1)) (slice_get (runs_of t other) 0)

-- what stands between two neighbouring texts: one line feed, unless the second goes on with the line of the first
abbrev pub gap : Tree → ℕ → ℕ → List ℕ
gap t one other = if is_joined t one other then [] else 10 ∷ []

-- what comes behind a text in a range: of each further text what stands between it and the one before, and its part
abbrev pub follow : Tree → Marker → Marker → ℕ → List ℕ → List ℕ
follow t a b at [] = []
follow t a b at (n ∷ ns) = (gap t at n ++ part t a b n) ++ follow t a b n ns

-- the parts of some texts in order, with what stands between neighbours
abbrev pub parts : Tree → Marker → Marker → List ℕ → List ℕ
parts t a b [] = []
parts t a b (n ∷ ns) = part t a b n ++ follow t a b n ns

-- the characters from one marker on to another
abbrev pub words_between : Tree → Marker → Marker → List ℕ
words_between t a b = parts t a b (range_texts t a b)

-- the characters of a range: the lesser marker comes first
abbrev pub range_words : Tree → Marker → Marker → List ℕ
range_words t a b = words_between t (lesser t a b) (greater t a b)

-- whether a run shares a character with those from an offset to before another: the greater of their starts is before the lesser of their ends
abbrev pub shares : ℕ → ℕ → Run → Bool
shares low high r = (nat_lt r.first r.past && nat_lt r.first high) && (nat_lt low r.past && nat_lt low high)

-- the runs of a text that share a character with a range
abbrev pub range_runs : Tree → Marker → Marker → ℕ → List Run
range_runs t a b n = filter (shares (low_of a n) (high_of t b n)) (runs_of t n)

-- the least rectangle that holds the rectangles of some runs, or none where there are none
abbrev pub least_rect : List Run → Option Rect
least_rect [] = None
least_rect (r ∷ rs) = Some (fold unite r.rect (map (λ (x : Run). x.rect) rs))

-- the least rectangle that holds some bounds, where there are any, and the rectangles of some runs
abbrev pub widened : Option Rect → List Run → Option Rect
widened bounds [] = bounds
widened bounds (r ∷ rs) = widened (Some (option_map_or (λ (b : Rect). unite b r.rect) bounds r.rect)) rs

-- the bounds from one marker on to another
abbrev pub bounds_between : Tree → Marker → Marker → Option Rect
bounds_between t a b = least_rect (flat_map (range_runs t a b) (range_texts t a b))

-- the bounds of a range: the lesser marker comes first
abbrev pub range_bounds : Tree → Marker → Marker → Option Rect
range_bounds t a b = bounds_between t (lesser t a b) (greater t a b)
