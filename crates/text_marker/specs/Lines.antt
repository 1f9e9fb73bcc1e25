-- Lines: stretches of runs (this project's own).
use Rattle.std.specs.Prelude.{ℕ, Bool, ◌&&◌, ◌||◌, ◌==◌, nat_le, nat_lt, if◌then◌else◌, List, [], ◌∷◌, map, length, Option, Some, None}
use Rattle.std.specs.List.{flat_map}
use Rattle.std.specs.Option.{option_map_or}
use Rattle.ax_ask.specs.declared.requests.Marker.{Marker}
use Rattle.ax_base.specs.declared.rect.Run.{Run}
use Rattle.ax_record.specs.Tree.{Tree, record_at}
use Rattle.text_order.specs.Texts.{texts}
use Rattle.text_marker.specs.Markers.{mark, words_of}

-- the runs of a text object
abbrev pub runs_of : Tree → ℕ → List Run
runs_of t n = option_map_or (λ r. r.runs) (record_at t n) []

-- runs of a text, each with the text's id
abbrev pub of_text : ℕ → List Run → List (ℕ × Run)
of_text n runs = map (λ r. (n, r)) runs

abbrev pub runs_at : Tree → ℕ → List (ℕ × Run)
runs_at t n = of_text n (runs_of t n)

-- all runs of all text objects in order
abbrev pub all_runs : Tree → List (ℕ × Run)
all_runs t = flat_map (runs_at t) (texts t)

-- whether a run is that of an offset of a text of so many characters: it has the character there, or it is the last one and the offset is the length
abbrev pub is_run_of : ℕ → ℕ → Run → Bool
is_run_of offset count r = (nat_le r.first offset && nat_lt offset r.past) || (r.past == count && offset == count)

-- whether a run is the marker's
abbrev pub is_run_at : Tree → Marker → (ℕ × Run) → Bool
is_run_at t m x = x.0 == m.id && is_run_of m.offset (length (words_of t m.id)) x.1

-- where a line begins that has come down to a marker: before the last of the runs from there on, going back, that are of that line
abbrev pub stretch_start : ℕ → Marker → List (ℕ × Run) → Marker
stretch_start line start [] = start
stretch_start line start (x ∷ xs) = if x.1.line == line then stretch_start line (mark x.0 x.1.first) xs else start

-- where a line ends that has come to a marker: behind the last of the runs from there on that are of that line
abbrev pub stretch_end : ℕ → Marker → List (ℕ × Run) → Marker
stretch_end line end [] = end
stretch_end line end (x ∷ xs) = if x.1.line == line then stretch_end line (mark x.0 x.1.past) xs else end

-- the stretch around the first of some runs that passes a test, where others, in reverse, stand before them: from the start of the first to the end of the last
-- run of the longest stretch around it with the same line number
abbrev pub stretch_around : (ℕ × Run → Bool) → List (ℕ × Run) → List (ℕ × Run) → Option (Marker × Marker)
stretch_around passes back [] = None
stretch_around passes back (x ∷ xs) =
    if passes x
    then Some (stretch_start x.1.line (mark x.0 x.1.first) back, stretch_end x.1.line (mark x.0 x.1.past) xs)
    else stretch_around passes (x ∷ back) xs

-- the line of a marker, from its start to its end; none where its text has no runs
abbrev pub line_range : Tree → Marker → Option (Marker × Marker)
line_range t m = stretch_around (is_run_at t m) [] (all_runs t)
