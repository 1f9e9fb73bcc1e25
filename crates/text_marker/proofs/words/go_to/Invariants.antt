use Rattle.std.proofs.Common.{◌≡◌, ℕ, Bool, false, ◌≤◌, ◌<◌, ◌+◌, ◌^◌, length}
use Rattle.std.specs.Prelude.{find}
use Rattle.std.specs.List.{concat}
use Rattle.unicode_segmentation.specs.Iter.{graphemes_left}
use Rattle.text_marker.specs.Stops.{stops_from}
use Rattle.text_marker.proofs.words.go_to.Given as goal

-- no stop so far is from the target on
abbrev pub invariant-loop-piece : goal.invariant-loop-piece
invariant-loop-piece l =
    (goal.iterator-loop-piece).can_next l.pieces × (goal.iterator-loop-piece).is_finite l.pieces
    × (l.at < l.target) × (l.fn.at ≤ l.at) × (l.at + length (concat (graphemes_left l.pieces)) < 2 ^ 32)
    × ((q : ℕ → Bool) → ((s : ℕ) → s < l.target → q s ≡ false) → find q (stops_from l.fn.at (graphemes_left l.fn.pieces)) ≡ find q (stops_from l.at (graphemes_left l.pieces)))
