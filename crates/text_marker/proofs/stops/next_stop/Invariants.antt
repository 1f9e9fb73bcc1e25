use Rattle.std.proofs.Common.{◌≡◌, ◌≤◌, ◌+◌, length, nat_lt}
use Rattle.std.specs.Prelude.{find}
use Rattle.std.specs.List.{concat}
use Rattle.unicode_segmentation.specs.Iter.{graphemes_left}
use Rattle.text_marker.specs.Stops.{stops_of, stops_from}
use Rattle.text_marker.proofs.stops.next_stop.Given as goal

-- the least stop above the offset is that of the pieces that are left; what is passed fits
abbrev pub invariant-loop-piece : goal.invariant-loop-piece
invariant-loop-piece l =
    (goal.iterator-loop-piece).can_next l.pieces × (goal.iterator-loop-piece).is_finite l.pieces
    × (find (λ stop. nat_lt l.offset stop) (stops_of l.text) ≡ find (λ stop. nat_lt l.offset stop) (stops_from l.at (graphemes_left l.pieces)))
    × (l.at + length (concat (graphemes_left l.pieces)) ≤ length l.text)
