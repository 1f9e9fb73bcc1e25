use Rattle.std.proofs.Common.{◌≡◌, ◌≤◌, ◌+◌, length, nat_lt, reverse}
use Rattle.std.specs.Prelude.{find}
use Rattle.std.specs.List.{concat}
use Rattle.std.specs.Option.{option_or}
use Rattle.unicode_segmentation.specs.Iter.{graphemes_left}
use Rattle.text_marker.specs.Stops.{stops_of, stops_from}
use Rattle.text_marker.proofs.stops.prior_stop.Given as goal

-- the greatest stop below the offset is one of those that are left, or else the last one so far; what is passed fits
abbrev pub invariant-loop-piece : goal.invariant-loop-piece
invariant-loop-piece l =
    (goal.iterator-loop-piece).can_next l.pieces × (goal.iterator-loop-piece).is_finite l.pieces
    × (find (λ stop. nat_lt stop l.offset) (reverse (stops_of l.text)) ≡ option_or (find (λ stop. nat_lt stop l.offset) (reverse (stops_from l.at (graphemes_left l.pieces)))) l.below)
    × (l.at + length (concat (graphemes_left l.pieces)) ≤ length l.text)
