use Rattle.std.proofs.Common.{◌≡◌, ◌≤◌, ◌<◌, ◌+◌, ◌^◌, ◌&&◌, nat_le, length, filter}
use Rattle.std.specs.Prelude.{find, nat_eq}
use Rattle.std.specs.List.{concat, list_any}
use Rattle.unicode_segmentation.specs.Iter.{graphemes_left, word_bounds_left, unicode_words_left}
use Rattle.unicode_segmentation.specs.Segments.{has_alphanumeric}
use Rattle.text_marker.specs.Stops.{stops_of, stops_from, word_begins, word_begins_from}
use Rattle.text_marker.proofs.words.next_word_stop.Given as goal

-- the stop that is looked for is one of those that are left, and its word one of those that are left
abbrev pub invariant-loop-begin : goal.invariant-loop-begin
invariant-loop-begin l =
    (find (λ stop. nat_le l.from stop && list_any (nat_eq stop) (word_begins l.text)) (stops_of l.text)
    ≡ find (λ stop. nat_le l.from stop && list_any (nat_eq stop) (word_begins_from l.at (word_bounds_left l.bounds))) (stops_from l.stop (graphemes_left l.pieces)))
    × (l.from ≤ l.stop)
    × (l.stop + length (concat (graphemes_left l.pieces)) < 2 ^ 32)
    × (l.at + length (concat (word_bounds_left l.bounds)) < 2 ^ 32)
    × (filter has_alphanumeric (word_bounds_left l.bounds) ≡ unicode_words_left l.words)

abbrev pub decreases-loop-begin : goal.decreases-loop-begin
decreases-loop-begin l = length (word_begins_from l.at (word_bounds_left l.bounds))
