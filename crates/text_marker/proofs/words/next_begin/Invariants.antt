use Rattle.std.proofs.Common.{◌≡◌, ◌∷◌, ◌<◌, ◌+◌, ◌^◌, length, filter}
use Rattle.std.specs.List.{concat}
use Rattle.unicode_segmentation.specs.Iter.{word_bounds_left, unicode_words_left}
use Rattle.unicode_segmentation.specs.Segments.{has_alphanumeric}
use Rattle.text_marker.specs.Stops.{word_begins_from}
use Rattle.text_marker.proofs.words.next_begin.Given as goal

-- no piece so far is a word; the words that are left are those of the pieces that are left
abbrev pub invariant-loop-bound : goal.invariant-loop-bound
invariant-loop-bound l =
    (goal.iterator-loop-bound).can_next l.bounds × (goal.iterator-loop-bound).is_finite l.bounds
    × (word_begins_from l.fn.at (word_bounds_left l.fn.bounds) ≡ word_begins_from l.at (word_bounds_left l.bounds))
    × (l.at + length (concat (word_bounds_left l.bounds)) < 2 ^ 32)
    × (filter has_alphanumeric (word_bounds_left l.bounds) ≡ l.word ∷ unicode_words_left l.words)
