-- Where a marker can stop in a text, and where its words begin (UAX #29, sections 3 and 4).
use Rattle.std.specs.Prelude.{ℕ, ◌+◌, true, List, [], ◌∷◌, ◌++◌, length, bytes_eq, chars, if◌then◌else◌}
use Rattle.std.specs.List.{list_any}
use Rattle.unicode_segmentation.specs.Grapheme.{graphemes}
use Rattle.unicode_segmentation.specs.Segments.{has_alphanumeric}
use Rattle.unicode_segmentation.specs.Word.{words, word_bounds}
use Rattle.ax_base.specs.Characters.{Chars}

-- the stops of pieces the first of which begins at a character: where each begins, and where the last ends
abbrev pub stops_from : ℕ → List Chars → List ℕ
stops_from at [] = at ∷ []
stops_from at (p ∷ ps) = at ∷ stops_from (at + length (chars p)) ps

-- the stops of a text: the boundaries of its extended grapheme clusters, both ends included, in characters; of an empty text the one stop 0
abbrev pub stops_of : Chars → List ℕ
stops_of text = stops_from 0 (graphemes true text)

-- where words begin, of pieces the first of which begins at a character: where each piece begins that is equal to one of the words
abbrev pub begins_from : ℕ → List Chars → List Chars → List ℕ
begins_from at ws [] = []
begins_from at ws (p ∷ ps) = (if list_any (bytes_eq p) ws then at ∷ [] else []) ++ begins_from (at + length (chars p)) ws ps

-- where the words of a text begin: the pieces are those between its word boundaries, the words those of them that have a letter or a number
abbrev pub word_begins : Chars → List ℕ
word_begins text = begins_from 0 (words text) (word_bounds text)

-- the same of pieces alone: where each piece begins that has a letter or a number
abbrev pub word_begins_from : ℕ → List Chars → List ℕ
word_begins_from at [] = []
word_begins_from at (p ∷ ps) = (if has_alphanumeric p then at ∷ [] else []) ++ word_begins_from (at + length (chars p)) ps
