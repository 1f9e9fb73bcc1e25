-- Worked examples.
use Rattle.std.proofs.Common.{◌≡◌, [], ◌∷◌, codes, encode_utf8_all, refl}
use Rattle.std.specs.Str.{chars}
use Rattle.unicode_segmentation.proofs.Computing.{unicode_segmentation}
use Rattle.text_marker.specs.Stops.{stops_of, word_begins}

-- the stops of a letter with a mark on it and another letter
stops_row : stops_of (encode_utf8_all (0x65 ∷ 0x301 ∷ 0x78 ∷ [])) ≡ 0 ∷ 2 ∷ 3 ∷ []
unfolding unicode_segmentation chars
stops_row = refl

-- where the words of a text begin
words_row : word_begins (codes "one two") ≡ 0 ∷ 4 ∷ []
unfolding unicode_segmentation chars
words_row = refl
