-- Small texts and what is kept of them.
use Rattle.std.specs.Prelude.{◌≡◌, codes, refl, [], ◌∷◌, map, true, false}
use Rattle.std.specs.Fmt.{take_chars, char_count}
use Rattle.ax_base.specs.Characters.{flat, tokens, joined_by_spaces}
use Rattle.ax_names.specs.Pieces.{piece_of, joined, flattened, all_apart, name_of, has_no_words, has_nothing}

-- runs of white space are single spaces, and those at the ends are remembered alone
of_words : piece_of (codes " a  b ") ≡ record { opening = record { words = codes "a b"; more = false }; starts = true; ends = true }
unfolding piece_of joined flat tokens take_chars char_count
of_words = refl

of_blank : piece_of (codes "  ") ≡ record { opening = record { words = []; more = false }; starts = true; ends = true }
unfolding piece_of joined flat tokens take_chars char_count
of_blank = refl

of_nothing : piece_of [] ≡ record { opening = record { words = []; more = false }; starts = false; ends = false }
unfolding piece_of joined flat tokens take_chars char_count
of_nothing = refl

-- a word goes on from one text into the next
joined-in_word : joined (piece_of (codes "tea")) (piece_of (codes "pot")) ≡ piece_of (codes "teapot")
unfolding piece_of joined flat tokens take_chars char_count
joined-in_word = refl

-- one space stands where either ends in white space
joined-apart : joined (piece_of (codes "tea ")) (piece_of (codes " pot")) ≡ record { opening = record { words = codes "tea pot"; more = false }; starts = false; ends = false }
unfolding piece_of joined flat tokens take_chars char_count
joined-apart = refl

-- a blank text between two words parts them
joined-blank : joined (joined (piece_of (codes "tea")) (piece_of (codes " "))) (piece_of (codes "pot")) ≡ piece_of (codes "tea pot")
unfolding piece_of joined flat tokens take_chars char_count
joined-blank = refl

-- an empty text between two words does not
joined-nothing : joined (joined (piece_of (codes "tea")) (piece_of [])) (piece_of (codes "pot")) ≡ piece_of (codes "teapot")
unfolding piece_of joined flat tokens take_chars char_count
joined-nothing = refl

-- white space that nothing stands before is remembered, and not written
joined-first : joined (piece_of (codes " ")) (piece_of (codes "a")) ≡ record { opening = record { words = codes "a"; more = false }; starts = true; ends = false }
unfolding piece_of joined flat tokens take_chars char_count
joined-first = refl

flattened-words : flattened (piece_of (codes " a  b ")) ≡ piece_of (codes "a b")
unfolding piece_of joined flat tokens take_chars char_count
flattened-words = refl

-- flat texts joined by spaces, those that are empty left out
referred : piece_of (joined_by_spaces (map flat (codes " a " ∷ codes " " ∷ codes "b" ∷ []))) ≡ flattened (piece_of (all_apart (codes " a " ∷ codes " " ∷ codes "b" ∷ [])))
unfolding piece_of joined flat tokens take_chars char_count
referred = refl

named : name_of (piece_of (codes " a  b ")) ≡ codes "a b"
unfolding piece_of joined flat tokens take_chars char_count
named = refl

blank : has_no_words (piece_of (codes "  ")) ≡ true
unfolding piece_of joined flat tokens take_chars char_count
blank = refl

not_nothing : has_nothing (piece_of (codes "  ")) ≡ false
unfolding piece_of joined flat tokens take_chars char_count
not_nothing = refl

nothing : has_nothing (piece_of []) ≡ true
unfolding piece_of joined flat tokens take_chars char_count
nothing = refl
