-- Pieces of a name: what is kept of a text that is joined from many, so that it is flat and cut as it is made.
use Rattle.std.specs.Prelude.{ℕ, Bool, true, false, not, ◌&&◌, ◌||◌, ◌==◌, if◌then◌else◌, nat_lt, List, [], ◌∷◌, ◌++◌}
use Rattle.std.specs.List.{flat_map}
use Rattle.std.specs.Fmt.{char_count}
use Rattle.ax_base.specs.Characters.{Chars, is_white, flat, cut}

-- the opening of a text: its first 512 characters, and whether more follow
pub record Opening : Type 0 where
  pub words : Chars
  pub more : Bool

-- what is kept of a text: the opening of its flat text, whether the text began with white space, and whether it ended with it.
-- A text of nothing but white space has no words, and began and ended with white space; the empty text has no words, and did neither.
-- How a text ended of which more follows than is kept is not kept, so what is kept of it stays the same whatever follows
pub record Phrase : Type 0 where
  pub opening : Opening
  pub starts : Bool
  pub ends : Bool

-- whether a text has no character
abbrev pub is_empty : Chars → Bool
is_empty [] = true
is_empty (c ∷ cs) = false

-- whether a text begins with white space
abbrev pub begins_white : Chars → Bool
begins_white [] = false
begins_white (c ∷ cs) = is_white c

-- whether a text ends with white space
abbrev pub ends_white : Chars → Bool
ends_white [] = false
ends_white (c ∷ []) = is_white c
ends_white (c ∷ d ∷ ds) = ends_white (d ∷ ds)

-- whether a byte is an ASCII character that is neither white space nor a control
abbrev pub is_ink : ℕ → Bool
is_ink b = nat_lt 32 b && nat_lt b 128

-- whether a text is words of such characters with one space between each two; `parted` says that white space came before it
abbrev pub evenly_spaced : Bool → Chars → Bool
evenly_spaced parted [] = not parted
evenly_spaced parted (b ∷ bs) = if b == 32 then not parted && evenly_spaced true bs else is_ink b && evenly_spaced false bs

-- whether a text has more than 512 characters
abbrev pub is_longer : Chars → Bool
is_longer t = nat_lt 512 (char_count t)

-- the opening of a text
abbrev pub opening_of : Chars → Opening
opening_of t = record { words = cut t; more = is_longer t }

-- what is kept of a text
unfoldable pub piece_of : Chars → Phrase
piece_of t = record { opening = opening_of (flat t); starts = begins_white t; ends = not (is_longer (flat t)) && ends_white t }

-- the opening of a text that is followed by another
abbrev pub followed : Opening → Chars → Opening
followed o t = record { words = if o.more then o.words else cut (o.words ++ t); more = o.more || is_longer (o.words ++ t) }

-- the same where the other text was cut, and more of it may follow
abbrev pub and_more : Opening → Bool → Opening
and_more o more = record { words = o.words; more = o.more || more }

-- the space behind words where white space follows them; where there are no words there is none
abbrev pub space_behind : Chars → Bool → Chars
space_behind before white = if not (is_empty before) && white then 32 ∷ [] else []

-- what words add to those before them: where white space came between the two, and neither is empty, one space stands before them
abbrev pub spaced : Chars → Bool → Chars → Chars
spaced before white after = space_behind before (white && not (is_empty after)) ++ after

-- the opening of two texts, one behind the other
abbrev pub joined_opening : Phrase → Phrase → Opening
joined_opening a b = and_more (followed a.opening (spaced a.opening.words (a.ends || b.starts) b.opening.words)) b.opening.more

-- what is kept of two texts, one behind the other
unfoldable pub joined : Phrase → Phrase → Phrase
joined a b = record {
  opening = joined_opening a b;
  starts = a.starts || (is_empty a.opening.words && b.starts);
  ends = not (joined_opening a b).more && (b.ends || (is_empty b.opening.words && a.ends));
}

-- what is kept of a text once it is made flat
abbrev pub flattened : Phrase → Phrase
flattened p = record { opening = p.opening; starts = false; ends = false }

-- what is kept of a text once a space stands before it and one after it
abbrev pub between_spaces : Phrase → Phrase
between_spaces p = record { opening = p.opening; starts = true; ends = not p.opening.more }

-- texts one behind another, each behind a space
abbrev pub all_apart : List Chars → Chars
all_apart ts = flat_map (λ (t : Chars). 32 ∷ t) ts

-- the name that the text makes
abbrev pub name_of : Phrase → Chars
name_of p = p.opening.words

-- whether the text had nothing but white space
abbrev pub has_no_words : Phrase → Bool
has_no_words p = is_empty p.opening.words

-- whether the text had no character
abbrev pub has_nothing : Phrase → Bool
has_nothing p = is_empty p.opening.words && not p.starts
