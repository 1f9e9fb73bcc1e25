-- What attributes say.
use Rattle.std.specs.Prelude.{ℕ, ◌-◌, ◌+◌, ◌*◌, Bool, not, ◌&&◌, ◌==◌, if◌then◌else◌, List, [], ◌∷◌, map, length, take, drop, is_some, unwrap_or, nat_le, bytes_eq}
use Rattle.std.specs.List.{list_all, prefix_len, suffix_len}
use Rattle.std.specs.Char.{to_ascii_lowercase, is_ascii_digit}
use Rattle.ax_base.specs.declared.attrs.Attr.{Attr}
use Rattle.ax_base.specs.Characters.{Chars, is_white, is_blank}
use Rattle.ax_base.specs.Attributes.{value_of}

-- a text without the white space at its start
abbrev pub without_front : Chars → Chars
without_front t = drop (prefix_len is_white t) t

-- a text without the white space at its end
abbrev pub without_end : Chars → Chars
without_end t = take (length t - suffix_len is_white t) t

-- a text without the white space at its ends (Infra Standard, strings: strip leading and trailing ASCII white space)
unfoldable pub trimmed : Chars → Chars
trimmed t = without_end (without_front t)

-- a text with `A` to `Z` in lower case (Infra Standard, strings: ASCII lower case)
abbrev pub lowered : Chars → Chars
lowered t = map to_ascii_lowercase t

-- whether two texts are one word, where `A` to `Z` count as `a` to `z` (Infra Standard, strings: ASCII case-insensitive match)
abbrev pub is_same_word : Chars → Chars → Bool
is_same_word a b = bytes_eq (lowered a) (lowered b)

-- the value of an attribute, and the empty text where it is not there
abbrev pub text_in : Chars → List Attr → Chars
text_in name attrs = unwrap_or (value_of name attrs) []

-- whether an attribute is there (HTML, 'Boolean attributes')
abbrev pub is_there : Chars → List Attr → Bool
is_there name attrs = is_some (value_of name attrs)

-- whether an attribute is there with a value that is not blank
abbrev pub is_filled : Chars → List Attr → Bool
is_filled name attrs = not (is_blank (text_in name attrs))

-- whether this is the word of an attribute: its value, trimmed, in lower case
abbrev pub has_word : Chars → Chars → List Attr → Bool
has_word name word attrs = is_same_word (trimmed (text_in name attrs)) word

-- whether a text is 1 to `most` digits
abbrev pub are_digits : ℕ → Chars → Bool
are_digits most t = not (length t == 0) && (nat_le (length t) most && list_all is_ascii_digit t)

-- the number that digits write, after a number that was read so far
abbrev pub number_after : ℕ → Chars → ℕ
number_after n [] = n
number_after n (c ∷ cs) = number_after (n * 10 + (c - 48)) cs

-- the number that digits write
abbrev pub number : Chars → ℕ
number t = number_after 0 t

-- a text without a minus at its start
abbrev pub without_minus : Chars → Chars
without_minus [] = []
without_minus (c ∷ cs) = if c == 45 then cs else c ∷ cs

-- whether a text is a number as `tabindex` has it here: trimmed, an optional minus and 1 to 9 digits (this project's profile of HTML, 'The tabindex attribute')
abbrev pub is_tab_index : Chars → Bool
is_tab_index t = are_digits 9 (without_minus (trimmed t))
