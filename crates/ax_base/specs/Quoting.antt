-- Texts between quotes, as JSON writes strings (RFC 8259, section 7).
use Rattle.std.specs.Prelude.{ℕ, Bool, not, ◌&&◌, nat_le, ◌+◌, ◌/◌, ◌%◌, ◌==◌, [], ◌∷◌, ◌++◌, codes, nat_lt, if◌then◌else◌, encode_utf8}
use Rattle.std.specs.List.{flat_map}
use Rattle.std.specs.Str.{chars}
use Rattle.ax_base.specs.Characters.{Chars}

-- a hexadecimal digit in lower case
abbrev pub hex_digit : ℕ → ℕ
hex_digit n = if nat_lt n 10 then 48 + n else 87 + n

-- a character between quotes: the two-character escapes, `\u00` and two digits for other controls, all others as they are
unfoldable pub quoted_char : ℕ → Chars
quoted_char c =
    if c == 34 then codes "\\\"" else (if c == 92 then codes "\\\\" else (if c == 8 then codes "\\b" else (if c == 12 then codes "\\f" else (
    if c == 10 then codes "\\n" else (if c == 13 then codes "\\r" else (if c == 9 then codes "\\t" else (
    if nat_lt c 32 then codes "\\u00" ++ hex_digit (c / 16) ∷ hex_digit (c % 16) ∷ [] else encode_utf8 c)))))))

-- whether a byte is written between quotes as it is, a byte of a longer character too
abbrev pub stands_for_itself : ℕ → Bool
stands_for_itself b = nat_le 32 b && (not (b == 34) && not (b == 92))

-- a text between quotes
abbrev pub quoted : Chars → Chars
quoted text = 34 ∷ flat_map quoted_char (chars text) ++ 34 ∷ []
