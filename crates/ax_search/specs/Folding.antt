-- Texts without case, and texts in one another.
use Rattle.std.specs.Prelude.{Bool, chars, encode_utf8_all, is_some}
use Rattle.caseless.specs.Caseless.{default_case_fold}
use Rattle.memchr.specs.Find.{matches, first_of}
use Rattle.ax_base.specs.Characters.{Chars}

-- a text after default case folding (The Unicode Standard, section 3.13, rule R4)
abbrev pub folded : Chars → Chars
folded text = encode_utf8_all (default_case_fold (chars text))

-- whether a text holds another: there is a first place at which the other stands in it
abbrev pub holds : Chars → Chars → Bool
holds text part = is_some (first_of (matches text part 0))
