-- Words on texts, which are lists of bytes.
use Rattle.std.specs.Prelude.{ℕ, Bool, not, ◌&&◌, ◌==◌, if◌then◌else◌, List, [], ◌∷◌, ◌++◌, length, filter}
use Rattle.std.specs.Char.{is_ascii_whitespace}
use Rattle.std.specs.List.{list_all, join_with_byte}
use Rattle.std.specs.Fmt.{take_chars}
use Rattle.ax_base.specs.declared.limits.TheConstants.{MAX_NAME_CHARACTERS}

-- the bytes of a text
abbrev pub Chars : Type 0
Chars = List ℕ

-- space, tab, line feed, form feed and carriage return (ASCII white space of HTML and of the Infra Standard)
abbrev pub is_white : ℕ → Bool
is_white c = is_ascii_whitespace c

-- whether a text has nothing but white space
abbrev pub is_blank : Chars → Bool
is_blank t = list_all is_white t

-- the pieces of a text between white space: those of what is left, where `word` has been read of the piece at hand
abbrev pub tokens_after : Chars → Chars → List Chars
tokens_after [] [] = []
tokens_after (w ∷ ws) [] = (w ∷ ws) ∷ []
tokens_after [] (c ∷ cs) = if is_white c then tokens_after [] cs else tokens_after (c ∷ []) cs
tokens_after (w ∷ ws) (c ∷ cs) = if is_white c then (w ∷ ws) ∷ tokens_after [] cs else tokens_after ((w ∷ ws) ++ c ∷ []) cs

-- the pieces of a text between white space (DOM and Infra: a set of space-separated tokens, in order, repeats kept)
unfoldable pub tokens : Chars → List Chars
tokens t = tokens_after [] t

-- each run of white space turned into one space, and the ends trimmed (AccName 1.2, section 4.3.1)
unfoldable pub flat : Chars → Chars
flat t = join_with_byte 32 (tokens t)

-- the space that parts a word from those that are out, where white space came since
abbrev pub gap : Chars → Bool → Chars
gap out apart = if apart && not (length out == 0) then 32 ∷ [] else []

-- the first characters, as many as a name may have; a space that then stands last stays
abbrev pub cut : Chars → Chars
cut t = take_chars MAX_NAME_CHARACTERS t

-- the first text that is not blank, or the empty text
abbrev pub first_said : List Chars → Chars
first_said [] = []
first_said (t ∷ ts) = if is_blank t then first_said ts else t

-- those that are not empty, joined by one space
abbrev pub joined_by_spaces : List Chars → Chars
joined_by_spaces ts = join_with_byte 32 (filter (λ t. not (length t == 0)) ts)
