-- Numbers in texts: decimal, and parted by one space.
use Rattle.std.specs.Prelude.{ℕ, ℤ, List, ◌++◌, codes}
use Rattle.std.specs.List.{flat_map}
use Rattle.std.specs.Fmt.{decimal, signed_decimal}
use Rattle.ax_base.specs.Characters.{Chars}
use Rattle.ax_base.specs.declared.rect.Rect.{Rect}
use Rattle.ax_ask.specs.declared.requests.Marker.{Marker}

-- a number after a space
abbrev pub spaced : ℕ → Chars
spaced n = codes " " ++ decimal n

-- numbers, each after a space
abbrev pub all_spaced : List ℕ → Chars
all_spaced ns = flat_map spaced ns

-- the object of a marker, and its offset
abbrev pub marker_text : Marker → Chars
marker_text m = decimal m.id ++ codes " " ++ decimal m.offset

-- two numbers, which may be negative
abbrev pub pair_text : ℤ → ℤ → Chars
pair_text first second = signed_decimal first ++ codes " " ++ signed_decimal second

-- left, top, width and height
abbrev pub rect_text : Rect → Chars
rect_text r = pair_text r.x r.y ++ codes " " ++ pair_text r.w r.h
