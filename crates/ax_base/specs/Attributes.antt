-- The attributes of an element, by name (DOM, section 4.9).
use Rattle.std.specs.Prelude.{◌≡◌, not, if◌then◌else◌, List, [], ◌∷◌, Option, Some, None, bytes_eq, filter}
use Rattle.ax_base.specs.declared.attrs.Attr.{Attr}
use Rattle.ax_base.specs.Characters.{Chars}

-- the value of the first attribute of a name
abbrev pub value_of : Chars → List Attr → Option Chars
value_of name [] = None
value_of name (a ∷ attrs) = if bytes_eq a.name name then Some a.value else value_of name attrs

-- no two attributes have one name
abbrev pub HasDistinctNames : List Attr → Type 0
HasDistinctNames [] = Unit {0}
HasDistinctNames (a ∷ attrs) = (value_of a.name attrs ≡ None) × HasDistinctNames attrs

-- the attributes with a value of a name: in the place of the one that is there, or at the end (DOM, section 4.9: set an attribute value)
abbrev pub with_value : Chars → Chars → List Attr → List Attr
with_value name value [] = record { name = name; value = value } ∷ []
with_value name value (a ∷ attrs) = if bytes_eq a.name name then record { name = a.name; value = value } ∷ attrs else a ∷ with_value name value attrs

-- the attributes without those of a name (DOM, section 4.9: remove an attribute by name)
abbrev pub without_name : Chars → List Attr → List Attr
without_name name attrs = filter (λ a. not (bytes_eq a.name name)) attrs
