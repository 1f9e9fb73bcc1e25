-- The attributes of a new element.
use Rattle.std.specs.Prelude.{List, [], ◌∷◌, if◌then◌else◌, Option, Some, None}
use Rattle.serde_json.specs.Data.{Data, Members, no_members, member}
use Rattle.serde_json.specs.Find.{as_object, as_str}
use Rattle.ax_base.specs.Characters.{Chars}
use Rattle.ax_base.specs.declared.attrs.Attr.{Attr}
use Rattle.story_lines.specs.Values.{◌>>=◌, is_attribute_name}

-- an attribute: its key is a name and its value a text
abbrev pub attribute : Chars → Data → Option Attr
attribute name value = as_str value >>= λ text. if is_attribute_name name then Some (record { name = name; value = text }) else None

-- the attributes that members are, in their order
abbrev pub attributes : Members → Option (List Attr)
attributes no_members = Some []
attributes (member name value ms) = do
  attr ← attribute name value
  attrs ← attributes ms
  Some (attr ∷ attrs)

-- the attributes that may be missing
abbrev pub maybe_attributes : Option Data → Option (List Attr)
maybe_attributes None = Some []
maybe_attributes (Some d) = as_object d >>= attributes
