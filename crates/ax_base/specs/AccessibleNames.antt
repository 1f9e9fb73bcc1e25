-- Accessible names and descriptions (AccName 1.2, sections 4.1 to 4.3).
use Rattle.std.specs.Prelude.{ℕ, Bool, false, not, ◌&&◌, ◌==◌, if◌then◌else◌, List, [], ◌∷◌, ◌++◌, flat_map, find, Option, bytes_eq, codes}
use Rattle.std.specs.Option.{option_map_or}
use Rattle.ax_base.specs.declared.attrs.Attr.{Attr}
use Rattle.ax_base.specs.declared.body.Body.{Body}
use Rattle.ax_base.specs.declared.body.Body.TheVariants.{Element, Words}
use Rattle.ax_base.specs.Characters.{Chars, is_blank, flat, cut, first_said}
use Rattle.ax_base.specs.Attributes.{value_of}
use Rattle.ax_base.specs.Values.{text_in}
use Rattle.ax_base.specs.Focusable.{is_field}
use Rattle.ax_base.specs.Document.{Document, spot, body, children, order, target, text_of}
use Rattle.ax_base.specs.Roles.{role, hides}
use Rattle.ax_base.specs.NamedRoles.{names_from_content, name_prohibited}
use Rattle.ax_base.specs.Said.{is_button_field, child_text}
use Rattle.ax_base.specs.References.{referred_node, refs, said1}

-- whether a node is a `label` for an id: its `for` is exactly that (HTML, 'The label element')
abbrev pub is_label_for : Chars → Body → Bool
is_label_for id (Words chars runs) = false
is_label_for id (Element tag attrs frame) = bytes_eq tag (codes "label") && option_map_or (bytes_eq id) (value_of (codes "for") attrs) false

-- the first `label` for an id in tree order
abbrev pub first_label : Document → Chars → Option ℕ
first_label d id = find (λ n. is_label_for id (body d n)) (order d)

-- whether a node is the first element with the id
abbrev pub is_target : Document → Chars → ℕ → Bool
is_target d id n = option_map_or (λ t. t == n) (target d id) false

-- what the first `label` for an id says, as a reference to it would, where that id names the node
abbrev pub labelled_text : Document → Chars → ℕ → Chars
labelled_text d id n = if is_target d id n then option_map_or (referred_node d) (first_label d id) [] else []

-- the label that the host language gives to an element: of an `img` its `alt`, of a push button its `value`, of another field what its `label` says
-- (AccName 1.2, section 4.3.2, 'Host Language Label'; HTML Accessibility API Mappings, section 4.1)
abbrev pub host_label_of : Document → ℕ → Chars → List Attr → Chars
host_label_of d n tag attrs =
    if bytes_eq tag (codes "img") then text_in (codes "alt") attrs else
    (if is_button_field tag attrs then text_in (codes "value") attrs else
    (if is_field tag then labelled_text d (text_in (codes "id") attrs) n else []))

-- the same of a node; a text has none
abbrev pub host_label : Document → ℕ → Body → Chars
host_label d n (Words chars runs) = []
host_label d n (Element tag attrs frame) = host_label_of d n tag attrs

-- what the children of a node say as parts of a name, each between spaces where it is a block that does not hide
abbrev pub content_text : Document → ℕ → Chars
content_text d n = flat_map (child_text d hides (said1 d)) (children d n)

-- the texts that may name an element, in their order, before its `title`: what `aria-labelledby` refers to, `aria-label`, the label of the host language, and, where the
-- role is named from content, what the children say (AccName 1.2, section 4.3.2, 'LabelledBy', 'AriaLabel', 'Host Language Label' and 'Name From Content')
abbrev pub naming_texts : Document → ℕ → List Chars
naming_texts d n =
    refs d (codes "aria-labelledby") (spot d n)
    ∷ text_of (codes "aria-label") (body d n)
    ∷ host_label d n (body d n)
    ∷ (if names_from_content (role (spot d n)) then content_text d n else [])
    ∷ []

-- the `title` of an element
abbrev pub title_of : Document → ℕ → Chars
title_of d n = text_of (codes "title") (body d n)

-- whether an element may be named (WAI-ARIA 1.2, 'Roles which cannot be named')
abbrev pub may_be_named : Document → ℕ → Bool
may_be_named d n = not (name_prohibited (role (spot d n)))

-- the text that names a node: of a text its characters, of an element that may be named the first that is not blank, the `title` last
-- (AccName 1.2, section 4.3.2, 'Text Node' and 'Tooltip')
abbrev pub naming_text : Document → ℕ → Body → Chars
naming_text d n (Words chars runs) = chars
naming_text d n (Element tag attrs frame) = if may_be_named d n then first_said (naming_texts d n ++ title_of d n ∷ []) else []

-- the accessible name of a node, made flat and cut (AccName 1.2, section 4.1)
abbrev pub name_of : Document → ℕ → Chars
name_of d n = cut (flat (naming_text d n (body d n)))

-- whether an element may be named and has nothing before its `title` that names it
abbrev pub is_named_by_title : Document → ℕ → Bool
is_named_by_title d n = may_be_named d n && is_blank (first_said (naming_texts d n))

-- the text that describes a node: of an element what `aria-describedby` refers to, and where that is empty its `title`, unless that is its name; a text has none
abbrev pub describing_text : Document → ℕ → Body → Chars
describing_text d n (Words chars runs) = []
describing_text d n (Element tag attrs frame) =
    first_said (refs d (codes "aria-describedby") (spot d n) ∷ (if is_named_by_title d n then [] else title_of d n) ∷ [])

-- the accessible description of a node, made flat and cut (AccName 1.2, section 4.2)
abbrev pub description_of : Document → ℕ → Chars
description_of d n = cut (flat (describing_text d n (body d n)))
