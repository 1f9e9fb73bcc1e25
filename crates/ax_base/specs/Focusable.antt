-- Which elements may have the focus, and which are in conflict with the role none.
use Rattle.std.specs.Prelude.{Bool, not, ◌&&◌, ◌||◌, List, [], ◌∷◌, bytes_eq, codes}
use Rattle.std.specs.List.{list_any}
use Rattle.ax_base.specs.declared.attrs.Attr.{Attr}
use Rattle.ax_base.specs.Characters.{Chars}
use Rattle.ax_base.specs.Values.{text_in, is_there, is_filled, is_tab_index}

-- the tags of the fields that a text or a choice is put in, as far as they are known here
abbrev pub is_field : Chars → Bool
is_field tag = bytes_eq tag (codes "input") || bytes_eq tag (codes "textarea")

-- the tags of the controls: buttons and fields
abbrev pub is_control : Chars → Bool
is_control tag = bytes_eq tag (codes "button") || is_field tag

-- whether `tabindex` is there and a number
abbrev pub has_tab_index : List Attr → Bool
has_tab_index attrs = is_tab_index (text_in (codes "tabindex") attrs)

-- whether an element is a link: `a` with `href` (HTML, 'Links created by a and area elements')
abbrev pub is_link : Chars → List Attr → Bool
is_link tag attrs = bytes_eq tag (codes "a") && is_there (codes "href") attrs

-- whether an element is a control that is not disabled (HTML, 'The disabled attribute')
abbrev pub is_enabled : Chars → List Attr → Bool
is_enabled tag attrs = is_control tag && not (is_there (codes "disabled") attrs)

-- whether an element may have the focus: it has a `tabindex`, or is a link, or a control that is not disabled (this project's profile of HTML, 'Focusable areas')
abbrev pub focusable : Chars → List Attr → Bool
focusable tag attrs = has_tab_index attrs || (is_link tag attrs || is_enabled tag attrs)

-- the global ARIA attributes that count (WAI-ARIA 1.2, 'Global States and Properties'; which of them is this project's profile)
abbrev pub global_aria_attributes : List Chars
global_aria_attributes =
    codes "aria-atomic" ∷ codes "aria-busy" ∷ codes "aria-controls" ∷ codes "aria-current" ∷ codes "aria-describedby" ∷ codes "aria-details"
    ∷ codes "aria-flowto" ∷ codes "aria-keyshortcuts" ∷ codes "aria-label" ∷ codes "aria-labelledby" ∷ codes "aria-live" ∷ codes "aria-owns"
    ∷ codes "aria-relevant" ∷ codes "aria-roledescription" ∷ []

-- whether an element has one of the global ARIA attributes, and not blank
unfoldable pub has_global_aria_attribute : List Attr → Bool
has_global_aria_attribute attrs = list_any (λ name. is_filled name attrs) global_aria_attributes

-- whether an element is in conflict with the role none: it may have the focus, or has a global ARIA attribute (WAI-ARIA 1.2, 'Presentational Roles Conflict Resolution')
abbrev pub has_presentational_conflict : Chars → List Attr → Bool
has_presentational_conflict tag attrs = focusable tag attrs || has_global_aria_attribute attrs
