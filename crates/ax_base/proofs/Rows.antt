-- Elements and small documents, with their roles, states and kids.
use Rattle.std.specs.Prelude.{◌≡◌, ℕ, true, false, codes, refl, List, [], ◌∷◌, map, Some, None}
use Rattle.ax_base.specs.declared.attrs.Attr.{Attr}
use Rattle.ax_base.specs.declared.body.Body.TheVariants.{Element, Words}
use Rattle.ax_base.specs.declared.role.Role.TheVariants.{Alert, Button, Generic, Heading, Img, List as ListRole, NoRole, Slider}
use Rattle.ax_base.specs.declared.states.Checked.TheVariants.{Yes}
use Rattle.ax_base.specs.declared.states.Live.TheVariants.{Off, Polite, Assertive}
use Rattle.ax_base.specs.Characters.{Chars, tokens}
use Rattle.ax_base.specs.Values.{trimmed}
use Rattle.ax_base.specs.Focusable.{has_global_aria_attribute, focusable}
use Rattle.ax_base.specs.KnownRoles.{known_role}
use Rattle.ax_base.specs.Recursion.{from_below}
use Rattle.ax_base.specs.Document.{Document, Node, spot, lineage_within}
use Rattle.ax_base.specs.Roles.{element_role, hides_element, is_ignored}
use Rattle.ax_base.specs.States.{states_of, states, level_of, level, live_set_by, value_shown, no_states}
use Rattle.ax_base.specs.Rects.{nowhere}
use Rattle.ax_base.specs.Context.{is_hidden, live_at}
use Rattle.ax_base.specs.Kids.{kids, objects}

abbrev pub given : Chars → Chars → Attr
given name value = record { name = name; value = value }

abbrev role_attr : Chars → List Attr
role_attr value = given (codes "role") value ∷ []

-- the first known token counts
foo_button : element_role (codes "div") (role_attr (codes "foo button")) ≡ Button
unfolding element_role known_role tokens trimmed has_global_aria_attribute
foo_button = refl

foo_none_button : element_role (codes "div") (role_attr (codes "foo none button")) ≡ NoRole
unfolding element_role known_role tokens trimmed has_global_aria_attribute
foo_none_button = refl

-- presentation is another word for none, in any case
presentation : element_role (codes "ul") (role_attr (codes "Presentation button")) ≡ NoRole
unfolding element_role known_role tokens trimmed has_global_aria_attribute
presentation = refl

-- none gives way to the role of the host language where the element may have the focus
none_with_tab_index : element_role (codes "ul") (given (codes "role") (codes "none") ∷ given (codes "tabindex") (codes "0") ∷ []) ≡ ListRole
unfolding element_role known_role tokens trimmed has_global_aria_attribute
none_with_tab_index = refl

none_alone : element_role (codes "ul") (role_attr (codes "none")) ≡ NoRole
unfolding element_role known_role tokens trimmed has_global_aria_attribute
none_alone = refl

-- an image with a blank `alt` has no role, but where it has a label it is an image
blank_alt : element_role (codes "img") (given (codes "alt") (codes " ") ∷ []) ≡ NoRole
unfolding element_role known_role tokens trimmed has_global_aria_attribute
blank_alt = refl

blank_alt_with_label : element_role (codes "img") (given (codes "alt") [] ∷ given (codes "aria-label") (codes "x") ∷ given (codes "role") (codes "none") ∷ []) ≡ Img
unfolding element_role known_role tokens trimmed has_global_aria_attribute
blank_alt_with_label = refl

no_h7 : map (λ tag. element_role tag []) (codes "h6" ∷ codes "h7" ∷ codes "a" ∷ []) ≡ Heading ∷ Generic ∷ Generic ∷ []
unfolding element_role known_role tokens trimmed has_global_aria_attribute
no_h7 = refl

range_input : element_role (codes "input") (given (codes "type") (codes " RANGE ") ∷ []) ≡ Slider
unfolding element_role known_role tokens trimmed has_global_aria_attribute
range_input = refl

-- a generic element is left out also where it may have the focus by its tag, but not where it has a title
focusable_generic : is_ignored Generic [] ≡ true
unfolding is_ignored has_global_aria_attribute trimmed
focusable_generic = refl

titled_generic : is_ignored Generic (given (codes "title") (codes "x") ∷ []) ≡ false
unfolding is_ignored has_global_aria_attribute trimmed
titled_generic = refl

tab_indexes : map (λ value. focusable (codes "div") (given (codes "tabindex") value ∷ [])) (codes " -1 " ∷ codes "123456789" ∷ codes "1234567890" ∷ codes "-" ∷ codes "+1" ∷ []) ≡ true ∷ true ∷ false ∷ false ∷ false ∷ []
unfolding trimmed
tab_indexes = refl

-- the level of `aria-level` is 1 to 999, and else that of the tag counts
levels : map (λ value. level_of Heading (codes "h3") (given (codes "aria-level") value ∷ [])) (codes " 12 " ∷ codes "0" ∷ codes "1000" ∷ codes "007" ∷ []) ≡ Some 12 ∷ Some 3 ∷ Some 3 ∷ Some 7 ∷ []
unfolding level_of trimmed
levels = refl

level_alone : level_of Heading (codes "div") [] ≡ Some 2
unfolding level_of trimmed
level_alone = refl

-- the word of `aria-live` goes before the role
live_off : live_set_by Alert (given (codes "aria-live") (codes " Off") ∷ []) ≡ Some Off
unfolding live_set_by trimmed
live_off = refl

live_by_alert : live_set_by Alert (given (codes "aria-live") (codes "loud") ∷ []) ≡ Some Assertive
unfolding live_set_by trimmed
live_by_alert = refl

-- a slider that is no `input` has no value by `value`
slider_value : value_shown Slider (codes "div") (given (codes "value") (codes "3") ∷ []) ≡ None
unfolding value_shown
slider_value = refl

slider_text : value_shown Slider (codes "input") (given (codes "value") (codes "3") ∷ given (codes "aria-valuetext") (codes " ") ∷ []) ≡ Some (codes "3")
unfolding value_shown
slider_text = refl

abbrev pub element : Chars → List Attr → List ℕ → Node
element tag attrs cs = record { body = Element tag attrs nowhere; children = cs }

abbrev pub text : Chars → Node
text chars = record { body = Words chars []; children = [] }

-- a list without its role, a status with a heading, and a box that is checked and disabled
abbrev mixed : Document
mixed = record {
  nodes =
      (1, element (codes "html") [] (2 ∷ 4 ∷ 6 ∷ []))
      ∷ (2, element (codes "ul") (role_attr (codes "none")) (3 ∷ []))
      ∷ (3, element (codes "li") [] [])
      ∷ (4, element (codes "div") (role_attr (codes "status")) (5 ∷ []))
      ∷ (5, element (codes "h3") [] [])
      ∷ (6, element (codes "input") (given (codes "type") (codes "checkbox") ∷ given (codes "checked") [] ∷ given (codes "disabled") [] ∷ []) [])
      ∷ [];
  focus = None;
  used = 2 ∷ 3 ∷ 4 ∷ 5 ∷ 6 ∷ [];
}

mixed-kids : kids mixed 1 ≡ 3 ∷ 4 ∷ 6 ∷ []
unfolding from_below lineage_within tokens trimmed known_role has_global_aria_attribute element_role hides_element is_ignored
mixed-kids = refl

mixed-live : map (live_at mixed) (5 ∷ 4 ∷ 3 ∷ []) ≡ Polite ∷ Polite ∷ Off ∷ []
unfolding lineage_within tokens trimmed known_role has_global_aria_attribute element_role live_set_by
mixed-live = refl

mixed-level : level (spot mixed 5) ≡ Some 3
unfolding tokens trimmed known_role has_global_aria_attribute element_role level_of
mixed-level = refl

mixed-states : states (spot mixed 6) ≡ record no_states { disabled = true; checked = Some Yes }
unfolding tokens trimmed known_role has_global_aria_attribute element_role states_of
mixed-states = refl

-- divisions in divisions: only what says something is an object
abbrev nested : Document
nested = record {
  nodes =
      (1, element (codes "html") [] (2 ∷ []))
      ∷ (2, element (codes "main") [] (3 ∷ []))
      ∷ (3, element (codes "div") [] (4 ∷ []))
      ∷ (4, element (codes "div") [] (5 ∷ []))
      ∷ (5, element (codes "div") [] (6 ∷ 7 ∷ []))
      ∷ (6, element (codes "p") [] (8 ∷ []))
      ∷ (7, element (codes "p") [] (9 ∷ []))
      ∷ (8, text (codes "A"))
      ∷ (9, text (codes "B"))
      ∷ [];
  focus = None;
  used = 2 ∷ 3 ∷ 4 ∷ 5 ∷ 6 ∷ 7 ∷ 8 ∷ 9 ∷ [];
}

nested-objects : objects nested ≡ 1 ∷ 2 ∷ 6 ∷ 8 ∷ 7 ∷ 9 ∷ []
unfolding from_below lineage_within tokens trimmed known_role has_global_aria_attribute element_role hides_element is_ignored
nested-objects = refl

nested-kids : kids nested 2 ≡ 6 ∷ 7 ∷ []
unfolding from_below lineage_within tokens trimmed known_role has_global_aria_attribute element_role hides_element is_ignored
nested-kids = refl

-- what is below a hidden element is out
abbrev covered : Document
covered = record {
  nodes =
      (1, element (codes "html") (given (codes "hidden") [] ∷ given (codes "role") (codes "button") ∷ []) (5 ∷ []))
      ∷ (5, element (codes "main") (given (codes "hidden") [] ∷ []) (6 ∷ []))
      ∷ (6, text (codes "A"))
      ∷ [];
  focus = Some 6;
  used = 5 ∷ 6 ∷ [];
}

covered-objects : objects covered ≡ 1 ∷ []
unfolding from_below lineage_within tokens trimmed known_role has_global_aria_attribute element_role hides_element is_ignored
covered-objects = refl

covered-hidden : map (is_hidden covered) (1 ∷ 5 ∷ 6 ∷ []) ≡ false ∷ true ∷ true ∷ []
unfolding lineage_within trimmed hides_element
covered-hidden = refl
