-- A worked example: a button in a main region, and three points.
use Rattle.std.specs.Prelude.{◌≡◌, ℕ, ℤ, pos, codes, refl, List, [], ◌∷◌, Some, None}
use Rattle.std.specs.Fmt.{take_chars}
use Rattle.ax_base.specs.declared.body.Body.TheVariants.{Element}
use Rattle.ax_base.specs.declared.rect.Rect.{Rect}
use Rattle.ax_base.specs.Characters.{Chars, flat, tokens}
use Rattle.ax_base.specs.Values.{trimmed}
use Rattle.ax_base.specs.Focusable.{has_global_aria_attribute}
use Rattle.ax_base.specs.KnownRoles.{known_role}
use Rattle.ax_base.specs.Roles.{element_role, hides_element, is_ignored}
use Rattle.ax_base.specs.States.{states_of, level_of, live_set_by, value_shown}
use Rattle.ax_base.specs.Document.{Document, Node, lineage_within}
use Rattle.ax_base.specs.Recursion.{from_below}
use Rattle.ax_record.specs.Records.{tree}
use Rattle.hit_test.specs.Hits.{hit}

abbrev element : Chars → List ℕ → Rect → Node
element tag cs frame = record { body = Element tag [] frame; children = cs }

abbrev square : ℤ → ℤ → Rect
square from side = record { x = from; y = from; w = side; h = side }

-- a main region with a button in it
abbrev page : Document
page = record {
  nodes = (1, element (codes "html") (2 ∷ []) (square (pos 0) (pos 0)))
      ∷ (2, element (codes "main") (3 ∷ []) (square (pos 0) (pos 100)))
      ∷ (3, element (codes "button") [] (square (pos 10) (pos 20)))
      ∷ [];
  focus = None;
  used = 2 ∷ 3 ∷ [];
}

-- the button is behind the region in preorder
inside : hit (tree page) (pos 15) (pos 15) ≡ Some 3
unfolding from_below lineage_within tokens trimmed flat take_chars known_role has_global_aria_attribute element_role hides_element is_ignored states_of level_of live_set_by value_shown
inside = refl

-- a left edge belongs to a frame
on_the_left_edge : hit (tree page) (pos 10) (pos 15) ≡ Some 3
unfolding from_below lineage_within tokens trimmed flat take_chars known_role has_global_aria_attribute element_role hides_element is_ignored states_of level_of live_set_by value_shown
on_the_left_edge = refl

-- a right edge does not: there is only the region
on_the_right_edge : hit (tree page) (pos 30) (pos 15) ≡ Some 2
unfolding from_below lineage_within tokens trimmed flat take_chars known_role has_global_aria_attribute element_role hides_element is_ignored states_of level_of live_set_by value_shown
on_the_right_edge = refl

-- nor do a right and a bottom edge
at_the_corner : hit (tree page) (pos 100) (pos 100) ≡ None
unfolding from_below lineage_within tokens trimmed flat take_chars known_role has_global_aria_attribute element_role hides_element is_ignored states_of level_of live_set_by value_shown
at_the_corner = refl
