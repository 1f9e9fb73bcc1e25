-- Worked examples: two headings, of which one has a letter that folds to two, and a paragraph.
use Rattle.std.specs.Prelude.{◌≡◌, ℕ, Bool, true, false, pos, codes, refl, List, [], ◌∷◌, Option, Some, None, encode_utf8_all}
use Rattle.std.specs.Str.{chars}
use Rattle.std.specs.Fmt.{take_chars}
use lib.Utf8.{encode}
use Rattle.caseless.proofs.Computing.{caseless}
use Rattle.memchr.proofs.Computing.{computing}
use Rattle.ax_base.specs.declared.body.Body.TheVariants.{Element, Words}
use Rattle.ax_base.specs.declared.rect.Rect.{Rect}
use Rattle.ax_base.specs.Characters.{Chars, flat, tokens}
use Rattle.ax_base.specs.Values.{trimmed}
use Rattle.ax_base.specs.Focusable.{has_global_aria_attribute}
use Rattle.ax_base.specs.KnownRoles.{known_role}
use Rattle.ax_base.specs.Roles.{element_role, hides_element, is_ignored}
use Rattle.ax_base.specs.States.{states_of, level_of, live_set_by, value_shown}
use Rattle.ax_base.specs.Said.{is_block_element, embedded}
use Rattle.ax_base.specs.Document.{Document, Node, lineage_within}
use Rattle.ax_base.specs.Recursion.{from_below}
use Rattle.ax_ask.specs.declared.requests.SearchKey.{SearchKey}
use Rattle.ax_ask.specs.declared.requests.SearchKey.TheVariants.{Heading, Link}
use Rattle.ax_ask.specs.declared.requests.SearchRequest.{SearchRequest}
use Rattle.ax_record.specs.Records.{tree}
use Rattle.ax_search.specs.Folding.{folded, holds}
use Rattle.ax_search.specs.Searches.{found}

at_origin : Rect
at_origin = record { x = pos 0; y = pos 0; w = pos 0; h = pos 0 }

abbrev element : Chars → List ℕ → Node
element tag cs = record { body = Element tag [] at_origin; children = cs }

abbrev text : Chars → Node
text words = record { body = Words words []; children = [] }

-- the word with a sharp s
abbrev street : Chars
street = encode_utf8_all (0x53 ∷ 0x74 ∷ 0x72 ∷ 0x61 ∷ 0xDF ∷ 0x65 ∷ [])

abbrev page : Document
page = record {
  nodes = (1, element (codes "html") (2 ∷ 4 ∷ 6 ∷ []))
      ∷ (2, element (codes "h1") (3 ∷ []))
      ∷ (3, text street)
      ∷ (4, element (codes "h2") (5 ∷ []))
      ∷ (5, text (codes "Bahn"))
      ∷ (6, element (codes "p") [])
      ∷ [];
  focus = None;
  used = 2 ∷ 3 ∷ 4 ∷ 5 ∷ 6 ∷ [];
}

abbrev searching : Option ℕ → Bool → SearchKey → Option Chars → ℕ → SearchRequest
searching origin backward key words limit = record { origin = origin; backward = backward; keys = key ∷ []; words = words; limit = limit }

-- the sharp s is found by two letters of the other case
holds_the_street : holds (folded street) (folded (codes "STRASSE")) ≡ true
unfolding caseless computing chars encode
holds_the_street = refl

-- all headings, in preorder
all_headings : found (tree page) (searching None false Heading None 100) ≡ 2 ∷ 4 ∷ []
unfolding from_below lineage_within tokens trimmed flat take_chars known_role has_global_aria_attribute element_role hides_element is_ignored states_of level_of live_set_by value_shown is_block_element embedded chars encode
all_headings = refl

-- there is no link
no_link : found (tree page) (searching None false Link None 1) ≡ []
unfolding from_below lineage_within tokens trimmed flat take_chars known_role has_global_aria_attribute element_role hides_element is_ignored states_of level_of live_set_by value_shown is_block_element embedded chars encode
no_link = refl

-- the last heading before the paragraph
last_heading : found (tree page) (searching (Some 6) true Heading None 1) ≡ 4 ∷ []
unfolding from_below lineage_within tokens trimmed flat take_chars known_role has_global_aria_attribute element_role hides_element is_ignored states_of level_of live_set_by value_shown is_block_element embedded chars encode
last_heading = refl

-- the one before the paragraph that has the words
street_before : found (tree page) (searching (Some 6) true Heading (Some (codes "STRASSE")) 1) ≡ 2 ∷ []
unfolding from_below lineage_within tokens trimmed flat take_chars known_role has_global_aria_attribute element_role hides_element is_ignored states_of level_of live_set_by value_shown is_block_element embedded caseless computing chars encode
street_before = refl
