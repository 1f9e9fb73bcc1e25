-- Names and descriptions of small documents.
use Rattle.std.specs.Prelude.{◌≡◌, ℕ, zero, suc, codes, refl, List, [], ◌∷◌, ◌++◌, map, None}
use Rattle.std.specs.Fmt.{take_chars}
use Rattle.ax_base.specs.Characters.{Chars, tokens, flat}
use Rattle.ax_base.specs.Values.{trimmed}
use Rattle.ax_base.specs.Focusable.{has_global_aria_attribute}
use Rattle.ax_base.specs.KnownRoles.{known_role}
use Rattle.ax_base.specs.Recursion.{from_below}
use Rattle.ax_base.specs.Document.{Document, Node, lineage_within}
use Rattle.ax_base.specs.Roles.{element_role, hides_element}
use Rattle.ax_base.specs.Said.{is_block_element, embedded, said0, said_all}
use Rattle.ax_base.specs.References.{said1}
use Rattle.ax_base.specs.AccessibleNames.{name_of, description_of, content_text}
use Rattle.ax_base.proofs.Rows.{given, element, text}

-- a document of some nodes
abbrev of : List (ℕ × Node) → Document
of nodes = record { nodes = nodes; focus = None; used = [] }

-- the root, with its children
abbrev root_over : List ℕ → ℕ × Node
root_over cs = (1, element (codes "html") [] cs)

-- a button that its text names
abbrev by_text : Document
by_text = of (
    root_over (2 ∷ [])
    ∷ (2, element (codes "button") [] (3 ∷ []))
    ∷ (3, text (codes "Save"))
    ∷ [])

by_text-names : map (name_of by_text) (1 ∷ 2 ∷ 3 ∷ []) ≡ [] ∷ codes "Save" ∷ codes "Save" ∷ []
unfolding from_below lineage_within flat tokens trimmed known_role has_global_aria_attribute element_role hides_element is_block_element embedded take_chars
by_text-names = refl

-- a button that its label names
abbrev by_label : Document
by_label = of (
    root_over (2 ∷ [])
    ∷ (2, element (codes "button") (given (codes "aria-label") (codes " Save\nit ") ∷ []) (3 ∷ []))
    ∷ (3, text (codes "Other"))
    ∷ [])

by_label-names : map (name_of by_label) (1 ∷ 2 ∷ 3 ∷ []) ≡ [] ∷ codes "Save it" ∷ codes "Other" ∷ []
unfolding from_below lineage_within flat tokens trimmed known_role has_global_aria_attribute element_role hides_element is_block_element embedded take_chars
by_label-names = refl

-- a list and its item take no name from what is in them
abbrev listed : Document
listed = of (
    root_over (2 ∷ [])
    ∷ (2, element (codes "ul") (given (codes "role") (codes "none") ∷ given (codes "tabindex") (codes "0") ∷ []) (3 ∷ []))
    ∷ (3, element (codes "li") [] (4 ∷ []))
    ∷ (4, text (codes "One"))
    ∷ [])

listed-names : map (name_of listed) (1 ∷ 2 ∷ 3 ∷ 4 ∷ []) ≡ [] ∷ [] ∷ [] ∷ codes "One" ∷ []
unfolding from_below lineage_within flat tokens trimmed known_role has_global_aria_attribute element_role hides_element is_block_element embedded take_chars
listed-names = refl

-- a field that a hidden element names
abbrev by_hidden : Document
by_hidden = of (
    root_over (2 ∷ 4 ∷ [])
    ∷ (2, element (codes "span") (given (codes "id") (codes "t") ∷ given (codes "aria-hidden") (codes "true") ∷ []) (3 ∷ []))
    ∷ (3, text (codes "Total"))
    ∷ (4, element (codes "input") (given (codes "aria-labelledby") (codes "t") ∷ []) [])
    ∷ [])

by_hidden-name : map (name_of by_hidden) (4 ∷ []) ≡ codes "Total" ∷ []
unfolding from_below lineage_within flat tokens trimmed known_role has_global_aria_attribute element_role hides_element is_block_element embedded take_chars
by_hidden-name = refl

-- a button that names itself
abbrev by_itself : Document
by_itself = of (
    root_over (2 ∷ [])
    ∷ (2, element (codes "button") (given (codes "id") (codes "a") ∷ given (codes "aria-labelledby") (codes "a") ∷ []) (3 ∷ []))
    ∷ (3, text (codes "A"))
    ∷ [])

by_itself-name : map (name_of by_itself) (2 ∷ []) ≡ codes "A" ∷ []
unfolding from_below lineage_within flat tokens trimmed known_role has_global_aria_attribute element_role hides_element is_block_element embedded take_chars
by_itself-name = refl

-- two buttons that name each other
abbrev each_other : Document
each_other = of (
    root_over (2 ∷ 4 ∷ [])
    ∷ (2, element (codes "button") (given (codes "id") (codes "a") ∷ given (codes "aria-labelledby") (codes "b") ∷ []) (3 ∷ []))
    ∷ (3, text (codes "A"))
    ∷ (4, element (codes "button") (given (codes "id") (codes "b") ∷ given (codes "aria-labelledby") (codes "a") ∷ []) (5 ∷ []))
    ∷ (5, text (codes "B"))
    ∷ [])

each_other-names : map (name_of each_other) (2 ∷ 4 ∷ []) ≡ codes "B" ∷ codes "A" ∷ []
unfolding from_below lineage_within flat tokens trimmed known_role has_global_aria_attribute element_role hides_element is_block_element embedded take_chars
each_other-names = refl

-- three buttons, each named by the next
abbrev in_a_ring : Document
in_a_ring = of (
    root_over (2 ∷ 4 ∷ 6 ∷ [])
    ∷ (2, element (codes "button") (given (codes "id") (codes "a") ∷ given (codes "aria-labelledby") (codes "b") ∷ []) (3 ∷ []))
    ∷ (3, text (codes "A"))
    ∷ (4, element (codes "button") (given (codes "id") (codes "b") ∷ given (codes "aria-labelledby") (codes "c") ∷ []) (5 ∷ []))
    ∷ (5, text (codes "B"))
    ∷ (6, element (codes "button") (given (codes "id") (codes "c") ∷ given (codes "aria-labelledby") (codes "a") ∷ []) (7 ∷ []))
    ∷ (7, text (codes "C"))
    ∷ [])

in_a_ring-names : map (name_of in_a_ring) (2 ∷ 4 ∷ 6 ∷ []) ≡ codes "B" ∷ codes "C" ∷ codes "A" ∷ []
unfolding from_below lineage_within flat tokens trimmed known_role has_global_aria_attribute element_role hides_element is_block_element embedded take_chars
in_a_ring-names = refl

-- two elements with one id: the first in tree order counts
abbrev twice : Document
twice = of (
    root_over (2 ∷ 4 ∷ 6 ∷ [])
    ∷ (2, element (codes "span") (given (codes "id") (codes "x") ∷ []) (3 ∷ []))
    ∷ (3, text (codes "one"))
    ∷ (4, element (codes "span") (given (codes "id") (codes "x") ∷ []) (5 ∷ []))
    ∷ (5, text (codes "two"))
    ∷ (6, element (codes "button") (given (codes "aria-labelledby") (codes "x") ∷ []) [])
    ∷ [])

twice-name : map (name_of twice) (6 ∷ []) ≡ codes "one" ∷ []
unfolding from_below lineage_within flat tokens trimmed known_role has_global_aria_attribute element_role hides_element is_block_element embedded take_chars
twice-name = refl

abbrev moved : Document
moved = of (
    root_over (4 ∷ 2 ∷ 6 ∷ [])
    ∷ (2, element (codes "span") (given (codes "id") (codes "x") ∷ []) (3 ∷ []))
    ∷ (3, text (codes "one"))
    ∷ (4, element (codes "span") (given (codes "id") (codes "x") ∷ []) (5 ∷ []))
    ∷ (5, text (codes "two"))
    ∷ (6, element (codes "button") (given (codes "aria-labelledby") (codes "x") ∷ []) [])
    ∷ [])

moved-name : map (name_of moved) (6 ∷ []) ≡ codes "two" ∷ []
unfolding from_below lineage_within flat tokens trimmed known_role has_global_aria_attribute element_role hides_element is_block_element embedded take_chars
moved-name = refl

-- a box with a description
abbrev described : Document
described = of (
    root_over (2 ∷ 4 ∷ [])
    ∷ (2, element (codes "span") (given (codes "id") (codes "d") ∷ given (codes "aria-hidden") (codes "true") ∷ []) (3 ∷ []))
    ∷ (3, text (codes "Needs sign-in"))
    ∷ (4, element (codes "div") (given (codes "role") (codes "checkbox") ∷ given (codes "aria-checked") (codes "mixed") ∷ given (codes "tabindex") (codes "0") ∷ given (codes "title") (codes "Tip") ∷ given (codes "aria-describedby") (codes "d") ∷ []) (5 ∷ []))
    ∷ (5, text (codes " Sync "))
    ∷ [])

described-name : map (name_of described) (4 ∷ []) ≡ codes "Sync" ∷ []
unfolding from_below lineage_within flat tokens trimmed known_role has_global_aria_attribute element_role hides_element is_block_element embedded take_chars
described-name = refl

described-description : description_of described 4 ≡ codes "Needs sign-in"
unfolding from_below lineage_within flat tokens trimmed known_role has_global_aria_attribute element_role hides_element is_block_element embedded take_chars
described-description = refl

-- the same without a reference: its title describes it
abbrev tipped : Document
tipped = of (
    root_over (2 ∷ 4 ∷ [])
    ∷ (2, element (codes "span") (given (codes "id") (codes "d") ∷ given (codes "aria-hidden") (codes "true") ∷ []) (3 ∷ []))
    ∷ (3, text (codes "Needs sign-in"))
    ∷ (4, element (codes "div") (given (codes "role") (codes "checkbox") ∷ given (codes "aria-checked") (codes "mixed") ∷ given (codes "tabindex") (codes "0") ∷ given (codes "title") (codes "Tip") ∷ []) (5 ∷ []))
    ∷ (5, text (codes " Sync "))
    ∷ [])

tipped-description : map (description_of tipped) (4 ∷ 5 ∷ []) ≡ codes "Tip" ∷ [] ∷ []
unfolding from_below lineage_within flat tokens trimmed known_role has_global_aria_attribute element_role hides_element is_block_element embedded take_chars
tipped-description = refl

-- a title that is the name does not describe, and one that is not the name does
abbrev titled : Document
titled = of (
    root_over (2 ∷ 3 ∷ 4 ∷ [])
    ∷ (2, element (codes "button") (given (codes "title") (codes " Tip ") ∷ []) [])
    ∷ (3, element (codes "button") (given (codes "title") (codes "Tip") ∷ given (codes "aria-label") (codes "Save") ∷ []) [])
    ∷ (4, element (codes "p") (given (codes "title") (codes "Tip") ∷ given (codes "aria-label") (codes "Save") ∷ []) [])
    ∷ [])

titled-names : map (name_of titled) (2 ∷ 3 ∷ 4 ∷ []) ≡ codes "Tip" ∷ codes "Save" ∷ [] ∷ []
unfolding from_below lineage_within flat tokens trimmed known_role has_global_aria_attribute element_role hides_element is_block_element embedded take_chars
titled-names = refl

titled-descriptions : map (description_of titled) (2 ∷ 3 ∷ 4 ∷ []) ≡ [] ∷ codes "Tip" ∷ codes "Tip" ∷ []
unfolding from_below lineage_within flat tokens trimmed known_role has_global_aria_attribute element_role hides_element is_block_element embedded take_chars
titled-descriptions = refl

-- a break is a block without a text: two spaces
abbrev broken : Document
broken = of (
    root_over (2 ∷ [])
    ∷ (2, element (codes "button") [] (3 ∷ 4 ∷ 5 ∷ []))
    ∷ (3, text (codes "a"))
    ∷ (4, element (codes "br") [] [])
    ∷ (5, text (codes "b"))
    ∷ [])

broken-text : content_text broken 2 ≡ codes "a  b"
unfolding from_below lineage_within flat tokens trimmed known_role has_global_aria_attribute element_role hides_element is_block_element embedded take_chars
broken-text = refl

broken-name : map (name_of broken) (2 ∷ []) ≡ codes "a b" ∷ []
unfolding from_below lineage_within flat tokens trimmed known_role has_global_aria_attribute element_role hides_element is_block_element embedded take_chars
broken-name = refl

-- a block that hides leaves no spaces, but where all is said
abbrev covered : Document
covered = of (
    root_over (2 ∷ [])
    ∷ (2, element (codes "button") [] (3 ∷ 4 ∷ 6 ∷ []))
    ∷ (3, text (codes "a"))
    ∷ (4, element (codes "div") (given (codes "hidden") [] ∷ []) (5 ∷ []))
    ∷ (5, text (codes "x"))
    ∷ (6, text (codes "b"))
    ∷ [])

covered-said : map (λ (say : Document → ℕ → Chars). say covered 2) (said0 ∷ said1 ∷ said_all ∷ []) ≡ codes "ab" ∷ codes "ab" ∷ codes "a x b" ∷ []
unfolding from_below lineage_within flat tokens trimmed known_role has_global_aria_attribute element_role hides_element is_block_element embedded take_chars
covered-said = refl

-- `display` makes a block, or makes none
abbrev displayed : Document
displayed = of (
    root_over (2 ∷ [])
    ∷ (2, element (codes "button") [] (3 ∷ 5 ∷ 7 ∷ []))
    ∷ (3, element (codes "span") (given (codes "display") (codes " Block ") ∷ []) (4 ∷ []))
    ∷ (4, text (codes "a"))
    ∷ (5, element (codes "p") (given (codes "display") (codes "inline") ∷ []) (6 ∷ []))
    ∷ (6, text (codes "b"))
    ∷ (7, text (codes "c"))
    ∷ [])

displayed-text : content_text displayed 2 ≡ codes " a bc"
unfolding from_below lineage_within flat tokens trimmed known_role has_global_aria_attribute element_role hides_element is_block_element embedded take_chars
displayed-text = refl

-- what is said of a target that an ancestor hides is said whole; in one that is shown, what hides is not said
abbrev beneath : Document
beneath = of (
    root_over (2 ∷ 6 ∷ 9 ∷ [])
    ∷ (2, element (codes "div") (given (codes "hidden") [] ∷ []) (3 ∷ []))
    ∷ (3, element (codes "span") (given (codes "id") (codes "a") ∷ []) (4 ∷ []))
    ∷ (4, element (codes "b") (given (codes "aria-hidden") (codes "true") ∷ []) (5 ∷ []))
    ∷ (5, text (codes "x"))
    ∷ (6, element (codes "span") (given (codes "id") (codes "b") ∷ []) (7 ∷ 8 ∷ []))
    ∷ (7, text (codes "y"))
    ∷ (8, element (codes "input") (given (codes "type") (codes "hidden") ∷ given (codes "aria-label") (codes "z") ∷ []) [])
    ∷ (9, element (codes "button") (given (codes "aria-labelledby") (codes "b a") ∷ []) [])
    ∷ [])

beneath-name : map (name_of beneath) (9 ∷ []) ≡ codes "y x" ∷ []
unfolding from_below lineage_within flat tokens trimmed known_role has_global_aria_attribute element_role hides_element is_block_element embedded take_chars
beneath-name = refl

-- eight tokens count, those without a target and those that stand twice too
abbrev many : Document
many = of (
    root_over (2 ∷ 4 ∷ 6 ∷ 7 ∷ 8 ∷ [])
    ∷ (2, element (codes "span") (given (codes "id") (codes "a") ∷ []) (3 ∷ []))
    ∷ (3, text (codes "A"))
    ∷ (4, element (codes "span") (given (codes "id") (codes "b") ∷ []) (5 ∷ []))
    ∷ (5, text (codes "B"))
    ∷ (6, element (codes "button") (given (codes "aria-labelledby") (codes "a a a a a a a b b") ∷ []) [])
    ∷ (7, element (codes "button") (given (codes "aria-labelledby") (codes "x x x x x x x a b") ∷ []) [])
    ∷ (8, element (codes "button") (given (codes "aria-labelledby") (codes "x x x x x x x x b") ∷ given (codes "aria-label") (codes "C") ∷ []) [])
    ∷ [])

many-names : map (name_of many) (6 ∷ 7 ∷ 8 ∷ []) ≡ codes "A A A A A A A B" ∷ codes "A" ∷ codes "C" ∷ []
unfolding from_below lineage_within flat tokens trimmed known_role has_global_aria_attribute element_role hides_element is_block_element embedded take_chars
many-names = refl

-- the `alt` of an `img` names it in any role, and no other element
abbrev pictured : Document
pictured = of (
    root_over (2 ∷ 3 ∷ 4 ∷ [])
    ∷ (2, element (codes "img") (given (codes "alt") (codes "x") ∷ given (codes "role") (codes "button") ∷ []) [])
    ∷ (3, element (codes "div") (given (codes "alt") (codes "x") ∷ given (codes "role") (codes "img") ∷ []) [])
    ∷ (4, element (codes "img") (given (codes "alt") (codes "x") ∷ []) [])
    ∷ [])

pictured-names : map (name_of pictured) (2 ∷ 3 ∷ 4 ∷ []) ≡ codes "x" ∷ [] ∷ codes "x" ∷ []
unfolding from_below lineage_within flat tokens trimmed known_role has_global_aria_attribute element_role hides_element is_block_element embedded take_chars
pictured-names = refl

-- a `label` names the field whose `id` is its `for`; the first counts, also where it is hidden, and only for the first element with the id
abbrev for_fields : Document
for_fields = of (
    root_over (2 ∷ 4 ∷ 6 ∷ 8 ∷ 9 ∷ 10 ∷ [])
    ∷ (2, element (codes "label") (given (codes "for") (codes "f") ∷ given (codes "hidden") [] ∷ []) (3 ∷ []))
    ∷ (3, text (codes " First "))
    ∷ (4, element (codes "label") (given (codes "for") (codes "f") ∷ []) (5 ∷ []))
    ∷ (5, text (codes "Second"))
    ∷ (6, element (codes "label") (given (codes "for") [] ∷ []) (7 ∷ []))
    ∷ (7, text (codes "None"))
    ∷ (8, element (codes "textarea") (given (codes "id") (codes "f") ∷ []) [])
    ∷ (9, element (codes "input") (given (codes "id") (codes "f") ∷ []) [])
    ∷ (10, element (codes "input") (given (codes "id") [] ∷ []) [])
    ∷ [])

for_fields-names : map (name_of for_fields) (8 ∷ 9 ∷ 10 ∷ []) ≡ codes "First" ∷ [] ∷ [] ∷ []
unfolding from_below lineage_within flat tokens trimmed known_role has_global_aria_attribute element_role hides_element is_block_element embedded take_chars
for_fields-names = refl

-- a push button is named by its `value`, and no `label` names it
abbrev pushed : Document
pushed = of (
    root_over (2 ∷ 4 ∷ 5 ∷ [])
    ∷ (2, element (codes "label") (given (codes "for") (codes "f") ∷ []) (3 ∷ []))
    ∷ (3, text (codes "Label"))
    ∷ (4, element (codes "input") (given (codes "id") (codes "f") ∷ given (codes "type") (codes " SUBMIT ") ∷ given (codes "value") (codes "Go") ∷ []) [])
    ∷ (5, element (codes "input") (given (codes "type") (codes "text") ∷ given (codes "value") (codes "Go") ∷ []) [])
    ∷ [])

pushed-names : map (name_of pushed) (4 ∷ 5 ∷ []) ≡ codes "Go" ∷ [] ∷ []
unfolding from_below lineage_within flat tokens trimmed known_role has_global_aria_attribute element_role hides_element is_block_element embedded take_chars
pushed-names = refl

-- what is in a button has references and values of its own
abbrev embedding : Document
embedding = of (
    root_over (2 ∷ 7 ∷ [])
    ∷ (2, element (codes "button") [] (3 ∷ 4 ∷ 5 ∷ 6 ∷ []))
    ∷ (3, element (codes "span") (given (codes "aria-labelledby") (codes "t") ∷ []) [])
    ∷ (4, element (codes "input") (given (codes "value") (codes " two ") ∷ []) [])
    ∷ (5, element (codes "input") (given (codes "type") (codes "range") ∷ given (codes "aria-valuenow") (codes "3") ∷ given (codes "value") (codes "4") ∷ []) [])
    ∷ (6, element (codes "div") (given (codes "role") (codes "combobox") ∷ given (codes "value") (codes "5") ∷ given (codes "title") (codes "six") ∷ []) [])
    ∷ (7, element (codes "span") (given (codes "id") (codes "t") ∷ []) (8 ∷ []))
    ∷ (8, text (codes "one"))
    ∷ [])

embedding-said : map (λ (say : Document → ℕ → Chars). say embedding 2) (said0 ∷ said1 ∷ []) ≡ codes " two 3 six " ∷ codes "one two 3 six " ∷ []
unfolding from_below lineage_within flat tokens trimmed known_role has_global_aria_attribute element_role hides_element is_block_element embedded take_chars
embedding-said = refl

embedding-name : map (name_of embedding) (2 ∷ []) ≡ codes "one two 3 six" ∷ []
unfolding from_below lineage_within flat tokens trimmed known_role has_global_aria_attribute element_role hides_element is_block_element embedded take_chars
embedding-name = refl

-- so many letters
letters : ℕ → Chars
letters zero = []
letters (suc n) = 120 ∷ letters n

-- a text alone
abbrev alone : Chars → Document
alone chars = of (root_over (2 ∷ []) ∷ (2, text chars) ∷ [])

-- the cut: 512 characters stay, and a space that then stands last
at_511 : name_of (alone (letters 511)) 2 ≡ letters 511
unfolding flat tokens take_chars letters
at_511 = refl

at_512 : name_of (alone (letters 512)) 2 ≡ letters 512
unfolding flat tokens take_chars letters
at_512 = refl

at_513 : name_of (alone (letters 513)) 2 ≡ letters 512
unfolding flat tokens take_chars letters
at_513 = refl

space_at_512 : name_of (alone (letters 511 ++ codes " yz")) 2 ≡ letters 511 ++ codes " "
unfolding flat tokens take_chars letters
space_at_512 = refl
