-- What a node says: the texts that names are made of (AccName 1.2, section 4.3.2).
use Rattle.std.specs.Prelude.{ℕ, Bool, true, false, not, ◌&&◌, ◌||◌, if◌then◌else◌, List, [], ◌∷◌, ◌++◌, flat_map, bytes_eq, codes}
use Rattle.std.specs.List.{list_any}
use Rattle.ax_base.specs.declared.attrs.Attr.{Attr}
use Rattle.ax_base.specs.declared.body.Body.{Body}
use Rattle.ax_base.specs.declared.body.Body.TheVariants.{Element, Words}
use Rattle.ax_base.specs.declared.role.Role.{Role}
use Rattle.ax_base.specs.declared.role.Role.TheVariants.{Searchbox, Slider, Textbox}
use Rattle.ax_base.specs.Characters.{Chars, first_said}
use Rattle.ax_base.specs.Values.{text_in, has_word}
use Rattle.ax_base.specs.Document.{Document, Spot, spot, body, from_children}
use Rattle.ax_base.specs.Roles.{role, hides}

-- the tags of the elements that stand in a block of their own (CSS 2.2, section 9.2.1, by the style sheet of HTML; which tags are known is this project's profile)
abbrev pub block_tags : List Chars
block_tags =
    codes "p" ∷ codes "div" ∷ codes "h1" ∷ codes "h2" ∷ codes "h3" ∷ codes "h4" ∷ codes "h5" ∷ codes "h6" ∷ codes "li" ∷ codes "ul" ∷ codes "ol"
    ∷ codes "main" ∷ codes "nav" ∷ codes "article" ∷ codes "section" ∷ codes "table" ∷ codes "tr" ∷ codes "td" ∷ codes "th" ∷ codes "br" ∷ []

-- whether an element stands in a block of its own: where the word of `display` is block, and by its tag where that word is not inline
unfoldable pub is_block_element : Chars → List Attr → Bool
is_block_element tag attrs =
    has_word (codes "display") (codes "block") attrs
    || (not (has_word (codes "display") (codes "inline") attrs) && list_any (bytes_eq tag) block_tags)

-- whether a node stands in a block of its own; a text does not
abbrev pub is_block : Body → Bool
is_block (Words chars runs) = false
is_block (Element tag attrs frame) = is_block_element tag attrs

-- whether an element is a push button of HTML: an `input` whose word of `type` is button, submit or reset
abbrev pub is_button_field : Chars → List Attr → Bool
is_button_field tag attrs =
    bytes_eq tag (codes "input")
    && (has_word (codes "type") (codes "button") attrs || (has_word (codes "type") (codes "submit") attrs || has_word (codes "type") (codes "reset") attrs))

-- the roles whose text is the attribute `value` (AccName 1.2, section 4.3.2, 'Embedded Control': textbox)
abbrev pub holds_text : Role → Bool
holds_text Searchbox = true
holds_text Textbox = true
holds_text _ = false

-- the role whose text is its place in a range (AccName 1.2, section 4.3.2, 'Embedded Control': range; here a slider alone)
abbrev pub holds_range : Role → Bool
holds_range Slider = true
holds_range _ = false

-- the text of a range: the first that is not blank of `aria-valuetext`, `aria-valuenow` and `value`, whatever the tag
abbrev pub range_text : List Attr → Chars
range_text attrs = first_said (text_in (codes "aria-valuetext") attrs ∷ text_in (codes "aria-valuenow") attrs ∷ text_in (codes "value") attrs ∷ [])

-- the text embedded in an element of a role, the first that is not blank: of an `img` its `alt`, of a push button, and of what holds a text, its `value`, of a range
-- its text (AccName 1.2, section 4.3.2, 'Embedded Control' and 'Host Language Label')
unfoldable pub embedded : Role → Chars → List Attr → Chars
embedded r tag attrs =
    first_said (
    (if bytes_eq tag (codes "img") then text_in (codes "alt") attrs else [])
    ∷ (if is_button_field tag attrs then text_in (codes "value") attrs else [])
    ∷ (if holds_text r then text_in (codes "value") attrs else [])
    ∷ (if holds_range r then range_text attrs else [])
    ∷ [])

-- the text of a child: in a block of its own it stands between two spaces (AccName 1.2, section 4.3.2, 'Name From Content')
abbrev pub spaced : Bool → Chars → Chars
spaced block t = if block then 32 ∷ (t ++ 32 ∷ []) else t

-- the texts of children in order, each between spaces where it is a block that does not hide
abbrev pub joined_children : (Spot → Bool) → List (Spot × Chars) → Chars
joined_children hiding below = flat_map (λ (c : Spot × Chars). spaced (is_block c.0.body && not (hiding c.0)) c.1) below

-- what a child says, between spaces where it is a block that does not hide
abbrev pub child_text : Document → (Spot → Bool) → (ℕ → Chars) → ℕ → Chars
child_text d hiding say c = spaced (is_block (body d c) && not (hiding (spot d c))) (say c)

-- what a node of a role says. A text says its characters; an element the first that is not blank of: what its references say, its `aria-label`, the text embedded in
-- it, its children's texts, its `title` (AccName 1.2, section 4.3.2; that a label goes before an embedded text is this project's profile)
abbrev pub said_by : Role → Chars → Body → Chars → Chars
said_by r referred (Words chars runs) below = chars
said_by r referred (Element tag attrs frame) below =
    first_said (referred ∷ text_in (codes "aria-label") attrs ∷ embedded r tag attrs ∷ below ∷ text_in (codes "title") attrs ∷ [])

-- what a node says, from what its references say and from its children's texts
abbrev pub said_as : Chars → Spot → Chars → Chars
said_as referred n below = said_by (role n) referred n.body below

-- for texts of which nothing hides
abbrev pub nothing_hides : Spot → Bool
nothing_hides n = false

-- what a node says that follows no reference, from what its children say: nothing where it hides (AccName 1.2, section 4.3.2, 'Hidden Not Referenced')
abbrev pub said0_from : Spot → List (Spot × Chars) → Chars
said0_from n below = if hides n then [] else said_as [] n (joined_children hides below)

-- the same with nothing hiding
abbrev pub said_all_from : Spot → List (Spot × Chars) → Chars
said_all_from n below = said_as [] n (joined_children nothing_hides below)

-- what a node says, where no reference is followed
abbrev pub said0 : Document → ℕ → Chars
said0 = from_children said0_from

-- all that a node says, also what hides, where no reference is followed
abbrev pub said_all : Document → ℕ → Chars
said_all = from_children said_all_from
