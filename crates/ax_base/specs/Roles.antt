-- Roles, and what a node does by itself.
use Rattle.std.specs.Prelude.{Bool, true, false, not, ◌&&◌, ◌||◌, ◌==◌, if◌then◌else◌, List, Option, unwrap_or, bytes_eq, codes}
use Rattle.ax_base.specs.declared.attrs.Attr.{Attr}
use Rattle.ax_base.specs.declared.body.Body.{Body}
use Rattle.ax_base.specs.declared.body.Body.TheVariants.{Element, Words}
use Rattle.ax_base.specs.declared.role.Role.{Role}
use Rattle.ax_base.specs.declared.role.Role.TheVariants.{Article, Button, Cell, Checkbox, Columnheader, Document, Generic, Heading, Img, Link, List as ListRole, Listitem, Main, Navigation, NoRole, OptionItem, Paragraph, Progressbar, Radio, Row, Slider, Switch, Tab, Table, Text, Textbox}
use Rattle.ax_base.specs.Characters.{Chars, is_blank, tokens}
use Rattle.ax_base.specs.Values.{text_in, is_there, is_filled, has_word}
use Rattle.ax_base.specs.Focusable.{has_tab_index, has_global_aria_attribute, has_presentational_conflict}
use Rattle.ax_base.specs.KnownRoles.{first_known}
use Rattle.ax_base.specs.Document.{Spot, root}

-- the role of `a`: link with `href`, else generic (HTML Accessibility API Mappings, section 3.5)
abbrev pub role_of_anchor : List Attr → Role
role_of_anchor attrs = if is_there (codes "href") attrs then Link else Generic

-- whether `alt` is there and blank
abbrev pub has_blank_alt : List Attr → Bool
has_blank_alt attrs = is_there (codes "alt") attrs && is_blank (text_in (codes "alt") attrs)

-- the role of `img`: none where `alt` is there and blank (HTML, 'A purely decorative image that doesn't add any information'), else img
abbrev pub role_of_image : List Attr → Role
role_of_image attrs = if has_blank_alt attrs then NoRole else Img

-- the role of `input`, by the word of `type`: any other word, or none, gives textbox (this project's profile of HTML Accessibility API Mappings, section 3.5)
abbrev pub role_of_input : List Attr → Role
role_of_input attrs =
    if has_word (codes "type") (codes "checkbox") attrs then Checkbox else
    (if has_word (codes "type") (codes "radio") attrs then Radio else
    (if has_word (codes "type") (codes "range") attrs then Slider else
    (if has_word (codes "type") (codes "button") attrs then Button else
    (if has_word (codes "type") (codes "submit") attrs then Button else
    (if has_word (codes "type") (codes "reset") attrs then Button else Textbox)))))

-- the role that HTML gives to an element (HTML Accessibility API Mappings, section 3.5; which tags are known is this project's profile)
abbrev pub implicit_role : Chars → List Attr → Role
implicit_role tag attrs =
    if bytes_eq tag (codes "main") then Main else
    (if bytes_eq tag (codes "article") then Article else
    (if bytes_eq tag (codes "button") then Button else
    (if bytes_eq tag (codes "nav") then Navigation else
    (if bytes_eq tag (codes "p") then Paragraph else
    (if bytes_eq tag (codes "h1") then Heading else
    (if bytes_eq tag (codes "h2") then Heading else
    (if bytes_eq tag (codes "h3") then Heading else
    (if bytes_eq tag (codes "h4") then Heading else
    (if bytes_eq tag (codes "h5") then Heading else
    (if bytes_eq tag (codes "h6") then Heading else
    (if bytes_eq tag (codes "a") then role_of_anchor attrs else
    (if bytes_eq tag (codes "img") then role_of_image attrs else
    (if bytes_eq tag (codes "ul") then ListRole else
    (if bytes_eq tag (codes "ol") then ListRole else
    (if bytes_eq tag (codes "li") then Listitem else
    (if bytes_eq tag (codes "table") then Table else
    (if bytes_eq tag (codes "tr") then Row else
    (if bytes_eq tag (codes "td") then Cell else
    (if bytes_eq tag (codes "th") then Columnheader else
    (if bytes_eq tag (codes "textarea") then Textbox else
    (if bytes_eq tag (codes "input") then role_of_input attrs else Generic)))))))))))))))))))))

-- the role that an element names itself: the first known token of `role` (WAI-ARIA 1.2, section 8.1)
abbrev pub role_from_attribute : List Attr → Option Role
role_from_attribute attrs = first_known (tokens (text_in (codes "role") attrs))

-- whether it is the role none
abbrev pub is_no_role : Role → Bool
is_no_role NoRole = true
is_no_role _ = false

-- a role, or another one where it is none and there is a presentational-role conflict
abbrev pub resolve_presentational_conflict : Bool → Role → Role → Role
resolve_presentational_conflict conflict r other = if conflict && is_no_role r then other else r

-- the role that the host language gives to an element: img where that is none and in conflict
abbrev pub host_role : Chars → List Attr → Role
host_role tag attrs = resolve_presentational_conflict (has_presentational_conflict tag attrs) (implicit_role tag attrs) Img

-- the role of an element other than the root: the one that it names itself; where it names none of the known ones, or none in a conflict, that of the host language
-- (WAI-ARIA 1.2, section 8.1 and 'Presentational Roles Conflict Resolution')
unfoldable pub element_role : Chars → List Attr → Role
element_role tag attrs = resolve_presentational_conflict (has_presentational_conflict tag attrs) (unwrap_or (role_from_attribute attrs) (host_role tag attrs)) (host_role tag attrs)

-- the role of an element that is the root, or is not
abbrev pub role_of : Bool → Body → Role
role_of at_root (Words chars runs) = Text
role_of true (Element tag attrs frame) = Document
role_of false (Element tag attrs frame) = element_role tag attrs

-- the role of a node
abbrev pub role : Spot → Role
role n = role_of (n.id == root) n.body

-- the roles whose children are presentational (WAI-ARIA 1.2, 'Presentational Children'; which of them is this project's profile)
abbrev pub children_presentational : Role → Bool
children_presentational Button = true
children_presentational Checkbox = true
children_presentational Img = true
children_presentational OptionItem = true
children_presentational Progressbar = true
children_presentational Radio = true
children_presentational Slider = true
children_presentational Switch = true
children_presentational Tab = true
children_presentational _ = false

-- whether a node leaves out what is below it
abbrev pub prunes : Spot → Bool
prunes n = children_presentational (role n)

-- whether an element is a hidden field: an `input` whose word of `type` is hidden (HTML, 'Hidden state (type=hidden)')
abbrev pub is_hidden_field : Chars → List Attr → Bool
is_hidden_field tag attrs = bytes_eq tag (codes "input") && has_word (codes "type") (codes "hidden") attrs

-- whether an element leaves out itself and what is below it: by `hidden` or `display`, by `aria-hidden`, or as a hidden field (WAI-ARIA 1.2, section 7.1)
unfoldable pub hides_element : Chars → List Attr → Bool
hides_element tag attrs =
    is_there (codes "hidden") attrs
    || (has_word (codes "display") (codes "none") attrs
    || (has_word (codes "aria-hidden") (codes "true") attrs
    || is_hidden_field tag attrs))

-- whether a node that is not the root leaves out itself and what is below it; a text does not
abbrev pub hides_body : Body → Bool
hides_body (Words chars runs) = false
hides_body (Element tag attrs frame) = hides_element tag attrs

-- whether a node leaves out itself and what is below it; the root never does
abbrev pub hides : Spot → Bool
hides n = not (n.id == root) && hides_body n.body

-- whether it is the generic role (WAI-ARIA 1.2, section 5.4)
abbrev pub is_generic : Role → Bool
is_generic Generic = true
is_generic _ = false

-- whether an element says nothing of itself: it has no global ARIA attribute, no `title`, and no `tabindex`; whether it may have the focus by its tag does not matter
abbrev pub is_bare : List Attr → Bool
is_bare attrs = not (has_global_aria_attribute attrs) && (not (is_filled (codes "title") attrs) && not (has_tab_index attrs))

-- whether an element of a role is left out, but not what is below it (WAI-ARIA 1.2, section 7.1; for generic elements this project's profile)
unfoldable pub is_ignored : Role → List Attr → Bool
is_ignored r attrs = is_no_role r || (is_generic r && is_bare attrs)

-- the same of a node of a role; a text is left out where it is blank
abbrev pub ignored_body : Role → Body → Bool
ignored_body r (Words chars runs) = is_blank chars
ignored_body r (Element tag attrs frame) = is_ignored r attrs

-- whether a node is left out of the tree, but not what is below it; the root never is
abbrev pub ignored : Spot → Bool
ignored n = not (n.id == root) && ignored_body (role n) n.body
