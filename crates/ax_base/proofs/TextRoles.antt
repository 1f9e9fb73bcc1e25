-- Texts alone have the role text.
use Rattle.std.proofs.Common.{◌≡◌, ◌≢◌, List, [], ◌∷◌, Bool, true, false, cond, ◌&&◌, Option, Some, None, refl, sym, ap, ◌∙◌}
use Rattle.std.specs.Prelude.{find, IfSome, not, unwrap_or, bytes_eq, codes}
use Rattle.std.specs.Option.{option_or}
use Rattle.std.specs.List.{list_all}
use Rattle.std.proofs.lemmas.Bool.{false≢true}
use Rattle.ax_base.specs.declared.attrs.Attr.{Attr}
use Rattle.ax_base.specs.declared.body.Body.TheVariants.{Element}
use Rattle.ax_base.specs.declared.rect.Rect.{Rect}
use Rattle.ax_base.specs.declared.role.Role.{Role}
use Rattle.ax_base.specs.declared.role.Role.TheVariants.{Article, Button, Cell, Checkbox, Columnheader, Generic, Heading, Img, Link, List as ListRole, Listitem, Main, Navigation, NoRole, Paragraph, Radio, Row, Slider, Table, Text, Textbox}
use Rattle.ax_base.specs.Characters.{Chars, tokens}
use Rattle.ax_base.specs.Focusable.{has_presentational_conflict}
use Rattle.ax_base.specs.Values.{text_in, is_same_word, is_there, has_word}
use Rattle.ax_base.specs.RoleWords.{role_word}
use Rattle.ax_base.specs.KnownRoles.{known_roles, known_role, first_known}
use Rattle.ax_base.specs.Roles.{role_of_anchor, role_of_image, role_of_input, has_blank_alt, implicit_role, role_from_attribute, is_no_role, resolve_presentational_conflict, host_role, element_role, role_of}

abbrev is_text_role : Role → Bool
is_text_role Text = true
is_text_role _ = false

-- a role that is not text
record IsOther (r : Role) : Type 0 where
  is : is_text_role r ≡ false

text_or_other : (r : Role) → is_text_role r ≡ false → IsOther r
text_or_other r e = record { is = e }

either : (b : Bool) (r other : Role) → IsOther r → IsOther other → IsOther (cond b r other)
either true r other is also = is
either false r other is also = also

-- what is found among roles that are not text is none of it
found_other : (p : Role → Bool) (rs : List Role) → list_all (λ r. not (is_text_role r)) rs ≡ true → IfSome (find p rs) IsOther
found_other p [] all = tt
found_other p (r ∷ rs) all = go (p r) (is_text_role r) refl all (found_other p rs)
  where
    go : (passes is : Bool) → is_text_role r ≡ is → (not is && list_all (λ r. not (is_text_role r)) rs) ≡ true → (list_all (λ r. not (is_text_role r)) rs ≡ true → IfSome (find p rs) IsOther) → IfSome (cond passes (Some r) (find p rs)) IsOther
    go passes true e all rest = absurd (false≢true all)
    go true false e all rest = record { is = e }
    go false false e all rest = rest all

known_other : (token : Chars) → IfSome (known_role token) IsOther
unfolding known_role
known_other token = go (is_same_word token (codes "presentation"))
  where
    go : (b : Bool) → IfSome (cond b (Some NoRole) (find (λ r. is_same_word token (role_word r)) known_roles)) IsOther
    go true = record { is = refl }
    go false = found_other (λ r. is_same_word token (role_word r)) known_roles refl

first_other : (ts : List Chars) → IfSome (first_known ts) IsOther
first_other [] = tt
first_other (t ∷ ts) = go (known_role t) (first_known ts) (known_other t) (first_other ts)
  where
    go : (a b : Option Role) → IfSome a IsOther → IfSome b IsOther → IfSome (option_or a b) IsOther
    go None b here rest = rest
    go (Some r) b here rest = here

-- a role of a table is not text, nor is any of the others
row : (b : Bool) (r : Role) {other : Role} → is_text_role r ≡ false → IsOther other → IsOther (cond b r other)
row b r {other} is also = either b r other (text_or_other r is) also

input_other : (attrs : List Attr) → IsOther (role_of_input attrs)
input_other attrs =
    row (has_word (codes "type") (codes "checkbox") attrs) Checkbox refl (
    row (has_word (codes "type") (codes "radio") attrs) Radio refl (
    row (has_word (codes "type") (codes "range") attrs) Slider refl (
    row (has_word (codes "type") (codes "button") attrs) Button refl (
    row (has_word (codes "type") (codes "submit") attrs) Button refl (
    row (has_word (codes "type") (codes "reset") attrs) Button refl (
    text_or_other Textbox refl))))))

by_tag_other : (tag : Chars) (attrs : List Attr) → IsOther (implicit_role tag attrs)
by_tag_other tag attrs =
    row (bytes_eq tag (codes "main")) Main refl (
    row (bytes_eq tag (codes "article")) Article refl (
    row (bytes_eq tag (codes "button")) Button refl (
    row (bytes_eq tag (codes "nav")) Navigation refl (
    row (bytes_eq tag (codes "p")) Paragraph refl (
    row (bytes_eq tag (codes "h1")) Heading refl (
    row (bytes_eq tag (codes "h2")) Heading refl (
    row (bytes_eq tag (codes "h3")) Heading refl (
    row (bytes_eq tag (codes "h4")) Heading refl (
    row (bytes_eq tag (codes "h5")) Heading refl (
    row (bytes_eq tag (codes "h6")) Heading refl (
    either (bytes_eq tag (codes "a")) (role_of_anchor attrs) _ (either (is_there (codes "href") attrs) Link Generic (text_or_other Link refl) (text_or_other Generic refl)) (
    either (bytes_eq tag (codes "img")) (role_of_image attrs) _ (either (has_blank_alt attrs) NoRole Img (text_or_other NoRole refl) (text_or_other Img refl)) (
    row (bytes_eq tag (codes "ul")) ListRole refl (
    row (bytes_eq tag (codes "ol")) ListRole refl (
    row (bytes_eq tag (codes "li")) Listitem refl (
    row (bytes_eq tag (codes "table")) Table refl (
    row (bytes_eq tag (codes "tr")) Row refl (
    row (bytes_eq tag (codes "td")) Cell refl (
    row (bytes_eq tag (codes "th")) Columnheader refl (
    row (bytes_eq tag (codes "textarea")) Textbox refl (
    either (bytes_eq tag (codes "input")) (role_of_input attrs) _ (input_other attrs) (
    text_or_other Generic refl))))))))))))))))))))))

host_other : (tag : Chars) (attrs : List Attr) → IsOther (host_role tag attrs)
host_other tag attrs = either (has_presentational_conflict tag attrs && is_no_role (implicit_role tag attrs)) Img (implicit_role tag attrs) (text_or_other Img refl) (by_tag_other tag attrs)

element_other : (tag : Chars) (attrs : List Attr) → IsOther (element_role tag attrs)
unfolding element_role
element_other tag attrs = go (role_from_attribute attrs) (first_other (tokens (text_in (codes "role") attrs)))
  where
    go : (o : Option Role) → IfSome o IsOther → IsOther (resolve_presentational_conflict (has_presentational_conflict tag attrs) (unwrap_or o (host_role tag attrs)) (host_role tag attrs))
    go None is = either (has_presentational_conflict tag attrs && is_no_role (host_role tag attrs)) (host_role tag attrs) (host_role tag attrs) (host_other tag attrs) (host_other tag attrs)
    go (Some r) is = either (has_presentational_conflict tag attrs && is_no_role r) (host_role tag attrs) r (host_other tag attrs) is

-- no element has the role text
pub element_no_text : (at_root : Bool) (tag : Chars) (attrs : List Attr) (frame : Rect) → role_of at_root (Element tag attrs frame) ≢ Text
element_no_text true tag attrs frame is = false≢true (ap is_text_role is)
element_no_text false tag attrs frame is = false≢true (sym (element_other tag attrs).is ∙ ap is_text_role is)
