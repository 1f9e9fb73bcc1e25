-- What an element says by itself, before and after its children.
use Rattle.std.specs.Prelude.{Bool, not, ◌&&◌, ◌||◌, if◌then◌else◌, Option, Some, None, List, [], ◌∷◌, codes}
use Rattle.ax_base.specs.declared.attrs.Attr.{Attr}
use Rattle.ax_base.specs.declared.body.Body.{Body}
use Rattle.ax_base.specs.declared.role.Role.{Role}
use Rattle.ax_base.specs.Characters.{Chars, is_blank, flat, cut, first_said}
use Rattle.ax_base.specs.Values.{text_in}
use Rattle.ax_base.specs.NamedRoles.{names_from_content, name_prohibited}
use Rattle.ax_base.specs.Said.{embedded, is_block, spaced, said_by}
use Rattle.ax_names.specs.declared.naming.Named.{Named}

-- the first of two texts where it is not blank, and else the second
abbrev pub said_or : Chars → Chars → Chars
said_or first second = if is_blank first then second else first

-- what is gathered of a text, where that is not blank
abbrev pub unless_blank : {G : Type 0} → (Chars → G) → Chars → Option G
unless_blank of t = if is_blank t then None else Some (of t)

-- what an element of a role says before its children: the first that is not blank of its `aria-label` and the text embedded in it
abbrev pub own_text : Role → Chars → List Attr → Chars
own_text r tag attrs = first_said (text_in (codes "aria-label") attrs ∷ embedded r tag attrs ∷ [])

-- what an element says after its children: its `title`, where it is not blank
abbrev pub title_said : List Attr → Chars
title_said attrs = first_said (text_in (codes "title") attrs ∷ [])

-- what an element of a role says that follows no reference
abbrev pub element_says : Role → Chars → List Attr → Chars → Chars
element_says r tag attrs below = said_or (own_text r tag attrs) (said_or below (title_said attrs))

-- what an element of a role says whose own references say `referred`, from what its children say
abbrev pub element_shows : Chars → Role → Chars → List Attr → Chars → Chars
element_shows referred r tag attrs below = said_or referred (element_says r tag attrs below)

-- what an element of a role is called, before its `title`: the first that is not blank of what its references say, its `aria-label`, its label by the host language,
-- and, where the role is named from content, what its children say
abbrev pub element_called : Chars → Chars → Role → List Attr → Chars → Chars
element_called referred label r attrs below =
    said_or referred (said_or (text_in (codes "aria-label") attrs) (said_or label (said_or (if names_from_content r then below else []) [])))

-- what a node of a role says for its parent, from what its references and its children say: nothing where it is silent, and between spaces where it is a block
abbrev pub said_as_child : Bool → Role → Chars → Body → Chars → Chars
said_as_child silent r referred b below = if silent then [] else spaced (is_block b) (said_by r referred b below)

-- the accessible name of an element of a role, and whether nothing before its `title` names it though it may be named: from what its `aria-labelledby` refers to,
-- its label by the host language, and what its children say
abbrev pub named_from : Role → List Attr → Chars → Chars → Chars → Named
named_from r attrs referred label below =
    record {
      name = cut (flat (if name_prohibited r then [] else said_or (element_called referred label r attrs below) (title_said attrs)));
      by_title = not (name_prohibited r) && is_blank (element_called referred label r attrs below);
    }

-- the accessible description of an element, from what its `aria-describedby` refers to: its `title`, where that does not name it, comes after
abbrev pub described_from : List Attr → Chars → Bool → Chars
described_from attrs referred by_title = cut (flat (said_or referred (if by_title then [] else title_said attrs)))

-- whether it is settled what names an element of a role before its host language and its children are asked: it may not be named, or what its references say
-- or its `aria-label` is not blank
abbrev pub is_settled : Role → List Attr → Chars → Bool
is_settled r attrs referred = name_prohibited r || (not (is_blank referred) || not (is_blank (text_in (codes "aria-label") attrs)))
