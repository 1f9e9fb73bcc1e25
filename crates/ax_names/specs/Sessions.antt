-- What is looked up and kept while the names of one document are made.
use Rattle.std.specs.Prelude.{ℕ, Bool, not, ◌&&◌, if◌then◌else◌, List, [], take, map, codes}
use Rattle.std.specs.Option.{IfSome}
use Rattle.ax_base.specs.declared.attrs.Attr.{Attr}
use Rattle.ax_base.specs.declared.role.Role.{Role}
use Rattle.ax_base.specs.Characters.{Chars, is_blank, tokens, flat, cut, joined_by_spaces}
use Rattle.ax_base.specs.Values.{text_in}
use Rattle.ax_base.specs.Document.{Document}
use Rattle.ax_base.specs.NamedRoles.{name_prohibited}
use Rattle.ax_base.specs.References.{referred_node, referred_text}
use Rattle.ax_base.specs.AccessibleNames.{host_label_of, content_text}
use Rattle.ax_names.specs.declared.session.Names.{Names}
use Rattle.ax_names.specs.declared.session.Sayings.{Sayings}
use Rattle.ax_names.specs.Pieces.{piece_of}
use Rattle.ax_names.specs.Memos.{Keeps}
use Rattle.ax_names.specs.Targets.{AreTargetsOf}
use Rattle.ax_names.specs.declared.naming.Named.{Named}
use Rattle.ax_names.specs.OwnTexts.{said_or, title_said, element_called, named_from}

-- the look-ups, if they were made, are those of a document, and what is kept is what its nodes say
pub record AreSayingsOf {G : Type 0} (of : Chars → G) (d : Document) (s : Sayings G) : Type 0 where
  pub targets : IfSome s.targets (AreTargetsOf d)
  pub referred : Keeps of (referred_node d) s.referred
  pub contents : Keeps of (content_text d) s.contents

-- the same of what is looked up and kept while names are made
abbrev pub AreNamesOf : Document → Names → Type 0
AreNamesOf d s = AreSayingsOf piece_of d s.sayings

-- what the first eight tokens of a text refer to
abbrev pub all_referred : Document → Chars → List Chars
all_referred d text = map (referred_text d) (take 8 (tokens text))

-- the same, joined by single spaces
abbrev pub referred_by : Document → Chars → Chars
referred_by d text = joined_by_spaces (all_referred d text)

-- what an element of a role is called, before its `title`
abbrev pub called_by : Document → ℕ → Role → Chars → List Attr → Chars
called_by d n r tag attrs = element_called (referred_by d (text_in (codes "aria-labelledby") attrs)) (host_label_of d n tag attrs) r attrs (content_text d n)

-- the accessible name of an element of a role
abbrev pub element_name : Document → ℕ → Role → Chars → List Attr → Chars
element_name d n r tag attrs = cut (flat (if name_prohibited r then [] else said_or (called_by d n r tag attrs) (title_said attrs)))

-- whether an element of a role may be named, and nothing before its `title` names it
abbrev pub is_named_late : Document → ℕ → Role → Chars → List Attr → Bool
is_named_late d n r tag attrs = not (name_prohibited r) && is_blank (called_by d n r tag attrs)

-- the accessible description of an element of a role
abbrev pub element_description : Document → ℕ → Role → Chars → List Attr → Chars
element_description d n r tag attrs =
    cut (flat (said_or (referred_by d (text_in (codes "aria-describedby") attrs)) (if is_named_late d n r tag attrs then [] else title_said attrs)))

-- the accessible name of an element of a role, and whether nothing before its `title` names it though it may be named
abbrev pub named_by : Document → ℕ → Role → Chars → List Attr → Named
named_by d n r tag attrs = named_from r attrs (referred_by d (text_in (codes "aria-labelledby") attrs)) (host_label_of d n tag attrs) (content_text d n)
