-- What nodes say, their names and their descriptions, as they are kept.
use Rattle.std.specs.Prelude.{◌≡◌, ℕ, Bool, true, false, if◌then◌else◌, List, [], Option, Some, take, map}
use Rattle.std.specs.List.{flat_map}
use Rattle.std.specs.Option.{option_map_or}
use Rattle.std.specs.Ordering.{nat_cmp}
use Rattle.std.specs.Map.{lookup}
use Rattle.std.specs.BTreeMap.{is_at}
use Rattle.ax_base.specs.declared.body.Body.{Body}
use Rattle.ax_base.specs.declared.body.Body.TheVariants.{Element, Words}
use Rattle.ax_base.specs.AccessibleNames.{name_of, description_of, is_named_by_title}
use Rattle.ax_base.specs.Characters.{Chars, tokens}
use Rattle.ax_base.specs.Context.{is_hidden}
use Rattle.ax_base.specs.Document.{Document, Spot, has, target}
use Rattle.ax_base.specs.References.{said1}
use Rattle.ax_base.specs.Roles.{role, hides}
use Rattle.ax_base.specs.Said.{child_text, nothing_hides, said0, said_all}
use Rattle.ax_names.specs.OwnTexts.{said_as_child}
use Rattle.ax_names.specs.Pieces.{Phrase, piece_of, joined, all_apart}
use Rattle.ctx_pass.specs.declared.standing.Standing.{Standing}
use Rattle.ctx_pass.specs.Contexts.{AreContextsOf}
use Rattle.dom_ids.specs.declared.index.IdIndex.{IdIndex}
use Rattle.dom_ids.specs.Index.{IsIndexOf}
use Rattle.said_pass.specs.declared.names.NodeName.{NodeName}
use Rattle.said_pass.specs.declared.saids.Saids.{Saids}
use Rattle.said_pass.specs.declared.texts.NodeText.{NodeText}
use Rattle.ax_base.specs.declared.limits.TheConstants.{MAX_REFERENCES}

-- Where no reference is followed:

-- what is kept of a text without what hides and of one with it
abbrev pub kept_text : Chars → Chars → NodeText
kept_text shown whole = record { shown = piece_of shown; whole = piece_of whole }

-- what a node says for its parent, without what hides and with it
abbrev pub node_text : Document → ℕ → NodeText
node_text d n = kept_text (child_text d hides (said0 d) n) (child_text d nothing_hides (said_all d) n)

-- what some children say, joined
abbrev pub children_text : Document → List ℕ → NodeText
children_text d cs = kept_text (flat_map (child_text d hides (said0 d)) cs) (flat_map (child_text d nothing_hides (said_all d)) cs)

-- what no children say
abbrev pub nothing_said : NodeText
nothing_said = kept_text [] []

-- what a node says for its parent, from what its children say without what hides and with it
abbrev pub text_from : Spot → Chars → Chars → NodeText
text_from n shown whole = kept_text (said_as_child (hides n) (role n) [] n.body shown) (said_as_child false (role n) [] n.body whole)

-- two texts, one behind the other
abbrev pub joined_text : NodeText → NodeText → NodeText
joined_text a b = record { shown = joined a.shown b.shown; whole = joined a.whole b.whole }

-- what is kept of a node
abbrev pub text_at : List (ℕ × NodeText) → ℕ → Option NodeText
text_at kept n = lookup (is_at (nat_cmp n)) kept

-- what a node says is kept
abbrev pub IsTextKept : Document → List (ℕ × NodeText) → ℕ → Type 0
IsTextKept d kept n = text_at kept n ≡ Some (node_text d n)

-- what each node says is kept
abbrev pub AreTextsOf : Document → List (ℕ × NodeText) → Type 0
AreTextsOf d kept = (n : ℕ) → has d n ≡ true → IsTextKept d kept n

-- What references say:

-- what a node says that is referred to, before it is made flat: where it is hidden, all that it says
abbrev pub said_by_target : Document → ℕ → Chars
said_by_target d n = if is_hidden d n then child_text d nothing_hides (said_all d) n else child_text d hides (said0 d) n

-- what a token refers to says, before it is made flat
abbrev pub said_by_token : Document → Chars → Chars
said_by_token d token = option_map_or (said_by_target d) (target d token) []

-- what the first eight tokens of a text refer to say, each behind a space, before it is made flat
abbrev pub said_by_tokens : Document → Chars → Chars
said_by_tokens d text = all_apart (map (said_by_token d) (take MAX_REFERENCES (tokens text)))

-- what names are looked up in is that of a document: the index of its ids, its contexts, and what its nodes say where no reference is followed
pub record AreSourcesOf (d : Document) (index : IdIndex) (contexts : List (ℕ × Standing)) (texts : List (ℕ × NodeText)) : Type 0 where
  pub is_index : IsIndexOf d index
  pub are_contexts : AreContextsOf d contexts
  pub are_texts : AreTextsOf d texts

-- Names and descriptions:

-- what a node says for its parent as a part of a name, its name, and its description
abbrev pub node_name : Document → ℕ → NodeName
node_name d n = record { part = piece_of (child_text d hides (said1 d) n); name = name_of d n; description = description_of d n }

-- what some children say as parts of a name, joined
abbrev pub children_part : Document → List ℕ → Phrase
children_part d cs = piece_of (flat_map (child_text d hides (said1 d)) cs)

-- whether a node is an element that may be named, and nothing before its `title` names it
abbrev pub is_title_name : Document → ℕ → Body → Bool
is_title_name d n (Words chars runs) = false
is_title_name d n (Element tag attrs frame) = is_named_by_title d n

-- what is kept of a node
abbrev pub name_at : List (ℕ × NodeName) → ℕ → Option NodeName
name_at kept n = lookup (is_at (nat_cmp n)) kept

-- what a node is called is kept
abbrev pub IsNameKept : Document → List (ℕ × NodeName) → ℕ → Type 0
IsNameKept d kept n = name_at kept n ≡ Some (node_name d n)

-- what each node is called is kept
abbrev pub AreNamesOf : Document → List (ℕ × NodeName) → Type 0
AreNamesOf d kept = (n : ℕ) → has d n ≡ true → IsNameKept d kept n

-- Both:

-- nothing is kept of any node
abbrev pub nothing_kept : Saids
nothing_kept = record { texts = []; names = [] }

-- what a node says and is called is kept
pub record IsSaidKept (d : Document) (s : Saids) (n : ℕ) : Type 0 where
  pub text : IsTextKept d s.texts n
  pub name : IsNameKept d s.names n

-- what each node says and is called is kept
pub record AreSaidsOf (d : Document) (s : Saids) : Type 0 where
  pub texts : AreTextsOf d s.texts
  pub names : AreNamesOf d s.names
