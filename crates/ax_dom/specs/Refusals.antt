-- Why an edit is refused.
use Rattle.std.specs.Prelude.{◌≡◌, ◌≢◌, ◌<◌, ℕ, Bool, true, false, not, ◌||◌, ◌+◌, ◌-◌, nat_eq, nat_lt, nat_le, length, ◌==◌, if◌then◌else◌, List, [], ◌∷◌, Option, Some, None}
use Rattle.std.specs.List.{list_any}
use Rattle.std.specs.Option.{option_map_or}
use Rattle.std.specs.Str.{chars}
use Rattle.ax_base.specs.Characters.{Chars}
use Rattle.ax_base.specs.declared.attrs.Attr.{Attr}
use Rattle.ax_base.specs.declared.body.Body.{Body}
use Rattle.ax_base.specs.declared.body.Body.TheVariants.{Element, Words}
use Rattle.ax_base.specs.Document.{Document, root, has, depth, body, children, lineage, is_text}
use Rattle.ax_base.specs.Rects.{HasRectsWithin}
use Rattle.ax_base.specs.Runs.{may_have_runs, KeepsRuns}
use Rattle.ax_base.specs.Texts.{IsFitting}
use Rattle.ax_dom.specs.declared.cause.EditCause.{EditCause}
use Rattle.ax_dom.specs.declared.cause.EditCause.TheVariants.{NoNode, UsedId, BadPlace, NotElement, NotText, IntoItself, RootFixed, TooDeep, TooMany, BadRuns, TooLong, NoMemory}
use Rattle.ax_dom.specs.declared.edit.Edit.{Edit}
use Rattle.ax_dom.specs.declared.edit.Edit.TheVariants.{InsertElement, InsertText, Remove, Move, Chars as NewChars, Set, Unset, SetRuns, Frame, Focus}
use Rattle.ax_dom.specs.Used.{is_used}
use Rattle.ax_dom.specs.Subtrees.{subtree}
use Rattle.ax_base.specs.declared.limits.TheConstants.{MAX_DEPTH, MAX_INSERTS, MAX_TEXT_CHARACTERS}
use Rattle.ax_dom.specs.declared.dom.refusals.TheConstants.{MAX_VALUE_BYTES}

-- no child to stand before is given, or it is a child of `into`
abbrev pub is_place : Document → ℕ → Option ℕ → Bool
is_place d into None = true
is_place d into (Some b) = list_any (nat_eq b) (children d into)

-- whether an id is the root's or was ever inserted
abbrev pub is_taken : Document → ℕ → Bool
is_taken d n = n == root || is_used d n

-- whether an attribute value has more than 4,096 bytes
abbrev pub is_long_value : Chars → Bool
is_long_value value = nat_lt MAX_VALUE_BYTES (length value)

-- whether some attribute has such a value
abbrev pub has_long_value : List Attr → Bool
has_long_value attrs = list_any (λ a. is_long_value a.value) attrs

-- whether none is to be focused, or a node that is there
abbrev pub may_focus : Document → Option ℕ → Bool
may_focus d None = true
may_focus d (Some n) = has d n

-- how many characters a text has
abbrev pub length_of : Body → ℕ
length_of (Words new runs) = length (chars new)
length_of (Element tag attrs frame) = 0

-- whether a text has more than 65,536 characters
abbrev pub is_long_text : Chars → Bool
is_long_text t = nat_lt MAX_TEXT_CHARACTERS (length (chars t))

-- the document lacks a node that the edit names, an insert's own id aside
abbrev pub lacks_node : Document → Edit → Bool
lacks_node d (InsertElement id into before tag attrs) = not (has d into)
lacks_node d (InsertText id into before new) = not (has d into)
lacks_node d (Remove id) = not (has d id)
lacks_node d (Move id into before) = not (has d id) || not (has d into)
lacks_node d (NewChars id new) = not (has d id)
lacks_node d (Set id name value) = not (has d id)
lacks_node d (Unset id name) = not (has d id)
lacks_node d (SetRuns id runs) = not (has d id)
lacks_node d (Frame id rect) = not (has d id)
lacks_node d (Focus id) = not (may_focus d id)

-- an insert's id is the root's or was inserted before
abbrev pub reuses_id : Document → Edit → Bool
reuses_id d (InsertElement id into before tag attrs) = is_taken d id
reuses_id d (InsertText id into before new) = is_taken d id
reuses_id d _ = false

-- a child to stand before is given, and is no child of `into`, or is the moved node itself
abbrev pub lacks_place : Document → Edit → Bool
lacks_place d (InsertElement id into before tag attrs) = not (is_place d into before)
lacks_place d (InsertText id into before new) = not (is_place d into before)
lacks_place d (Move id into before) = not (is_place d into before) || option_map_or (nat_eq id) before false
lacks_place d _ = false

-- an element is wanted, and the node is a text
abbrev pub wants_element : Document → Edit → Bool
wants_element d (InsertElement id into before tag attrs) = is_text (body d into)
wants_element d (InsertText id into before new) = is_text (body d into)
wants_element d (Move id into before) = is_text (body d into)
wants_element d (Set id name value) = is_text (body d id)
wants_element d (Unset id name) = is_text (body d id)
wants_element d (Frame id rect) = is_text (body d id)
wants_element d _ = false

-- a text is wanted, and the node is an element
abbrev pub wants_text : Document → Edit → Bool
wants_text d (NewChars id new) = not (is_text (body d id))
wants_text d (SetRuns id runs) = not (is_text (body d id))
wants_text d _ = false

-- the moved node is `into` or above it
abbrev pub goes_into_itself : Document → Edit → Bool
goes_into_itself d (Move id into before) = list_any (nat_eq id) (lineage d into)
goes_into_itself d _ = false

-- the root is to be removed
abbrev pub removes_root : Edit → Bool
removes_root (Remove id) = id == root
removes_root _ = false

-- whether some node would have a depth over 64, if n hung on `into`: it is as far below n as it was
abbrev pub exceeds_depth : Document → ℕ → ℕ → Bool
exceeds_depth d n into = list_any (λ m. nat_lt MAX_DEPTH (depth d into + 1 + (depth d m - depth d n))) (subtree d n)

-- some node would have a depth over 64
abbrev pub goes_too_deep : Document → Edit → Bool
goes_too_deep d (InsertElement id into before tag attrs) = nat_lt MAX_DEPTH (depth d into + 1)
goes_too_deep d (InsertText id into before new) = nat_lt MAX_DEPTH (depth d into + 1)
goes_too_deep d (Move id into before) = exceeds_depth d id into
goes_too_deep d _ = false

-- 65,536 nodes were inserted before
abbrev pub is_one_too_many : Document → Edit → Bool
is_one_too_many d (InsertElement id into before tag attrs) = nat_le MAX_INSERTS (length d.used)
is_one_too_many d (InsertText id into before new) = nat_le MAX_INSERTS (length d.used)
is_one_too_many d _ = false

-- the runs of an edit are not those that a node may have
abbrev pub has_wrong_runs : Edit → Body → Bool
has_wrong_runs (SetRuns id runs) b = not (may_have_runs (length_of b) runs)
has_wrong_runs _ b = false

-- the runs are not those that the text may have
abbrev pub breaks_runs : Document → Edit → Bool
breaks_runs d (SetRuns id runs) = not (may_have_runs (length_of (body d id)) runs)
breaks_runs d _ = false

-- an attribute value has more than 4,096 bytes, or a text more than 65,536 characters
abbrev pub is_too_long : Edit → Bool
is_too_long (InsertElement id into before tag attrs) = has_long_value attrs
is_too_long (InsertText id into before new) = is_long_text new
is_too_long (NewChars id new) = is_long_text new
is_too_long (Set id name value) = is_long_value value
is_too_long _ = false

-- the first cause whose condition holds
abbrev pub first_cause : List (Bool × EditCause) → Option EditCause
first_cause [] = None
first_cause (c ∷ cs) = if c.0 then Some c.1 else first_cause cs

-- why an edit is refused: the conditions in the order in which they are tried
abbrev pub edit_cause : Document → Edit → Option EditCause
edit_cause d e = first_cause (
    (lacks_node d e, NoNode)
    ∷ (reuses_id d e, UsedId)
    ∷ (lacks_place d e, BadPlace)
    ∷ (wants_element d e, NotElement)
    ∷ (wants_text d e, NotText)
    ∷ (goes_into_itself d e, IntoItself)
    ∷ (removes_root e, RootFixed)
    ∷ (goes_too_deep d e, TooDeep)
    ∷ (is_one_too_many d e, TooMany)
    ∷ (breaks_runs d e, BadRuns)
    ∷ (is_too_long e, TooLong)
    ∷ [])

-- whether it is want of memory, the one cause that no condition is tied to
abbrev pub is_no_memory : EditCause → Bool
is_no_memory NoMemory = true
is_no_memory _ = false

-- what an insert that nothing refuses has
pub record MayInsert (d : Document) (id into : ℕ) (before : Option ℕ) (b : Body) : Type 0 where
  pub known : has d into ≡ true
  pub apart : id ≢ root
  pub fresh : is_used d id ≡ false
  pub place : is_place d into before ≡ true
  pub element : is_text (body d into) ≡ false
  pub low : depth d into < MAX_DEPTH
  pub room : length d.used < MAX_INSERTS
  pub fits : IsFitting b
  pub runs : KeepsRuns b
  pub within : HasRectsWithin b

-- what a move that nothing refuses has
pub record MayMove (d : Document) (id into : ℕ) (before : Option ℕ) : Type 0 where
  pub known : has d id ≡ true
  pub parent_known : has d into ≡ true
  pub place : is_place d into before ≡ true
  pub element : is_text (body d into) ≡ false
  pub out : list_any (nat_eq id) (lineage d into) ≡ false
  pub low : exceeds_depth d id into ≡ false
