-- What is told of the way from one tree to another.
use Rattle.std.specs.Prelude.{ℕ, Bool, true, not, ◌&&◌, nat_eq, bytes_eq, if◌then◌else◌, List, [], ◌∷◌, ◌++◌, flat_map, Option, Some, None, unwrap_or}
use Rattle.std.specs.Cmp.Lexicographic.{pointwise}
use Rattle.std.specs.Option.{option_eq, option_map_or}
use Rattle.ax_base.specs.Characters.{Chars}
use Rattle.ax_base.specs.Recursion.{from_below}
use Rattle.ax_base.specs.declared.notices.Notice.{Notice}
use Rattle.ax_base.specs.declared.notices.NoticeKind.{NoticeKind}
use Rattle.ax_base.specs.declared.notices.NoticeKind.TheVariants.{Focus, Children, Name, Value, Checked, Expanded, Selected, Live}
use Rattle.ax_base.specs.declared.states.Live.{Live as LiveOf}
use Rattle.ax_base.specs.declared.states.Live.TheVariants.{Off}
use Rattle.ax_base.specs.contracts.states.CheckedPartialEq.TheImpl as checks
use Rattle.ax_base.specs.contracts.states.LivePartialEq.TheImpl as lives
use mathlib.Core.Bool.{beq}
use Rattle.ax_record.specs.declared.record.Record.{Record}
use Rattle.ax_record.specs.Tree.{Tree, record_at, object_ids, kids_of, parent_of, made_at}

-- a notice of an object
abbrev pub notice : ℕ → NoticeKind → ℕ → Notice
notice j kind n = record { moment = j; kind = kind; id = Some n }

-- the table of kinds: whether what a kind tells of an object is the same in two records; the focus and live regions are not told by a record
abbrev pub is_same_in : NoticeKind → Record → Record → Bool
is_same_in Children a b = pointwise nat_eq a.kids b.kids
is_same_in Name a b = bytes_eq a.name b.name
is_same_in Value a b = option_eq bytes_eq a.value b.value
is_same_in Checked a b = option_eq checks.ghosts.eq a.states.checked b.states.checked
is_same_in Expanded a b = option_eq beq a.states.expanded b.states.expanded
is_same_in Selected a b = option_eq beq a.states.selected b.states.selected
is_same_in Focus a b = true
is_same_in Live a b = true

-- the notice of one kind of an object of both trees, where what it tells differs; none of an object that is new or gone
abbrev pub told_at : ℕ → NoticeKind → Option Record → Option Record → ℕ → List Notice
told_at j kind (Some a) (Some b) n = if is_same_in kind a b then [] else notice j kind n ∷ []
told_at j kind (Some a) None n = []
told_at j kind None b n = []

-- the notices of one kind, of some ids in their order
unfoldable pub kind_notices : ℕ → Tree → Tree → List ℕ → NoticeKind → List Notice
kind_notices j a b ns kind = flat_map (made_at (told_at j kind) a b) ns

-- the kinds of an object of both trees, in their order
abbrev pub told_kinds : List NoticeKind
told_kinds = Children ∷ Name ∷ Value ∷ Checked ∷ Expanded ∷ Selected ∷ []

-- the text of an object: the characters of a text, the name of any other
abbrev pub text_of : Record → Chars
text_of r = unwrap_or r.text r.name

-- the same of an id; empty where the tree lacks it
abbrev pub text_at : Tree → ℕ → Chars
text_at t n = option_map_or text_of (record_at t n) []

-- the text of an object that has no kids
abbrev pub leaf_of : List ℕ → Chars → List Chars
leaf_of [] text = text ∷ []
leaf_of (k ∷ ks) text = []

-- the same of an id; none where the tree lacks it
abbrev pub leaf_at : Tree → ℕ → List Chars
leaf_at t n = option_map_or (λ r. leaf_of r.kids (text_of r)) (record_at t n) []

-- of each kid in order its own text, if it has no kids, and what is below it
abbrev pub leaves_from : List Chars → List (List Chars × List Chars) → List Chars
leaves_from own below = flat_map (λ (c : List Chars × List Chars). c.0 ++ c.1) below

-- the texts of the objects without kids below an object, at most so many levels down
abbrev pub leaves_within : Tree → ℕ → ℕ → List Chars
leaves_within t levels n = from_below leaves_from (leaf_at t) (kids_of t) levels n

-- the texts of the objects below an object that have no kids, in tree order; none where the tree lacks it
abbrev pub leaf_texts : Tree → ℕ → List Chars
leaf_texts t n = leaves_within t 128 n

-- the live of an object; off where the tree lacks it
abbrev pub live_of : Tree → ℕ → LiveOf
live_of t n = option_map_or (λ r. r.live) (record_at t n) Off

-- the live of the parent of an object; off where it has none
abbrev pub live_above : Tree → ℕ → LiveOf
live_above t n = option_map_or (live_of t) (parent_of t n) Off

-- a live region: its live is not off, and not that of its parent (WAI-ARIA 1.2, section 6.6.2: live region attributes; that it begins where the value differs is this project's own)
abbrev pub is_region : Tree → ℕ → Bool
is_region t n = not (lives.ghosts.eq (live_of t n) Off) && not (lives.ghosts.eq (live_of t n) (live_above t n))

-- a live region of the second tree whose leaf texts differ
abbrev pub live_at : ℕ → Tree → Tree → ℕ → List Notice
live_at j a b n = if is_region b n && not (pointwise bytes_eq (leaf_texts a n) (leaf_texts b n)) then notice j Live n ∷ [] else []

-- the focus, where it differs
abbrev pub focus_notice : ℕ → Tree → Tree → List Notice
focus_notice j a b = if option_eq nat_eq a.focus b.focus then [] else record { moment = j; kind = Focus; id = b.focus } ∷ []

-- the notices of some ids: the focus, then kind by kind in the order of the ids, then the live regions
abbrev pub notices_among : ℕ → Tree → Tree → List ℕ → List Notice
notices_among j a b ns = focus_notice j a b ++ flat_map (kind_notices j a b ns) told_kinds ++ flat_map (live_at j a b) ns

-- the notices from one tree to another
abbrev pub notices_between : Tree → Tree → ℕ → List Notice
notices_between a b j = notices_among j a b (object_ids b)
