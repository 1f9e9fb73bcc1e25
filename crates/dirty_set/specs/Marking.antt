-- The marks of an edit.
use Rattle.std.specs.Prelude.{ℕ, Bool, not, ◌&&◌, filter, flat_map, List, [], ◌++◌, Option, Some, None}
use Rattle.std.specs.Option.{option_eq, option_map_or}
use mathlib.Core.Bool.{beq}
use Rattle.ax_base.specs.declared.states.Live.{Live}
use Rattle.ax_base.specs.contracts.states.LivePartialEq.TheImpl as lives
use Rattle.ax_base.specs.Characters.{Chars}
use Rattle.ax_base.specs.Document.{Document, Spot, spot, body, has, ids, parent}
use Rattle.ax_base.specs.Roles.{hides, prunes}
use Rattle.ax_base.specs.States.{sets_live}
use Rattle.ax_dom.specs.declared.edit.Edit.{Edit}
use Rattle.ax_dom.specs.declared.edit.Edit.TheVariants.{InsertElement, InsertText, Remove, Move, Chars as NewChars, Set, Unset, SetRuns, Frame, Focus}
use Rattle.dom_ids.specs.References.{listed, carried}
use Rattle.dirty_set.specs.Reach.{Marked, nodes_near}

-- what a node hides, leaves out and sets by itself
pub record Own : Type 0 where
  pub hides : Bool
  pub prunes : Bool
  pub live : Option Live

abbrev pub own_at : Spot → Own
own_at s = record { hides = hides s; prunes = prunes s; live = sets_live s }

abbrev pub own : Document → ℕ → Own
own d n = own_at (spot d n)

-- whether two nodes hide, leave out and set the same
abbrev pub same_own : Own → Own → Bool
same_own a b = beq a.hides b.hides && (beq a.prunes b.prunes && option_eq lives.ghosts.eq a.live b.live)

-- the node that an edit names by its first key; none of a focus on nothing
abbrev pub key_of : Edit → Option ℕ
key_of (InsertElement id into before tag attrs) = Some id
key_of (InsertText id into before chars) = Some id
key_of (Remove id) = Some id
key_of (Move id into before) = Some id
key_of (NewChars id chars) = Some id
key_of (Set id name value) = Some id
key_of (Unset id name) = Some id
key_of (SetRuns id runs) = Some id
key_of (Frame id rect) = Some id
key_of (Focus id) = id

-- the node into which an edit puts another
abbrev pub into_of : Edit → Option ℕ
into_of (InsertElement id into before tag attrs) = Some into
into_of (InsertText id into before chars) = Some into
into_of (Remove id) = None
into_of (Move id into before) = Some into
into_of (NewChars id chars) = None
into_of (Set id name value) = None
into_of (Unset id name) = None
into_of (SetRuns id runs) = None
into_of (Frame id rect) = None
into_of (Focus id) = None

-- the node that an edit puts in a place
abbrev pub put_by : Edit → Option ℕ
put_by (InsertElement id into before tag attrs) = Some id
put_by (InsertText id into before chars) = Some id
put_by (Remove id) = None
put_by (Move id into before) = Some id
put_by (NewChars id chars) = None
put_by (Set id name value) = None
put_by (Unset id name) = None
put_by (SetRuns id runs) = None
put_by (Frame id rect) = None
put_by (Focus id) = None

-- the node that an edit takes out of the document
abbrev pub taken_by : Edit → Option ℕ
taken_by (InsertElement id into before tag attrs) = None
taken_by (InsertText id into before chars) = None
taken_by (Remove id) = Some id
taken_by (Move id into before) = None
taken_by (NewChars id chars) = None
taken_by (Set id name value) = None
taken_by (Unset id name) = None
taken_by (SetRuns id runs) = None
taken_by (Frame id rect) = None
taken_by (Focus id) = None

-- the node that an edit takes from its parent
abbrev pub unhung_by : Edit → Option ℕ
unhung_by (InsertElement id into before tag attrs) = None
unhung_by (InsertText id into before chars) = None
unhung_by (Remove id) = Some id
unhung_by (Move id into before) = Some id
unhung_by (NewChars id chars) = None
unhung_by (Set id name value) = None
unhung_by (Unset id name) = None
unhung_by (SetRuns id runs) = None
unhung_by (Frame id rect) = None
unhung_by (Focus id) = None

-- the nodes that an edit names, a child to stand before aside
abbrev pub named : Edit → List ℕ
named e = listed (key_of e) ++ listed (into_of e)

abbrev pub put : Edit → List ℕ
put e = listed (put_by e)

abbrev pub out : Edit → List ℕ
out e = listed (taken_by e)

-- the parent that loses a child
abbrev pub left : Document → Edit → List ℕ
left d e = option_map_or (λ n. listed (parent d n)) (unhung_by e) []

-- the nodes of both documents that hide, leave out or set otherwise than before
abbrev pub turned : Document → Document → List ℕ
turned old now = filter (λ n. has old n && not (same_own (own old n) (own now n))) (ids now)

-- the texts that some nodes carry
abbrev pub carried_by_all : Document → List ℕ → List Chars
carried_by_all d ns = flat_map (λ n. carried (body d n)) ns

-- the texts that are carried at and above some nodes, and at, above and below some roots
abbrev pub carried_near : List ℕ → List ℕ → Document → List Chars
carried_near nodes roots d = carried_by_all d (nodes_near nodes roots d)

abbrev pub marked_nodes : Document → Document → Edit → List ℕ
marked_nodes old now e = named e ++ (left old e ++ (listed old.focus ++ listed now.focus))

abbrev pub marked_roots : Document → Document → Edit → List ℕ
marked_roots old now e = put e ++ turned old now

abbrev pub marked_texts : Document → Document → Edit → List Chars
marked_texts old now e =
    carried_near (marked_nodes old now e) (marked_roots old now e ++ out e) old
    ++ carried_near (marked_nodes old now e) (marked_roots old now e ++ out e) now

-- the marks of an edit that leads from one document to the next
abbrev pub marked : Document → Document → Edit → Marked
marked old now e = record { nodes = marked_nodes old now e; roots = marked_roots old now e; texts = marked_texts old now e }
