-- What an edit makes of a document.
use Rattle.std.specs.Prelude.{ℕ, not, nat_eq, pos, codes, if◌then◌else◌, List, [], ◌∷◌, map, filter, Option, Some, None}
use Rattle.std.specs.List.{list_any}
use Rattle.std.specs.Ordering.{nat_cmp}
use Rattle.std.specs.Map.{set_value}
use Rattle.std.specs.BTreeMap.{is_at, insert_entry}
use Rattle.std.specs.BTreeSet.{insert_key}
use Rattle.ax_base.specs.declared.body.Body.{Body}
use Rattle.ax_base.specs.declared.body.Body.TheVariants.{Element, Words}
use Rattle.ax_base.specs.declared.rect.Rect.{Rect}
use Rattle.ax_base.specs.Document.{Document, Node, root, body, children}
use Rattle.ax_dom.specs.declared.edit.Edit.{Edit}
use Rattle.ax_dom.specs.declared.edit.Edit.TheVariants.{InsertElement, InsertText, Remove, Move, Chars, Set, Unset, SetRuns, Frame, Focus}
use Rattle.ax_dom.specs.Places.{placed, without}
use Rattle.ax_dom.specs.Subtrees.{subtree, is_within}
use Rattle.ax_dom.specs.Bodies.{with_chars, with_attr, without_attr, with_runs, with_frame}

-- the nodes with other children of n
abbrev pub with_children : Document → ℕ → List ℕ → List (ℕ × Node)
with_children d n cs = set_value (is_at (nat_cmp n)) d.nodes (record { body = body d n; children = cs })

-- a new node before a child of `into`, or as its last child
abbrev pub inserted : Document → ℕ → ℕ → Option ℕ → Body → Document
inserted d id into before b = record {
  nodes = insert_entry nat_cmp (with_children d into (placed before id (children d into))) id (record { body = b; children = [] });
  focus = d.focus;
  used = insert_key nat_cmp d.used id;
}

-- another body of a node, in its place
abbrev pub with_body : Document → ℕ → Body → Document
with_body d n b = record d { nodes = set_value (is_at (nat_cmp n)) d.nodes (record { body = b; children = children d n }) }

-- another focused node, or none (HTML, section 6.6.2: the focused area of a document)
abbrev pub with_focus : Document → Option ℕ → Document
with_focus d id = record d { focus = id }

-- the nodes with n among the children of none (DOM, section 4.2.3: remove)
abbrev pub unhung : ℕ → List (ℕ × Node) → List (ℕ × Node)
unhung n nodes = map (λ e. (e.0, record { body = e.1.body; children = without n e.1.children })) nodes

-- the focused node, or none where it is among some that go
abbrev pub focus_outside : List ℕ → Option ℕ → Option ℕ
focus_outside gone None = None
focus_outside gone (Some f) = if list_any (nat_eq f) gone then None else Some f

-- the focused node, or none where it is n or below it
abbrev pub focus_without : Document → ℕ → Option ℕ → Option ℕ
focus_without d n focus = focus_outside (subtree d n) focus

-- without n and all that is below it
abbrev pub removed : Document → ℕ → Document
removed d n = record {
  nodes = filter (λ e. not (is_within d n e.0)) (unhung n d.nodes);
  focus = focus_without d n d.focus;
  used = d.used;
}

-- with n hung nowhere
abbrev pub unhung_from : Document → ℕ → Document
unhung_from d n = record d { nodes = unhung n d.nodes }

-- n, with all that is below it, before a child of `into` or as its last child
abbrev pub moved : Document → ℕ → ℕ → Option ℕ → Document
moved d n into before = record d { nodes = with_children (unhung_from d n) into (placed before n (children (unhung_from d n) into)) }

-- the frame of a new element
abbrev pub no_frame : Rect
no_frame = record { x = pos 0; y = pos 0; w = pos 0; h = pos 0 }

-- the document after an edit that nothing refuses
abbrev pub edited : Document → Edit → Document
edited d (InsertElement id into before tag attrs) = inserted d id into before (Element tag attrs no_frame)
edited d (InsertText id into before chars) = inserted d id into before (Words chars [])
edited d (Chars id chars) = with_body d id (with_chars chars (body d id))
edited d (Remove id) = removed d id
edited d (Move id into before) = moved d id into before
edited d (Set id name value) = with_body d id (with_attr name value (body d id))
edited d (Unset id name) = with_body d id (without_attr name (body d id))
edited d (SetRuns id runs) = with_body d id (with_runs runs (body d id))
edited d (Frame id rect) = with_body d id (with_frame rect (body d id))
edited d (Focus id) = with_focus d id

-- the root alone (HTML, section 4.1.1: the html element)
abbrev pub new_document : Document
new_document = record { nodes = (root, record { body = Element (codes "html") [] no_frame; children = [] }) ∷ []; focus = None; used = [] }
