-- The document that some cells stand for.
use Rattle.std.specs.Prelude.{◌≡◌, ◌≢◌, ℕ, true, if◌then◌else◌, List, map, Option, Some, None}
use Rattle.std.specs.Ordering.{nat_cmp}
use Rattle.std.specs.Map.{lookup}
use Rattle.std.specs.BTreeMap.{is_at}
use Rattle.ax_base.specs.Document.{Document, Node, parent, depth, body, has, root}
use Rattle.ax_base.specs.Trees.{IsTree}
use Rattle.ax_dom.specs.declared.cell.Cell.{Cell}
use Rattle.ax_dom.specs.declared.cell.NodeEntry.{NodeEntry}
use Rattle.ax_dom.specs.Used.{is_used}

-- a node with its place
abbrev pub cell_of : Document → ℕ → Cell
cell_of d n = record { id = n; parent = parent d n; depth = depth d n; body = body d n }

-- the same, if the document has it
abbrev pub cell_at : Document → ℕ → Option Cell
cell_at d n = if has d n then Some (cell_of d n) else None

-- the entry of an id
abbrev pub entry_at : List (ℕ × NodeEntry) → ℕ → Option NodeEntry
entry_at es n = lookup (is_at (nat_cmp n)) es

-- the node that an entry stands for
abbrev pub node_of : NodeEntry → Node
node_of s = record { body = s.cell.body; children = s.children }

-- the nodes that some entries stand for
abbrev pub nodes_of : List (ℕ × NodeEntry) → List (ℕ × Node)
nodes_of es = map (λ e. (e.0, node_of e.1)) es

-- the document that entries, the focused node and the ids ever inserted stand for
abbrev pub document_of : List (ℕ × NodeEntry) → Option ℕ → List ℕ → Document
document_of es focus used = record { nodes = nodes_of es; focus = focus; used = used }

-- The cells are those of the document, which is a tree, and each node but the root was inserted.
pub record IsKept (d : Document) (es : List (ℕ × NodeEntry)) : Type 0 where
  pub tree : IsTree d
  pub cells : (n : ℕ) (s : NodeEntry) → entry_at es n ≡ Some s → s.cell ≡ cell_of d n
  pub marked : (n : ℕ) → has d n ≡ true → n ≢ root → is_used d n ≡ true
