-- What marks can reach in a document.
use Rattle.std.specs.Prelude.{ℕ, Bool, false, ◌||◌, ◌&&◌, ◌+◌, nat_eq, codes, filter, length, sum_by, List, [], ◌++◌}
use Rattle.std.specs.List.{list_any}
use Rattle.std.specs.Option.{option_map_or}
use Rattle.ax_base.specs.declared.body.Body.{Body}
use Rattle.ax_base.specs.Characters.{Chars}
use Rattle.ax_base.specs.Document.{Document, body, ids, children, lineage, attr, has_id}
use Rattle.ax_base.specs.AccessibleNames.{is_label_for}
use Rattle.ax_dom.specs.Among.{is_in, has_within}
use Rattle.dom_ids.specs.References.{names_text, reference_tokens}

-- marks: nodes, roots of what changed as a whole, and texts by which nodes refer to nodes
pub record Marked : Type 0 where
  pub nodes : List ℕ
  pub roots : List ℕ
  pub texts : List Chars

-- the marks that three lists are
abbrev pub marks_of : List ℕ → List ℕ → List Chars → Marked
marks_of nodes roots texts = record { nodes = nodes; roots = roots; texts = texts }

-- no marks
abbrev pub no_marks : Marked
no_marks = record { nodes = []; roots = []; texts = [] }

-- the marks of both
abbrev pub joined_marks : Marked → Marked → Marked
joined_marks a b = record { nodes = a.nodes ++ b.nodes; roots = a.roots ++ b.roots; texts = a.texts ++ b.texts }

-- whether a node is among some, or at or below one of the roots
abbrev pub is_at_marks : List ℕ → List ℕ → Document → ℕ → Bool
is_at_marks nodes roots d n = is_in nodes n || list_any (is_in roots) (lineage d n)

-- the nodes at which, or below which, is one of some nodes or what is at or below one of the roots, by rising id
abbrev pub nodes_near : List ℕ → List ℕ → Document → List ℕ
nodes_near nodes roots d = filter (has_within d (is_at_marks nodes roots d)) (ids d)

-- whether a node has the focus
abbrev pub is_focus : Document → ℕ → Bool
is_focus d n = option_map_or (nat_eq n) d.focus false

-- whether a node is marked, at or below a marked root, or focused
abbrev pub is_source : Document → Marked → ℕ → Bool
is_source d m n = is_at_marks m.nodes m.roots d n || is_focus d n

-- whether an element has the text as its `id`, refers to it, or is a `label` for it
abbrev pub ties_to : Body → Chars → Bool
ties_to b x = has_id x b || (names_text x b || is_label_for x b)

-- whether a node is a source or tied to a marked text
abbrev pub is_tied : Document → Marked → ℕ → Bool
is_tied d m n = is_source d m n || list_any (ties_to (body d n)) m.texts

-- whether one body is a `label` for the other
abbrev pub is_label_of : Body → Body → Bool
is_label_of l b = option_map_or (λ x. is_label_for x l) (attr (codes "id") b) false

-- whether a node is a `label` for a node that is tied, or has a tied node below it
abbrev pub is_label_of_tied : Document → Marked → ℕ → Bool
is_label_of_tied d m n = list_any (λ v. has_within d (is_tied d m) v && is_label_of (body d n) (body d v)) (ids d)

abbrev pub is_touched : Document → Marked → ℕ → Bool
is_touched d m n = is_tied d m n || is_label_of_tied d m n

-- whether marks reach a node
abbrev pub is_reached : Document → Marked → ℕ → Bool
is_reached d m n = has_within d (is_touched d m) n

-- the nodes that marks reach, by rising id
abbrev pub reach : Document → Marked → List ℕ
reach d m = filter (is_reached d m) (ids d)

-- what a node weighs
abbrev pub weight_of : Document → ℕ → ℕ
weight_of d n = 1 + length (children d n) + reference_tokens (body d n)

-- what marks weigh
abbrev pub weight : Document → Marked → ℕ
weight d m = sum_by (weight_of d) (reach d m)
