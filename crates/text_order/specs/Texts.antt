-- The text objects of a tree, in preorder (this project's own).
use Rattle.std.specs.Prelude.{ℕ, Bool, List, filter, length, reverse, Option, Some, None, is_some, if◌then◌else◌}
use Rattle.ax_record.specs.Tree.{Tree, preorder}
use Rattle.ax_record.specs.Orders.{wanted_at, before, after}

-- whether an id is that of a text object
abbrev pub is_text : Tree → ℕ → Bool
is_text t n = wanted_at t (λ r. is_some r.text) n

-- the text objects in preorder
abbrev pub texts : Tree → List ℕ
texts t = filter (is_text t) (preorder t)

-- those after an object, in preorder
abbrev pub later_texts : Tree → ℕ → List ℕ
later_texts t n = filter (is_text t) (after n (preorder t))

-- those before an object, in the reverse of the preorder
abbrev pub earlier_texts : Tree → ℕ → List ℕ
earlier_texts t n = filter (is_text t) (reverse (before n (preorder t)))

-- how many text objects stand before one of them
abbrev pub place : Tree → ℕ → ℕ
place t n = length (before n (texts t))

-- the place of a text object among the text objects, counted from 0; none of what is no text object of the tree
abbrev pub place_of : Tree → ℕ → Option ℕ
place_of t n = if is_text t n then Some (place t n) else None
