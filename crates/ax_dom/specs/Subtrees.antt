-- A node and what is below it.
use Rattle.std.specs.Prelude.{ℕ, Bool, nat_eq, List}
use Rattle.std.specs.List.{list_any}
use Rattle.ax_base.specs.Document.{Document, from_children, preorder}

-- a node and all that is below it, in tree order (DOM, section 1.1: inclusive descendants)
abbrev pub subtree : Document → ℕ → List ℕ
subtree d n = from_children preorder d n

-- whether m is n or below it
abbrev pub is_within : Document → ℕ → ℕ → Bool
is_within d n m = list_any (nat_eq m) (subtree d n)
