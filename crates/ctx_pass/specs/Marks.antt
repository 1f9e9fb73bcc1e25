-- Marks of nodes.
use Rattle.std.specs.Prelude.{ℕ, Bool, List}
use Rattle.std.specs.List.{list_any}
use Rattle.std.specs.Ordering.{nat_cmp}
use Rattle.std.specs.BTreeMap.{is_at}

-- whether a node has a mark
abbrev pub is_marked : List ℕ → ℕ → Bool
is_marked marks n = list_any (is_at (nat_cmp n)) marks
