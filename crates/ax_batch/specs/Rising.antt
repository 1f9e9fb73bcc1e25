-- Entries in any order, by rising keys.
use Rattle.std.specs.Prelude.{ℕ, List, [], ◌∷◌}
use Rattle.std.specs.Ordering.{nat_cmp}
use Rattle.std.specs.BTreeMap.{insert_entry}

-- the entries, by rising keys
unfoldable pub by_rising : {X : Type 0} → List (ℕ × X) → List (ℕ × X)
by_rising [] = []
by_rising (e ∷ es) = insert_entry nat_cmp (by_rising es) e.0 e.1
