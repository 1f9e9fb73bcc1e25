-- Nodes that were copied from others.
use Rattle.std.specs.Prelude.{◌≡◌, ℕ, nat_eq, if◌then◌else◌, List, Option, Some, None}
use Rattle.std.specs.List.{list_any}
use Rattle.std.specs.List.Sorted.{IsStrictlyIncreasing}
use Rattle.std.specs.Ordering.{nat_cmp}
use Rattle.std.specs.Map.{keys_of}
use Rattle.std.specs.BTreeMap.{insert_entry}
use Rattle.ax_dom.specs.declared.cell.NodeEntry.{NodeEntry}
use Rattle.ax_dom.specs.NodeMaps.{entry_at}

-- entries with one more at an id, if it is there
abbrev pub with_entry : List (ℕ × NodeEntry) → ℕ → Option NodeEntry → List (ℕ × NodeEntry)
with_entry es id None = es
with_entry es id (Some s) = insert_entry nat_cmp es id s

-- the copies are by rising id, and are those of the entries that some ids have
pub record AreCopiedAt (es copies : List (ℕ × NodeEntry)) (some : List ℕ) : Type 0 where
  pub rising : IsStrictlyIncreasing (keys_of copies)
  pub found : (q : ℕ) → entry_at copies q ≡ (if list_any (nat_eq q) some then entry_at es q else None)
