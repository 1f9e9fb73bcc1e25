-- Records that are renewed at some ids.
use Rattle.std.specs.Prelude.{ℕ, List, [], ◌∷◌, Option, None, Some}
use Rattle.std.specs.List.Sorted.{IsStrictlyIncreasing}
use Rattle.std.specs.Ordering.{nat_cmp}
use Rattle.std.specs.Map.{remove_entry}
use Rattle.std.specs.BTreeMap.{is_at, insert_entry}
use Rattle.ax_record.specs.declared.record.Record.{Record}
use Rattle.ax_record.specs.Tree.{Tree, entry_at}
use Rattle.ax_record.specs.ObjectTrees.{IsObjectTree}

-- entries with a record at an id, or with none there
abbrev pub with_at : List (ℕ × Record) → ℕ → Option Record → List (ℕ × Record)
with_at es n None = remove_entry (is_at (nat_cmp n)) es
with_at es n (Some r) = insert_entry nat_cmp es n r

-- entries that have at some ids what others have there
abbrev pub renewed : List (ℕ × Record) → List (ℕ × Record) → List ℕ → List (ℕ × Record)
renewed es fresh [] = es
renewed es fresh (n ∷ ns) = renewed (with_at es n (entry_at fresh n)) fresh ns

-- a tree, the tree that it becomes, and the ids at which it may have another record then
pub record TwoTrees : Type 0 where
  pub before : Tree
  pub after : Tree
  pub places : List ℕ

-- the tree with other records at some ids, and a focus
abbrev pub renewed_tree : Tree → List (ℕ × Record) → List ℕ → Option ℕ → Tree
renewed_tree t fresh ns focus = record { entries = renewed t.entries fresh ns; focus = focus }

-- The ids rise, and both trees hang together.
pub record IsRenewed (kept : Tree) (fresh : List (ℕ × Record)) (ns : List ℕ) (focus : Option ℕ) : Type 0 where
  pub rising : IsStrictlyIncreasing ns
  pub was : IsObjectTree kept
  pub becomes : IsObjectTree (renewed_tree kept fresh ns focus)
