-- The ids at which trees can differ.
use Rattle.std.specs.Prelude.{◌≡◌, ◌⊎◌, ℕ, Bool, not, ◌&&◌, nat_eq, filter, List, ◌++◌, flat_map, Some, Contains}
use Rattle.std.specs.Option.{option_eq}
use Rattle.std.specs.List.Sorted.{IsStrictlyIncreasing}
use Rattle.ax_base.specs.Document.{Document}
use Rattle.ax_dom.specs.Among.{is_in}
use Rattle.ax_record.specs.Tree.{Tree, record_at, kids_of, parent_of}
use Rattle.ax_record.specs.Records.{tree}
use Rattle.tree_diff.specs.Lost.{lost}

-- whether k hung on n
abbrev pub hung_on : Tree → ℕ → ℕ → Bool
hung_on before n k = option_eq nat_eq (parent_of before k) (Some n)

-- whether a kid of an object hung elsewhere before, or nowhere, and is not among some nodes
abbrev pub is_moved : Tree → List ℕ → ℕ → ℕ → Bool
is_moved before ns n k = not (hung_on before n k) && not (is_in ns k)

-- the kids of an object that hung elsewhere before, or nowhere, and are not among some nodes
abbrev pub moved_kids : Tree → Document → List ℕ → ℕ → List ℕ
moved_kids before now ns n = filter (is_moved before ns n) (kids_of (tree now) n)

-- the ids at which the tree of a document can differ from the one before, where only some nodes changed: these, the kids of these that hung elsewhere before, and what is gone from below these
abbrev pub candidates : Tree → Document → List ℕ → List ℕ
candidates before now ns = ns ++ (flat_map (moved_kids before now ns) ns ++ flat_map (lost before now) ns)

-- A list has the numbers of another, rising, each once.
pub record IsSortedFrom (ns sorted : List ℕ) : Type 0 where
  pub rising : IsStrictlyIncreasing sorted
  pub all : (n : ℕ) → Contains ns n → Contains sorted n
  pub only : (n : ℕ) → Contains sorted n → Contains ns n

-- The ids rise, and have each at which two trees have not the same.
pub record HaveAllDiffering (a b : Tree) (ns : List ℕ) : Type 0 where
  pub rising : IsStrictlyIncreasing ns
  pub all : (n : ℕ) → Contains ns n ⊎ (record_at a n ≡ record_at b n)
