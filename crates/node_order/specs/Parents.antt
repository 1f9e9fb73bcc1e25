-- The parents of some nodes, and nodes that are put in order by them.
use Rattle.std.specs.Prelude.{◌≡◌, ◌<◌, ℕ, true, if◌then◌else◌, List, Option, None}
use Rattle.std.specs.Ordering.{nat_cmp}
use Rattle.std.specs.Map.{lookup}
use Rattle.std.specs.BTreeMap.{is_at}
use Rattle.std.specs.List.{list_any}
use Rattle.ax_base.specs.Document.{Document, parent, has, depth, IsChild}
use Rattle.ax_base.specs.Trees.{IsTree}
use Rattle.ax_dom.specs.Among.{is_in, IsClosedUp}
use Rattle.node_order.specs.Orders.{IsFromAbove}

-- a document, and some of its nodes
pub record SomeNodes : Type 0 where
  pub document : Document
  pub nodes : List ℕ

-- what is found for a node
abbrev pub parent_at : List (ℕ × ℕ) → ℕ → Option ℕ
parent_at found n = lookup (is_at (nat_cmp n)) found

-- The parent of each of some nodes is found, and of no other node.
abbrev pub AreParentsOf : Document → List ℕ → List (ℕ × ℕ) → Type 0
AreParentsOf d ns found = (n : ℕ) → parent_at found n ≡ (if is_in ns n then parent d n else None)

-- Some nodes of a document, with each its parent; and the parents are found.
pub record AreHung (d : Document) (ns : List ℕ) (found : List (ℕ × ℕ)) : Type 0 where
  pub tree : IsTree d
  pub known : (n : ℕ) → is_in ns n ≡ true → has d n ≡ true
  pub closed : IsClosedUp d ns
  pub parents : AreParentsOf d ns found

-- Nodes in an order from above that are all among some.
pub record ArePlaced (d : Document) (ns placed : List ℕ) : Type 0 where
  pub order : IsFromAbove d placed
  pub only : (n : ℕ) → is_in placed n ≡ true → is_in ns n ≡ true

-- Marks say which nodes are placed.
abbrev pub TellPlaced : List ℕ → List ℕ → Type 0
TellPlaced marks placed = (n : ℕ) → list_any (is_at (nat_cmp n)) marks ≡ is_in placed n

-- A node hangs on another, which is among some and higher.
pub record HangsOn (d : Document) (ns : List ℕ) (n p : ℕ) : Type 0 where
  pub child : IsChild d p n
  pub among : is_in ns p ≡ true
  pub higher : depth d p < depth d n

-- A node of a document, which is a tree.
pub record IsOneOf (d : Document) (n : ℕ) : Type 0 where
  pub tree : IsTree d
  pub known : has d n ≡ true
