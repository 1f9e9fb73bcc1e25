-- The objects of which a record is made anew.
use Rattle.std.specs.Prelude.{◌≡◌, ◌≤◌, ℕ, Bool, not, false, length, List, [], ◌∷◌, ◌++◌, if◌then◌else◌, flat_map, Contains}
use Rattle.std.specs.Option.{option_map_or}
use Rattle.ax_base.specs.Document.{Document}
use Rattle.ax_base.specs.Kids.{kids, objects}
use Rattle.ax_dom.specs.Among.{is_in}
use Rattle.ax_fresh.specs.Contents.{same_record}
use Rattle.ax_record.specs.declared.record.Record.{Record}
use Rattle.ax_record.specs.Tree.{Tree, record_at}
use Rattle.ax_record.specs.Records.{is_object, record_of}
use Rattle.node_order.specs.Orders.{IsFromAbove}
use Rattle.tree_diff.specs.Candidates.{moved_kids}

-- whether a tree has a record at an id
abbrev pub has_record : Tree → ℕ → Record → Bool
has_record before n r = option_map_or (λ (was : Record). same_record was r) (record_at before n) false

-- whether a tree has the record that a node of a document has as an object
abbrev pub is_same : Tree → Document → ℕ → Bool
is_same before d n = has_record before n (record_of d n)

-- a node, where it is an object whose record the tree before had not
abbrev pub fresh_at : Tree → Document → ℕ → List ℕ
fresh_at before d n = if is_object d n then (if not (is_same before d n) then n ∷ [] else []) else []

-- a node, where it is an object whose record the tree before had
abbrev pub same_at : Tree → Document → ℕ → List ℕ
same_at before d n = if is_object d n then (if is_same before d n then n ∷ [] else []) else []

-- the objects whose record stays, of some nodes
abbrev pub staying : Tree → Document → List ℕ → List ℕ
staying before d down = flat_map (same_at before d) down

-- the objects of which a record is made: those among some nodes, which are listed from above, that have not the record that they had, and those that hang on one of these nodes but hung elsewhere before
abbrev pub remade : Tree → Document → List ℕ → List ℕ → List ℕ
remade before d ns down = flat_map (fresh_at before d) down ++ flat_map (moved_kids before d ns) ns

-- Nodes in an order from above are some nodes, and no more.
pub record IsOrderOf (d : Document) (ns down : List ℕ) : Type 0 where
  pub order : IsFromAbove d down
  pub same : (n : ℕ) → is_in down n ≡ is_in ns n
  pub few : length down ≤ length ns

-- each of some hangs on n, which is an object
abbrev pub AreHungOn : Document → ℕ → List ℕ → Type 0
AreHungOn d n ks = Contains (objects d) n × ((k : ℕ) → Contains ks k → Contains (kids d n) k)

-- none of some is among others
abbrev pub AreNotAmong : List ℕ → List ℕ → Type 0
AreNotAmong ns ks = (k : ℕ) → Contains ks k → is_in ns k ≡ false
