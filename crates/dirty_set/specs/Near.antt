-- The nodes at, above and below some.
use Rattle.std.specs.Prelude.{◌≡◌, ℕ, true, List, Contains}
use Rattle.ax_base.specs.Document.{Document, has, lineage}
use Rattle.ax_dom.specs.Subtrees.{subtree}
use Rattle.dirty_set.specs.NodeSets.{mem}

-- a node is above or at one of some that are there
abbrev pub ComesFrom : Document → List ℕ → ℕ → Type 0
ComesFrom d some n = (q : ℕ) × Contains some q × (has d q ≡ true) × Contains (lineage d q) n

-- a node is below or at one of some that are there
abbrev pub LiesBelow : Document → List ℕ → ℕ → Type 0
LiesBelow d some n = (r : ℕ) × Contains some r × (has d r ≡ true) × Contains (subtree d r) n

-- all of some that are there are in the set
abbrev pub HasKnownOf : Document → List ℕ → List ℕ → Type 0
HasKnownOf d some ks = (n : ℕ) → Contains some n → has d n ≡ true → mem ks n ≡ true

-- all that is below some that are there is in the set
abbrev pub HasBelowOf : Document → List ℕ → List ℕ → Type 0
HasBelowOf d some ks = (n : ℕ) → LiesBelow d some n → mem ks n ≡ true
