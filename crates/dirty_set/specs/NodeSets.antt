-- Sets of nodes, as rising lists of their numbers.
use Rattle.std.specs.Prelude.{◌≡◌, ℕ, Bool, true, ◌<◌, ◌⊎◌, List, Contains}
use Rattle.std.specs.List.{list_any}
use Rattle.std.specs.Ordering.{nat_cmp}
use Rattle.std.specs.BTreeMap.{is_at}
use Rattle.ax_base.specs.Document.{Document, IsChild}
use Rattle.ax_base.specs.Trees.{IsTree}

-- whether a node is in a set
abbrev pub mem : List ℕ → ℕ → Bool
mem ks n = list_any (is_at (nat_cmp n)) ks

-- with each node its parent is in the set
abbrev pub IsUpClosed : Document → List ℕ → Type 0
IsUpClosed d ks = (p c : ℕ) → IsChild d p c → mem ks c ≡ true → mem ks p ≡ true

-- with each node its children are in the set
abbrev pub IsDownClosed : Document → List ℕ → Type 0
IsDownClosed d ks = (p c : ℕ) → IsChild d p c → mem ks p ≡ true → mem ks c ≡ true

-- with each node its children are in the set, unless the node is higher than another
abbrev pub IsDownClosedBelow : Document → List ℕ → ℕ → Type 0
IsDownClosedBelow d ks id = (t : IsTree d) (p c : ℕ) → IsChild d p c → mem ks p ≡ true → (mem ks c ≡ true) ⊎ (t.level p < t.level id)

-- nothing is lost
abbrev pub KeepsAll : List ℕ → List ℕ → Type 0
KeepsAll old new = (n : ℕ) → mem old n ≡ true → mem new n ≡ true

-- nothing but some is added
abbrev pub OnlyAdds : List ℕ → List ℕ → List ℕ → Type 0
OnlyAdds old new some = (n : ℕ) → mem new n ≡ true → (mem old n ≡ true) ⊎ Contains some n

-- all of some are in the set
abbrev pub HasAllOf : List ℕ → List ℕ → Type 0
HasAllOf ks some = (n : ℕ) → Contains some n → mem ks n ≡ true
