-- Climbs from the nodes that a rule picks.
use Rattle.std.specs.Prelude.{◌≡◌, ℕ, true, List, Contains, ◌⊎◌}
use Rattle.std.specs.List.{list_any}
use Rattle.ax_base.specs.Characters.{Chars}
use Rattle.ax_base.specs.Document.{Document, body, has, lineage}
use Rattle.dirty_set.specs.Reach.{ties_to, is_label_of, is_focus}
use Rattle.dirty_set.specs.NodeSets.{mem}

-- each node that the rule picks is in the set
abbrev pub HasAllThat : Document → (ℕ → Type 0) → List ℕ → Type 0
HasAllThat d P ks = (n : ℕ) → has d n ≡ true → P n → mem ks n ≡ true

-- what is new in the set is a node that the rule picks, or above one
abbrev pub OnlyFrom : Document → (ℕ → Type 0) → List ℕ → List ℕ → Type 0
OnlyFrom d P old new = (n : ℕ) → mem new n ≡ true → (mem old n ≡ true) ⊎ ((q : ℕ) × (has d q ≡ true) × P q × Contains (lineage d q) n)

-- a node is tied to a text
abbrev pub IsTiedTo : Document → Chars → ℕ → Type 0
IsTiedTo d x n = ties_to (body d n) x ≡ true

-- a node is tied to one of some texts
abbrev pub IsTiedToSome : Document → List Chars → ℕ → Type 0
IsTiedToSome d xs n = list_any (ties_to (body d n)) xs ≡ true

-- a node is a label of another
abbrev pub IsLabelOf : Document → ℕ → ℕ → Type 0
IsLabelOf d v n = is_label_of (body d n) (body d v) ≡ true

-- a node is a label of one of some
abbrev pub IsLabelOfSome : Document → List ℕ → ℕ → Type 0
IsLabelOfSome d vs n = (v : ℕ) × Contains vs v × IsLabelOf d v n

-- a node has the focus
abbrev pub IsFocused : Document → ℕ → Type 0
IsFocused d n = is_focus d n ≡ true
