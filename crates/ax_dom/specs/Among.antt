-- Nodes among some.
use Rattle.std.specs.Prelude.{◌≡◌, ℕ, Bool, true, nat_eq, List}
use Rattle.std.specs.List.{list_any}
use Rattle.ax_base.specs.Document.{Document, IsChild}
use Rattle.ax_dom.specs.Subtrees.{subtree}

-- whether a node is among some
abbrev pub is_in : List ℕ → ℕ → Bool
is_in ns n = list_any (nat_eq n) ns

-- with each node its parent is among them
abbrev pub IsClosedUp : Document → List ℕ → Type 0
IsClosedUp d ns = (p c : ℕ) → IsChild d p c → is_in ns c ≡ true → is_in ns p ≡ true

-- whether the node or something below it passes
abbrev pub has_within : Document → (ℕ → Bool) → ℕ → Bool
has_within d test n = list_any test (subtree d n)
