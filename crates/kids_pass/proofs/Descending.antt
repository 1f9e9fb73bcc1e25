-- A loop over nodes from the last to the first.
use Rattle.std.proofs.Common.{◌≡◌, ℕ, ◌+◌, ◌<◌, List, length, get_or, subst}
use Rattle.ax_base.specs.Document.{Document, IsChild}
use Rattle.ax_base.specs.Trees.{IsTree}
use Rattle.node_order.specs.Orders.{IsFromAbove, AreRightFrom}
use Rattle.node_order.proofs.Passing.{from_more, children_right}

module _ (d : Document) (ns : List ℕ) (P : ℕ → Type 0) (i k x : ℕ) (low : i < length ns) (is : x ≡ get_or ns i x) (next : k ≡ i + 1) (right : AreRightFrom d ns k P) where
  -- one more
  pub one_down : (Q : ℕ → Type 0) → ((n : ℕ) → P n → Q n) → Q x → AreRightFrom d ns i Q
  one_down Q keeps here = from_more d ns P Q i x low is (subst (λ j. AreRightFrom d ns j P) next right) keeps here

  -- the children of the node at hand are right
  pub children_below : IsTree d → IsFromAbove d ns → (c : ℕ) → IsChild d x c → P c
  children_below t order c child = children_right d ns t order P i x c low is (subst (λ j. AreRightFrom d ns j P) next right) child
