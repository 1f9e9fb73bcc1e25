-- A loop over nodes in an order from above, from the last to the first.
use Rattle.std.proofs.Common.{◌≡◌, ℕ, ◌+◌, ◌-◌, ◌<◌, List, length, get_or, true, false, reverse, subst, ◌∙◌, arith}
use Rattle.std.proofs.lemmas.List.{get_or-reverse, length-reverse}
use Rattle.ax_base.specs.Document.{Document, has, IsChild}
use Rattle.ax_base.specs.Trees.{IsTree}
use Rattle.ax_dom.specs.Among.{is_in}
use Rattle.node_order.specs.Orders.{IsFromAbove, AreRightFrom}
use Rattle.node_order.proofs.Passing.{from_begun, from_more, from_all, children_right}

module _ (d : Document) (ns : List ℕ) where
  -- Something is right of each node that is none of some, or one of the last few of these.
  abbrev pub AreRightBehind : ℕ → (ℕ → Type 0) → Type 0
  AreRightBehind k P = AreRightFrom d ns (length ns - k) P

  pub behind_begun : (P : ℕ → Type 0) → ((n : ℕ) → has d n ≡ true → is_in ns n ≡ false → P n) → AreRightBehind 0 P
  behind_begun P others = from_begun d ns P (length ns - 0) (omega arith) others

  pub behind_all : (P : ℕ → Type 0) (k : ℕ) → k ≡ length (reverse ns) → AreRightBehind k P → (n : ℕ) → has d n ≡ true → P n
  behind_all P k end right = let same = length-reverse ns in let none : length ns - k ≡ 0 = omega arith in from_all d ns P (subst (λ i. AreRightFrom d ns i P) none right)

  -- At the node before those that are done:
  module _ (k x : ℕ) (low : k < length (reverse ns)) (is : x ≡ get_or (reverse ns) k x) where
    abbrev place : ℕ
    place = length ns - 1 - k

    left : k < length ns
    left = let same = length-reverse ns in omega arith

    is_low : place < length ns
    is_low = let few = left in omega arith

    is_here : x ≡ get_or ns place x
    is_here = is ∙ get_or-reverse ns k x left

    is_next : length ns - k ≡ place + 1
    is_next = let few = left in omega arith

    pub behind_more : (P Q : ℕ → Type 0) → AreRightBehind k P → ((n : ℕ) → P n → Q n) → Q x → AreRightBehind (k + 1) Q
    behind_more P Q right keeps here =
        let few = left in
        let one : place ≡ length ns - (k + 1) = omega arith in
        subst (λ i. AreRightFrom d ns i Q) one (from_more d ns P Q place x is_low is_here (subst (λ i. AreRightFrom d ns i P) is_next right) keeps here)

    pub child_behind : (t : IsTree d) (order : IsFromAbove d ns) (P : ℕ → Type 0) → AreRightBehind k P → (c : ℕ) → IsChild d x c → P c
    child_behind t order P right c child = children_right d ns t order P place x c is_low is_here (subst (λ i. AreRightFrom d ns i P) is_next right) child
