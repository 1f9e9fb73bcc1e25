-- Laws of the objects of a tree.
use Rattle.std.proofs.Common.{◌≡◌, ◌⊎◌, inl, inr, ℕ, zero, suc, ◌-◌, ◌<◌, ◌≤◌, List, [], ◌∷◌, Contains, Bool, true, false, not, cond, Some, refl, sym, ap, subst, ◌∙◌, arith}
use Rattle.std.specs.Prelude.{find, nat_eq}
use Rattle.std.specs.List.{flat_map, list_any}
use Rattle.std.proofs.lemmas.Bool.{false≢true}
use Rattle.std.specs.Cmp.{nat_eq_equiv}
use Rattle.std.proofs.lemmas.Map.Views.{list_any-from_Contains}
use Rattle.std.proofs.lemmas.Bool.{eqb-true}
use Rattle.std.proofs.lemmas.Map.Views.{Contains-from_any}
use Rattle.ax_base.specs.Document.{Document, has, spot, children, lineage, ancestors, root, IsChild}
use Rattle.ax_base.specs.Trees.{IsTree, HasNoRepeats}
use Rattle.ax_base.specs.Roles.{ignored}
use Rattle.ax_base.specs.Context.{is_out}
use Rattle.ax_base.specs.Kids.{kids, taken, objects}
use Rattle.ax_base.proofs.Membership.{Contains-head, Contains-tail}
use Rattle.ax_base.proofs.Places.{has_children, lineage-child}
use Rattle.ax_base.proofs.KidsLaws.{kids-children, ancestors-child, kids_deeper, kids_fall, lineage-ancestors}
use Rattle.ax_base.proofs.Joins.{in_flat_map, no_repeats-flat_map}
use Rattle.ax_base.proofs.Reached.{reached, reached-below, reached_self, reached_more, reached_cases, reached_on, by_reached}

-- an object, and what is below it
abbrev pub branch : Document → ℕ → List ℕ
branch d n = reached (kids d) 64 n

-- the first that passes, where one is known and no other one of the list passes
pub find_one : (test : ℕ → Bool) (xs : List ℕ) (p : ℕ) → Contains xs p → test p ≡ true → ((q : ℕ) → Contains xs q → test q ≡ true → q ≡ p) → find test xs ≡ Some p
find_one test [] p here passes only = absurd (omega arith)
find_one test (x ∷ xs) p here passes only = elim (test x) as (λ b. test x ≡ b → cond b (Some x) (find test xs) ≡ Some p) [
  | true ↦ λ e. ap (λ y. Some y) (only x (Contains-head x xs) e)
  | false ↦ λ e. find_one test xs p (rest here e) passes (λ q among. only q (Contains-tail x q xs among))
] refl
  where
    rest : Contains (x ∷ xs) p → test x ≡ false → Contains xs p
    rest (zero, lt, is) e = absurd (false≢true (sym e ∙ ap test is ∙ passes))
    rest (suc k, lt, is) e = (k, omega arith, is)

same_one : (p q : ℕ) → Some p ≡ Some q → p ≡ q
same_one p q e = cc

module _ (d : Document) (t : IsTree d) where
  -- What holds of each child that is shown, and goes on to what is above from a child that is ignored, holds of each kid.
  module _ (P : ℕ → ℕ → Type 0)
      (here : (n c : ℕ) → IsChild d n c → is_out d c ≡ false → ignored (spot d c) ≡ false → P n c)
      (past : (n c k : ℕ) → IsChild d n c → is_out d c ≡ false → ignored (spot d c) ≡ true → Contains (kids d c) k → P c k → P n k) where
    by_taken : (n c k : ℕ) → IsChild d n c → (Contains (kids d c) k → P c k) → Contains (taken d c) k → P n k
    by_taken n c k child below inside = go (is_out d c) (ignored (spot d c)) refl refl inside
      where
        go : (x y : Bool) → is_out d c ≡ x → ignored (spot d c) ≡ y → Contains (cond x [] (cond y (kids d c) (c ∷ []))) k → P n k
        go true y pruned skip inside = absurd (omega arith)
        go false true pruned skip inside = past n c k child pruned skip inside (below inside)
        go false false pruned skip (zero, low, is) = subst (P n) is (here n c child pruned skip)
        go false false pruned skip (suc j, low, is) = absurd (omega arith)

    by_kids_within : (levels n k : ℕ) → 64 - t.level n ≤ levels → Contains (kids d n) k → P n k
    by_kids_within zero n k fits inside =
        let part = in_flat_map (taken d) (children d n) k (subst (λ l. Contains l k) (kids-children d t n) inside) in
        let e = t.deeper n part.0 part.1 in let s = t.shallow part.0 in absurd (omega arith)
    by_kids_within (suc levels) n k fits inside =
        let part = in_flat_map (taken d) (children d n) k (subst (λ l. Contains l k) (kids-children d t n) inside) in
        let e = t.deeper n part.0 part.1 in
        by_taken n part.0 k part.1 (λ more. by_kids_within levels part.0 k (omega arith) more) part.2

    pub by_kids : (n k : ℕ) → Contains (kids d n) k → P n k
    by_kids n k inside = by_kids_within 64 n k (omega arith) inside

  -- a kid is a node
  pub kids_known : (n k : ℕ) → Contains (kids d n) k → has d k ≡ true
  kids_known = by_kids (λ n k. has d k ≡ true) (λ n c child pruned skip. t.known n c child) (λ n c k child pruned skip inside more. more)

  -- no kid is ignored
  pub kids_shown : (n k : ℕ) → Contains (kids d n) k → ignored (spot d k) ≡ false
  kids_shown = by_kids (λ n k. ignored (spot d k) ≡ false) (λ n c child pruned skip. skip) (λ n c k child pruned skip inside more. more)

  -- no kid is out
  pub kids_visible : (n k : ℕ) → Contains (kids d n) k → is_out d k ≡ false
  kids_visible = by_kids (λ n k. is_out d k ≡ false) (λ n c child pruned skip. pruned) (λ n c k child pruned skip inside more. more)

  -- what has kids is a node
  pub has_kids : (n k : ℕ) → Contains (kids d n) k → has d n ≡ true
  has_kids = by_kids (λ n k. has d n ≡ true) (λ n c child pruned skip. has_children d n c child) (λ n c k child pruned skip inside more. has_children d n c child)

  abbrev shown : ℕ → Bool
  shown n = not (ignored (spot d n))

  -- the nearest shown ancestor of a kid is that of what it is a kid of, or that itself
  nearest_shown : (n k : ℕ) → Contains (kids d n) k → find shown (ancestors d k) ≡ find shown (lineage d n)
  nearest_shown = by_kids (λ n k. find shown (ancestors d k) ≡ find shown (lineage d n))
      (λ n c child pruned skip. ap (find shown) (ancestors-child d t n c child))
      (λ n c k child pruned skip inside more. more ∙ ap (find shown) (lineage-child d t n c child) ∙ ap (λ b. cond (not b) (Some c) (find shown (lineage d n))) skip)

  nearest_is : (n : ℕ) → has d n ≡ true → ignored (spot d n) ≡ false → find shown (lineage d n) ≡ Some n
  nearest_is n there skip = ap (find shown) (lineage-ancestors d t n there) ∙ ap (λ b. cond (not b) (Some n) (find shown (ancestors d n))) skip

  -- a kid hangs on one shown node only
  pub one_holder : (p q k : ℕ) → ignored (spot d p) ≡ false → ignored (spot d q) ≡ false → Contains (kids d p) k → Contains (kids d q) k → p ≡ q
  one_holder p q k shown_p shown_q under_p under_q =
      same_one p q (sym (nearest_is p (has_kids p k under_p) shown_p) ∙ sym (nearest_shown p k under_p) ∙ nearest_shown q k under_q ∙ nearest_is q (has_kids q k under_q) shown_q)

  abbrev hangs_on : ℕ → ℕ → Bool
  hangs_on n a = list_any (nat_eq a) (children d n)

  -- no node that is deeper than the children of n is one of them
  no_child : (n a : ℕ) → suc (t.level n) < t.level a → hangs_on n a ≡ false
  no_child n a low = go (hangs_on n a) refl
    where
      go : (b : Bool) → hangs_on n a ≡ b → b ≡ false
      go true e = let f = t.deeper n a (Contains-from_any eqb-true a (children d n) e) in absurd (omega arith)
      go false e = refl

  -- the nearest ancestor of a kid that is a child of n is that of what it is a kid of, or that itself, where this is below n
  nearest_child : (m k : ℕ) → Contains (kids d m) k → (n : ℕ) → t.level n < t.level m → find (hangs_on n) (ancestors d k) ≡ find (hangs_on n) (lineage d m)
  nearest_child = by_kids (λ m k. (n : ℕ) → t.level n < t.level m → find (hangs_on n) (ancestors d k) ≡ find (hangs_on n) (lineage d m))
      (λ m c child pruned skip n low. ap (find (hangs_on n)) (ancestors-child d t m c child))
      (λ m c k child pruned skip inside more n low.
      let e = t.deeper m c child in
      more n (omega arith) ∙ ap (find (hangs_on n)) (lineage-child d t m c child) ∙ ap (λ b. cond b (Some c) (find (hangs_on n) (lineage d m))) (no_child n c (omega arith)))

  child_found : (n c : ℕ) → IsChild d n c → find (hangs_on n) (lineage d c) ≡ Some c
  child_found n c child =
      ap (find (hangs_on n)) (lineage-child d t n c child) ∙ ap (λ b. cond b (Some c) (find (hangs_on n) (lineage d n))) (list_any-from_Contains nat_eq_equiv c (children d n) child)

  -- a kid comes from the children: it is one that is shown, or a kid of one
  from_child : (c k : ℕ) → Contains (taken d c) k → (c ≡ k) ⊎ Contains (kids d c) k
  from_child c k inside = go (is_out d c) (ignored (spot d c)) inside
    where
      go : (x y : Bool) → Contains (cond x [] (cond y (kids d c) (c ∷ []))) k → (c ≡ k) ⊎ Contains (kids d c) k
      go true y inside = absurd (omega arith)
      go false true inside = inr inside
      go false false (zero, low, is) = inl is
      go false false (suc j, low, is) = absurd (omega arith)

  -- no two children give the same kid
  one_child : (n a b k : ℕ) → IsChild d n a → IsChild d n b → Contains (taken d a) k → Contains (taken d b) k → a ≡ b
  one_child n a b k child other from_a from_b = go (from_child a k from_a) (from_child b k from_b)
    where
      go : (a ≡ k) ⊎ Contains (kids d a) k → (b ≡ k) ⊎ Contains (kids d b) k → a ≡ b
      go (inl is) (inl same) = is ∙ sym same
      go (inl is) (inr below) = let e = t.deeper n a child in let f = t.deeper n b other in let g = kids_deeper d t b k below in let h : t.level a ≡ t.level k = ap t.level is in absurd (omega arith)
      go (inr below) (inl is) = let e = t.deeper n a child in let f = t.deeper n b other in let g = kids_deeper d t a k below in let h : t.level b ≡ t.level k = ap t.level is in absurd (omega arith)
      go (inr below) (inr under) =
          let e = t.deeper n a child in
          let f = t.deeper n b other in
          same_one a b (sym (child_found n a child) ∙ sym (nearest_child a k below n (omega arith)) ∙ nearest_child b k under n (omega arith) ∙ child_found n b other)

  taken_once : (c : ℕ) → HasNoRepeats (kids d c) → HasNoRepeats (taken d c)
  taken_once c once = go (is_out d c) (ignored (spot d c))
    where
      go : (x y : Bool) → HasNoRepeats (cond x [] (cond y (kids d c) (c ∷ [])))
      go true y i j low high same = absurd (omega arith)
      go false true i j low high same = once i j low high same
      go false false i j low high same = omega arith

  kids_once_within : (levels n : ℕ) → 64 - t.level n ≤ levels → HasNoRepeats (kids d n)
  kids_once_within zero n fits = subst HasNoRepeats (sym (kids-children d t n))
      (no_repeats-flat_map (taken d) (children d n) (t.once n) (λ c child. let e = t.deeper n c child in let s = t.shallow c in absurd (omega arith)) (λ a b x child other. one_child n a b x child other))
  kids_once_within (suc levels) n fits = subst HasNoRepeats (sym (kids-children d t n))
      (no_repeats-flat_map (taken d) (children d n) (t.once n) (λ c child. let e = t.deeper n c child in taken_once c (kids_once_within levels c (omega arith))) (λ a b x child other. one_child n a b x child other))

  -- no kid stands twice
  pub kids_once : (n : ℕ) → HasNoRepeats (kids d n)
  kids_once n = kids_once_within 64 n (omega arith)

  abbrev rank : ℕ → ℕ
  rank n = 64 - t.level n

  low : (n : ℕ) → rank n ≤ 64
  low n = omega arith

  -- what is at or below an object is the object, and what is at or below its kids
  pub branch-kids : (n : ℕ) → branch d n ≡ n ∷ flat_map (branch d) (kids d n)
  branch-kids n = reached-below (kids d) rank 64 low (kids_fall d t) n

  pub branch_self : (n : ℕ) → Contains (branch d n) n
  branch_self n = reached_self (kids d) rank 64 low (kids_fall d t) n

  pub branch_more : (n k x : ℕ) → Contains (kids d n) k → Contains (branch d k) x → Contains (branch d n) x
  branch_more n k x kid inside = reached_more (kids d) rank 64 low (kids_fall d t) n k x kid inside

  pub branch_cases : (n x : ℕ) → Contains (branch d n) x → (n ≡ x) ⊎ ((k : ℕ) × Contains (kids d n) k × Contains (branch d k) x)
  branch_cases n x inside = reached_cases (kids d) rank 64 low (kids_fall d t) n x inside

  -- the kids of an object are objects
  pub kids_are_objects : (p k : ℕ) → Contains (objects d) p → Contains (kids d p) k → Contains (objects d) k
  kids_are_objects p k inside kid = reached_on (kids d) rank 64 low (kids_fall d t) root p k inside kid

  pub root_is_object : Contains (objects d) root
  root_is_object = branch_self root

  -- each object is a node
  pub objects_known : (n : ℕ) → Contains (objects d) n → has d n ≡ true
  objects_known n inside = by_reached (kids d) rank 64 low (kids_fall d t) (λ k. has d k ≡ true) (λ p k there kid. kids_known p k kid) root n t.has_root inside

  -- no object is ignored
  pub objects_shown : (n : ℕ) → Contains (objects d) n → ignored (spot d n) ≡ false
  objects_shown n inside = by_reached (kids d) rank 64 low (kids_fall d t) (λ k. ignored (spot d k) ≡ false) (λ p k was kid. kids_shown p k kid) root n refl inside

  abbrev Hung : ℕ → Type 0
  Hung k = Contains (objects d) k × ((root ≡ k) ⊎ ((p : ℕ) × Contains (objects d) p × Contains (kids d p) k))

  -- each object but the root is a kid of an object
  pub objects_hung : (n : ℕ) → Contains (objects d) n → (root ≡ n) ⊎ ((p : ℕ) × Contains (objects d) p × Contains (kids d p) n)
  objects_hung n inside = (by_reached (kids d) rank 64 low (kids_fall d t) Hung (λ p k held kid. (kids_are_objects p k held.0 kid, inr (p, held.0, kid))) root n (root_is_object, inl refl) inside).1
