-- The reach is what lies on the ways from the touched nodes to the root.
use Rattle.std.proofs.Common.{◌≡◌, ◌⊎◌, inl, inr, ℕ, zero, suc, ◌≤◌, List, [], ◌∷◌, map, Bool, true, false, cond, Some, is_some, Contains, refl, sym, ap, subst, ◌∙◌, arith}
use Rattle.std.specs.Ordering.{nat_cmp}
use Rattle.std.specs.BTreeMap.{is_at}
use Rattle.std.specs.Map.{lookup}
use Rattle.std.proofs.lemmas.Bool.{false≢true}
use Rattle.std.proofs.lemmas.Bool.Decides.{eqb_tells}
use Rattle.ax_base.specs.Document.{Document, root, has, lineage, IsChild}
use Rattle.ax_base.specs.Trees.{IsTree}
use Rattle.ax_base.proofs.Joins.{Contains-cases}
use Rattle.ax_base.proofs.Lookups.{finds, finds_same, found_is}
use Rattle.ax_base.proofs.Places.{has_children, lineage-child, lineage-root}
use Rattle.ax_dom.specs.Subtrees.{subtree}
use Rattle.ax_dom.proofs.Subtrees.{subtree_has, within_child}
use Rattle.dirty_set.specs.NodeSets.{mem}
use Rattle.dirty_set.proofs.Tests.{any_at, found}

pub mem_in : (ks : List ℕ) (n : ℕ) → mem ks n ≡ true → Contains ks n
mem_in ks n on = let r = found (is_at (nat_cmp n)) ks on in subst (Contains ks) (sym (found_is n r.0 r.2)) r.1

pub in_mem : (ks : List ℕ) (n : ℕ) → Contains ks n → mem ks n ≡ true
in_mem ks n inside = any_at (is_at (nat_cmp n)) ks n inside (finds_same n n refl)

-- an id of a list of entries is found
pub has_id : {X : Type 0} (es : List (ℕ × X)) (n : ℕ) → Contains (map (λ e. e.0) es) n → is_some (lookup (is_at (nat_cmp n)) es) ≡ true
has_id [] n inside = absurd (omega arith)
has_id (e ∷ es) n inside = go (finds n e.0) refl (Contains-cases n e.0 (map (λ e. e.0) es) inside) (λ more. has_id es n more)
  where
    go : (b : Bool) → finds n e.0 ≡ b → (e.0 ≡ n) ⊎ Contains (map (λ e. e.0) es) n → (Contains (map (λ e. e.0) es) n → is_some (lookup (is_at (nat_cmp n)) es) ≡ true) → is_some (cond b (Some e.1) (lookup (is_at (nat_cmp n)) es)) ≡ true
    go true is where_it rest = refl
    go false is (inl same) rest = absurd (false≢true (sym is ∙ finds_same n e.0 (sym same)))
    go false is (inr more) rest = rest more

module _ (d : Document) (t : IsTree d) where
  at_top : (n m : ℕ) → m ≡ root → Contains (lineage d m) n → Contains (subtree d n) m
  at_top n m is inside = elim (Contains-cases n root [] (subst (λ xs. Contains xs n) (ap (lineage d) is ∙ lineage-root d t) inside)) [
    | inl same ↦ subst (λ k. Contains (subtree d k) m) (is ∙ same) (subtree_has d t m)
    | inr more ↦ absurd (nothing more)
  ]
    where
      nothing : Contains [] n → ⊥
      nothing more = omega arith

  under : (n m up : ℕ) → IsChild d up m → Contains (lineage d m) n → (Contains (lineage d up) n → Contains (subtree d n) up) → Contains (subtree d n) m
  under n m up child inside rest = elim (Contains-cases n m (lineage d up) (subst (λ xs. Contains xs n) (lineage-child d t up m child) inside)) [
    | inl same ↦ subst (λ k. Contains (subtree d k) m) same (subtree_has d t m)
    | inr more ↦ within_child d t n up m (rest more) child
  ]

  -- what is in the lineage of a node has it within
  pub lineage_below : (l n m : ℕ) → t.level m ≤ l → has d m ≡ true → Contains (lineage d m) n → Contains (subtree d n) m
  lineage_below zero n m low there inside = elim (eqb_tells m root) [
    | inl (_, is) ↦ at_top n m is inside
    | inr (_, apart) ↦ (let up = t.hung m there apart in let e = t.deeper up.0 m up.1 in absurd (omega arith))
  ]
  lineage_below (suc l) n m low there inside = elim (eqb_tells m root) [
    | inl (_, is) ↦ at_top n m is inside
    | inr (_, apart) ↦ (let up = t.hung m there apart in let e = t.deeper up.0 m up.1 in
        under n m up.0 up.1 inside (λ more. lineage_below l n up.0 (omega arith) (has_children d up.0 m up.1) more))
  ]
