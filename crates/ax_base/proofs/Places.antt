-- Parents and depths in a tree.
use Rattle.std.proofs.Common.{◌≡◌, ◌≢◌, ℕ, zero, suc, ◌≤◌, inl, inr, List, [], ◌∷◌, map, length, Bool, true, false, cond, Option, Some, None, is_some, Contains, refl, sym, ap, ◌∙◌, arith}
use Rattle.std.specs.Prelude.{find, nat_eq}
use Rattle.std.specs.List.{list_any}
use Rattle.std.specs.Cmp.{nat_eq_equiv, Equal-is}
use Rattle.std.specs.FinMap.{nat_cmp-IsAntisymmetric}
use Rattle.std.specs.Option.{option_map_or}
use Rattle.std.specs.Map.{lookup}
use Rattle.std.proofs.lemmas.Bool.{eqb-true, false≢true}
use Rattle.std.proofs.lemmas.Bool.Decides.{eqb_tells}
use Rattle.std.proofs.lemmas.Map.Views.{Contains-keys_from_lookup, Contains-from_any, list_any-from_Contains}
use Rattle.std.specs.BTreeMap.{is_at}
use Rattle.std.specs.Ordering.{nat_cmp}
use Rattle.ax_base.specs.Document.{Document, Node, node, has, root, ids, children, parent, lineage_within, lineage, depth, IsChild}
use Rattle.ax_base.specs.Trees.{IsTree}

-- the first that passes, where only one does
pub find_only : (test : ℕ → Bool) (xs : List ℕ) (p : ℕ) → Contains xs p → test p ≡ true → ((q : ℕ) → test q ≡ true → q ≡ p) → find test xs ≡ Some p
find_only test [] p here passes only = absurd (omega arith)
find_only test (x ∷ xs) p here passes only = elim (test x) as (λ b. test x ≡ b → cond b (Some x) (find test xs) ≡ Some p) [
  | true ↦ λ e. ap (λ y. Some y) (only x e)
  | false ↦ λ e. find_only test xs p (rest here e) passes only
] refl
  where
    rest : Contains (x ∷ xs) p → test x ≡ false → Contains xs p
    rest (zero, lt, is) e = absurd (false≢true (sym e ∙ ap test is ∙ passes))
    rest (suc k, lt, is) e = (k, omega arith, is)

pub find_none : (test : ℕ → Bool) (xs : List ℕ) → ((q : ℕ) → test q ≡ true → ⊥) → find test xs ≡ None
find_none test [] none = refl
find_none test (x ∷ xs) none = elim (test x) as (λ b. test x ≡ b → cond b (Some x) (find test xs) ≡ None) [
  | true ↦ λ e. absurd (none x e)
  | false ↦ λ e. find_none test xs none
] refl

-- an id at which a look-up finds something is among the ids
pub among_ids : {X : Type 0} (es : List (ℕ × X)) (n : ℕ) → is_some (lookup (is_at (nat_cmp n)) es) ≡ true → Contains (map (λ e. e.0) es) n
among_ids es n found = Contains-keys_from_lookup {eq = λ x y. is_at (nat_cmp x) y} (λ x y e. nat_cmp-IsAntisymmetric x y ((Equal-is (nat_cmp x y)).0 e)) n es found

module _ (d : Document) where
  is_child : (n c : ℕ) → list_any (nat_eq c) (children d n) ≡ true → IsChild d n c
  is_child n c e = Contains-from_any eqb-true c (children d n) e

  -- what has children is there
  pub has_children : (n c : ℕ) → IsChild d n c → has d n ≡ true
  has_children n c child = go (node d n) refl child
    where
      go : (o : Option Node) → node d n ≡ o → Contains (option_map_or (λ e. e.children) o []) c → is_some o ≡ true
      go None e inside = absurd (omega arith)
      go (Some x) e inside = refl

  pub parent-child : IsTree d → (n c : ℕ) → IsChild d n c → parent d c ≡ Some n
  parent-child t n c child =
      find_only (λ p. list_any (nat_eq c) (children d p)) (ids d) n (among_ids d.nodes n (has_children n c child))
      (list_any-from_Contains nat_eq_equiv c (children d n) child)
      (λ q passes. t.one_parent q n c (is_child q c passes) child)

  pub parent-none : (c : ℕ) → ((n : ℕ) → IsChild d n c → ⊥) → parent d c ≡ None
  parent-none c none = find_none (λ p. list_any (nat_eq c) (children d p)) (ids d) (λ q passes. none q (is_child q c passes))

  pub parent-unknown : IsTree d → (c : ℕ) → has d c ≡ false → parent d c ≡ None
  parent-unknown t c lacks = parent-none c (λ n child. false≢true (sym lacks ∙ t.known n c child))

  pub parent-root : IsTree d → parent d root ≡ None
  parent-root t = parent-none root (λ n child. let e = t.deeper n root child in let r = t.root_level in absurd (omega arith))

  -- as many nodes are above a node as its level says, if the nodes' lineages are as long as they may be
  length_above : (t : IsTree d) (levels n : ℕ) → has d n ≡ true → t.level n ≤ suc levels
      → ((p : ℕ) → has d p ≡ true → t.level p ≤ levels → length (lineage_within levels d p) ≡ suc (t.level p))
      → length (option_map_or (lineage_within levels d) (parent d n) []) ≡ t.level n
  length_above t levels n there low each = elim (eqb_tells n root) [ inl (_, is) ↦ at_root is | inr (_, apart) ↦ below apart ]
    where
      at_root : n ≡ root → length (option_map_or (lineage_within levels d) (parent d n) []) ≡ t.level n
      at_root is = ap (λ o. length (option_map_or (lineage_within levels d) o [])) (ap (parent d) is ∙ parent-root t) ∙ sym (ap t.level is ∙ t.root_level)

      below : n ≢ root → length (option_map_or (lineage_within levels d) (parent d n) []) ≡ t.level n
      below apart =
          let p : ℕ = (t.hung n there apart).0 in
          let child : IsChild d p n = (t.hung n there apart).1 in
          let e = t.deeper p n child in
          ap (λ o. length (option_map_or (lineage_within levels d) o [])) (parent-child t p n child) ∙ (each p (has_children p n child) (omega arith) ∙ sym e)

  -- a lineage has one more node than the level, if it may be as long
  length-lineage : (t : IsTree d) (levels n : ℕ) → has d n ≡ true → t.level n ≤ levels → length (lineage_within levels d n) ≡ suc (t.level n)
  unfolding lineage_within
  length-lineage t zero n there low = let e : t.level n ≡ 0 = omega arith in ap suc (sym e)
  length-lineage t (suc levels) n there low = ap suc (length_above t levels n there low (λ p has low. length-lineage t levels p has low))

  pub depth-level : (t : IsTree d) (n : ℕ) → has d n ≡ true → depth d n ≡ t.level n
  depth-level t n there = length_above t 64 n there (let s = t.shallow n in omega arith) (λ p has low. length-lineage t 64 p has low)

  parent_of_top : (t : IsTree d) (n : ℕ) → has d n ≡ true → t.level n ≡ 0 → parent d n ≡ None
  parent_of_top t n there top = parent-none n (λ p child. let e = t.deeper p n child in absurd (omega arith))

  -- two functions that agree at the parent
  same_above : {A : Type 0} (t : IsTree d) (n : ℕ) → has d n ≡ true → (f g : ℕ → List A) → ((p : ℕ) → has d p ≡ true → t.level n ≡ suc (t.level p) → f p ≡ g p)
      → option_map_or f (parent d n) [] ≡ option_map_or g (parent d n) []
  same_above {A} t n there f g each = elim (eqb_tells n root) [ inl (_, is) ↦ at_root is | inr (_, apart) ↦ below apart ]
    where
      at_root : n ≡ root → option_map_or f (parent d n) [] ≡ option_map_or g (parent d n) []
      at_root is = let none = ap (parent d) is ∙ parent-root t in rw none refl

      below : n ≢ root → option_map_or f (parent d n) [] ≡ option_map_or g (parent d n) []
      below apart =
          let p : ℕ = (t.hung n there apart).0 in
          let child : IsChild d p n = (t.hung n there apart).1 in
          let some = parent-child t p n child in
          rw some (each p (has_children p n child) (t.deeper p n child))

  -- a longer bound than the level changes no lineage
  lineage_more : (t : IsTree d) (levels more n : ℕ) → has d n ≡ true → t.level n ≤ levels → t.level n ≤ more → lineage_within levels d n ≡ lineage_within more d n
  unfolding lineage_within
  lineage_more t zero zero n there low low' = refl
  lineage_more t zero (suc more) n there low low' = ap (λ o. n ∷ option_map_or (lineage_within more d) o []) (sym (parent_of_top t n there (omega arith)))
  lineage_more t (suc levels) zero n there low low' = ap (λ o. n ∷ option_map_or (lineage_within levels d) o []) (parent_of_top t n there (omega arith))
  lineage_more t (suc levels) (suc more) n there low low' =
      ap (λ xs. n ∷ xs) (same_above t n there (lineage_within levels d) (lineage_within more d) (λ p has e. lineage_more t levels more p has (omega arith) (omega arith)))

  -- a node's lineage is the node and its parent's lineage
  pub lineage-child : (t : IsTree d) (n c : ℕ) → IsChild d n c → lineage d c ≡ c ∷ lineage d n
  unfolding lineage_within
  lineage-child t n c child =
      let e = t.deeper n c child in
      let s = t.shallow c in
      ap (λ o. c ∷ option_map_or (lineage_within 63 d) o []) (parent-child t n c child) ∙ ap (λ xs. c ∷ xs) (lineage_more t 63 64 n (has_children n c child) (omega arith) (omega arith))

  pub lineage-root : (t : IsTree d) → lineage d root ≡ root ∷ []
  unfolding lineage_within
  lineage-root t = ap (λ o. root ∷ option_map_or (lineage_within 63 d) o []) (parent-root t)
