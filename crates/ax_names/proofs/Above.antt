-- The way up from a node to what hides it.
use Rattle.std.proofs.Common.{◌≡◌, ℕ, ◌<◌, List, [], ◌∷◌, Bool, true, false, cond, ◌||◌, Some, None, refl, sym, ap, ◌∙◌, arith}
use Rattle.std.specs.Prelude.{find, nat_eq}
use Rattle.std.specs.List.{list_any}
use Rattle.std.specs.Option.{option_map_or}
use Rattle.std.proofs.lemmas.Bool.{eqb-true}
use Rattle.std.proofs.lemmas.Map.Views.{Contains-from_any}
use Rattle.ax_base.specs.Document.{Document, has, spot, parent, children, ids, lineage_within, depth, IsChild}
use Rattle.ax_base.specs.Trees.{IsTree}
use Rattle.ax_base.specs.Roles.{hides}
use Rattle.ax_base.specs.Context.{is_hidden}
use Rattle.ax_base.proofs.Places.{has_children, depth-level, lineage-child}

-- what is found passes
found_passes : (test : ℕ → Bool) (xs : List ℕ) (p : ℕ) → find test xs ≡ Some p → test p ≡ true
found_passes test [] p is = cc
found_passes test (x ∷ xs) p is = go (test x) refl is (found_passes test xs p)
  where
    go : (b : Bool) → test x ≡ b → cond b (Some x) (find test xs) ≡ Some p → (find test xs ≡ Some p → test p ≡ true) → test p ≡ true
    go true on same rest = let e : x ≡ p = cc in ap test (sym e) ∙ on
    go false off same rest = rest same

module _ (d : Document) (t : IsTree d) where
  -- a parent is what a node is a child of
  parent_holds : (n p : ℕ) → parent d n ≡ Some p → IsChild d p n
  parent_holds n p is = Contains-from_any eqb-true n (children d p) (found_passes (λ q. list_any (nat_eq n) (children d q)) (ids d) p is)

  pub parent_known : (n p : ℕ) → parent d n ≡ Some p → has d p ≡ true
  parent_known n p is = has_children d p n (parent_holds n p is)

  pub parent_higher : (n p : ℕ) → parent d n ≡ Some p → depth d p < depth d n
  parent_higher n p is =
      let child = parent_holds n p is in
      let e = depth-level d t p (has_children d p n child) in
      let f = depth-level d t n (t.known p n child) in
      let u = t.deeper p n child in
      omega arith

  -- a node that does not hide is hidden where its parent is
  pub hidden_above : (n p : ℕ) → parent d n ≡ Some p → hides (spot d n) ≡ false → is_hidden d n ≡ is_hidden d p
  hidden_above n p is off = ap (list_any (λ a. hides (spot d a))) (lineage-child d t p n (parent_holds n p is)) ∙ ap (λ b. b || is_hidden d p) off

-- nor is one that has no parent
pub hidden_top : (d : Document) (n : ℕ) → parent d n ≡ None → hides (spot d n) ≡ false → is_hidden d n ≡ false
unfolding lineage_within
hidden_top d n is off = ap (λ o. hides (spot d n) || list_any (λ a. hides (spot d a)) (option_map_or (lineage_within 63 d) o [])) is ∙ ap (λ b. b || false) off

-- one that hides is hidden
pub hidden_here : (d : Document) (n : ℕ) → hides (spot d n) ≡ true → is_hidden d n ≡ true
unfolding lineage_within
hidden_here d n on = ap (λ b. b || list_any (λ a. hides (spot d a)) (option_map_or (lineage_within 63 d) (parent d n) [])) on
