-- The way up from the focused node.
use Rattle.std.proofs.Common.{◌≡◌, ℕ, ◌<◌, List, [], ◌∷◌, Bool, true, false, cond, Some, None, is_some, sym, ap, subst, ◌∙◌, arith}
use Rattle.std.specs.Prelude.{find, nat_eq, IfSome}
use Rattle.std.specs.List.{list_any}
use Rattle.std.specs.Option.{option_map_or}
use Rattle.std.proofs.lemmas.Bool.{eqb-true}
use Rattle.std.proofs.lemmas.Map.Views.{Contains-from_any}
use Rattle.ax_base.specs.Document.{Document, parent, children, ids, lineage, lineage_within, depth, IsChild}
use Rattle.ax_base.specs.Trees.{IsTree}
use Rattle.ax_base.proofs.Places.{has_children, depth-level, lineage-child}
use Rattle.ax_record.specs.declared.record.Record.{Record}
use Rattle.ax_record.specs.Tree.{entry_at}
use Rattle.ax_record.specs.Records.{is_object, tree}
use Rattle.ax_record.proofs.TreeOf.{find_passes, has_is}

module _ (d : Document) (t : IsTree d) where
  -- a parent is what a node is a child of
  parent_holds : (n p : ℕ) → parent d n ≡ Some p → IsChild d p n
  parent_holds n p is = Contains-from_any eqb-true n (children d p) (subst (λ o. IfSome o (λ q. list_any (nat_eq n) (children d q) ≡ true)) is (find_passes (λ q. list_any (nat_eq n) (children d q)) (ids d)))

  pub parent_higher : (n p : ℕ) → parent d n ≡ Some p → depth d p < depth d n
  parent_higher n p is =
      let child = parent_holds n p is in
      let e = depth-level d t p (has_children d p n child) in
      let f = depth-level d t n (t.known p n child) in
      let u = t.deeper p n child in
      omega arith

  -- the nearest above that passes, from the parent on
  pub find_above : (test : ℕ → Bool) (n p : ℕ) → parent d n ≡ Some p → test n ≡ false → find test (lineage d n) ≡ find test (lineage d p)
  find_above test n p is off = ap (find test) (lineage-child d t p n (parent_holds n p is)) ∙ ap (λ b. cond b (Some n) (find test (lineage d p))) off

  -- whether an object is among the records of the tree
  pub object_found : (es : List (ℕ × Record)) (n : ℕ) (b : Bool) → es ≡ (tree d).entries → b ≡ is_some (entry_at es n) → is_object d n ≡ b
  object_found es n b all is = sym (has_is d t n) ∙ ap (λ l. is_some (entry_at l n)) (sym all) ∙ sym is

-- nothing passes from a node on that has no parent and does not pass
pub find_top : (d : Document) (test : ℕ → Bool) (n : ℕ) → parent d n ≡ None → test n ≡ false → find test (lineage d n) ≡ None
unfolding lineage_within
find_top d test n is off = ap (λ o. find test (n ∷ option_map_or (lineage_within 63 d) o [])) is ∙ ap (λ b. cond b (Some n) None) off

-- a node that passes is the nearest
pub find_here : (d : Document) (test : ℕ → Bool) (n : ℕ) → test n ≡ true → find test (lineage d n) ≡ Some n
unfolding lineage_within
find_here d test n on = ap (λ b. cond b (Some n) (find test (option_map_or (lineage_within 63 d) (parent d n) []))) on
