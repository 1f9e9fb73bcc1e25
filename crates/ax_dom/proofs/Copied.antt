-- Copies of all nodes of a document.
use Rattle.std.proofs.Common.{◌≡◌, inl, inr, ℕ, zero, suc, ◌+◌, ◌<◌, ◌≤◌, List, [], take, length, get_or, Bool, true, false, cond, ◌||◌, Option, Some, None, is_some, Contains, refl, sym, ap, subst, ◌∙◌, arith}
use Rattle.std.specs.Prelude.{nat_eq}
use Rattle.std.specs.List.{list_any}
use Rattle.std.specs.List.Sorted.{IsStrictlyIncreasing}
use Rattle.std.specs.Map.{keys_of}
use Rattle.std.proofs.lemmas.Bool.{false≢true, eq-eqb}
use Rattle.std.proofs.lemmas.Bool.Decides.{eqb_tells}
use Rattle.std.proofs.lemmas.List.{take_all, get_or_default}
use Rattle.std.proofs.lemmas.List.Folds.{list_any_more}
use Rattle.std.proofs.lemmas.Map.Made.{keys_of-map_values}
use Rattle.ax_base.specs.Document.{Document, root, has, order}
use Rattle.ax_base.specs.Trees.{IsTree}
use Rattle.ax_base.proofs.Lookups.{finds_is, found_is, lookup-insert_entry, keys-insert_entry, rising-insert_key}
use Rattle.ax_base.proofs.Places.{has_children}
use Rattle.ax_base.proofs.SameLookups.{same_lookups}
use Rattle.ax_dom.specs.declared.cell.NodeEntry.{NodeEntry}
use Rattle.ax_dom.specs.Copies.{AreCopiedAt, with_entry}
use Rattle.ax_dom.specs.NodeMaps.{entry_at, node_of, document_of, IsKept}
use Rattle.ax_dom.specs.Subtrees.{subtree}
use Rattle.ax_dom.proofs.Kept.{has_is}
use Rattle.ax_dom.proofs.MovedEntries.{list_any_member}
use Rattle.ax_dom.proofs.Subtrees.{subtree_has, within_child}

-- every node is below the root
pub in_order : (d : Document) (t : IsTree d) (l n : ℕ) → t.level n ≤ l → has d n ≡ true → Contains (order d) n
in_order d t zero n low there = elim (eqb_tells n root) [
  | inl (_, is) ↦ subst (Contains (order d)) (sym is) (subtree_has d t root)
  | inr (_, apart) ↦ (let up = t.hung n there apart in let e = t.deeper up.0 n up.1 in absurd (omega arith))
]
in_order d t (suc l) n low there = elim (eqb_tells n root) [
  | inl (_, is) ↦ subst (Contains (order d)) (sym is) (subtree_has d t root)
  | inr (_, apart) ↦ (let up = t.hung n there apart in let e = t.deeper up.0 n up.1 in within_child d t root up.0 n (in_order d t l up.0 (omega arith) (has_children d up.0 n up.1)) up.1)
]

-- none is copied yet
pub none_copied : (es copies : List (ℕ × NodeEntry)) (xs : List ℕ) → copies ≡ [] → AreCopiedAt es copies (take 0 xs)
none_copied es copies xs none = subst (λ fs. AreCopiedAt es fs (take 0 xs)) (sym none) (record { rising = λ k low. absurd (omega arith); found = λ q. refl })

module _ (es copies : List (ℕ × NodeEntry)) (xs : List ℕ) (i x : ℕ) (low : i < length xs) (is : x ≡ get_or xs i x) (so_far : AreCopiedAt es copies (take i xs)) where
  asked : (q : ℕ) → list_any (nat_eq q) (take (i + 1) xs) ≡ (list_any (nat_eq q) (take i xs) || nat_eq q x)
  asked q = list_any_more (nat_eq q) xs i 0 low ∙ ap (λ y. list_any (nat_eq q) (take i xs) || nat_eq q y) (sym (is ∙ get_or_default xs i x 0 low))

  found_more : (o : Option NodeEntry) → entry_at es x ≡ o → (q : ℕ) → entry_at (with_entry copies x o) q ≡ cond (list_any (nat_eq q) (take (i + 1) xs)) (entry_at es q) None
  found_more None none q = so_far.found q ∙ go (list_any (nat_eq q) (take i xs)) (nat_eq q x) refl ∙ ap (λ b. cond b (entry_at es q) None) (sym (asked q))
    where
      go : (a b : Bool) → nat_eq q x ≡ b → cond a (entry_at es q) None ≡ cond (a || b) (entry_at es q) None
      go true b e = refl
      go false false e = refl
      go false true e = sym (ap (entry_at es) (found_is q x (finds_is q x ∙ e)) ∙ none)
  found_more (Some s) some q = lookup-insert_entry q x s copies ∙ ap (λ b. cond b (Some s) (entry_at copies q)) (finds_is q x) ∙ ap (cond (nat_eq q x) (Some s)) (so_far.found q)
      ∙ go (list_any (nat_eq q) (take i xs)) (nat_eq q x) refl ∙ ap (λ b. cond b (entry_at es q) None) (sym (asked q))
    where
      go : (a b : Bool) → nat_eq q x ≡ b → cond b (Some s) (cond a (entry_at es q) None) ≡ cond (a || b) (entry_at es q) None
      go true false e = refl
      go false false e = refl
      go true true e = sym (ap (entry_at es) (found_is q x (finds_is q x ∙ e)) ∙ some)
      go false true e = sym (ap (entry_at es) (found_is q x (finds_is q x ∙ e)) ∙ some)

  rising_more : (o : Option NodeEntry) → IsStrictlyIncreasing (keys_of (with_entry copies x o))
  rising_more None = so_far.rising
  rising_more (Some s) = subst IsStrictlyIncreasing (sym (keys-insert_entry copies x s)) (rising-insert_key x (keys_of copies) so_far.rising)

  pub one_copied : (new : List (ℕ × NodeEntry)) → new ≡ with_entry copies x (entry_at es x) → AreCopiedAt es new (take (i + 1) xs)
  one_copied new adds = subst (λ fs. AreCopiedAt es fs (take (i + 1) xs)) (sym adds) (record { rising = rising_more (entry_at es x); found = found_more (entry_at es x) refl })

pub all_copied : (es copies : List (ℕ × NodeEntry)) (xs : List ℕ) (i : ℕ) → length xs ≤ i → AreCopiedAt es copies (take i xs) → AreCopiedAt es copies xs
all_copied es copies xs i past so_far = subst (AreCopiedAt es copies) (take_all i xs past) so_far

module _ (es : List (ℕ × NodeEntry)) (focus : Option ℕ) (used : List ℕ) (kept : IsKept (document_of es focus used) es) (d : Document) (view : document_of es focus used ≡ d) (copies : List (ℕ × NodeEntry)) (xs : List ℕ) (all : xs ≡ subtree d root) (copied : AreCopiedAt es copies xs) where
  tree : IsTree d
  tree = subst IsTree view kept.tree

  listed : (q : ℕ) → has d q ≡ true → list_any (nat_eq q) xs ≡ true
  listed q there = go (list_any (nat_eq q) xs) refl
    where
      go : (b : Bool) → list_any (nat_eq q) xs ≡ b → b ≡ true
      go true on = refl
      go false off = absurd (false≢true (sym (list_any_member (nat_eq q) xs q (subst (λ ys. Contains ys q) (sym all) (in_order d tree (tree.level q) q (omega arith) there)) off) ∙ eq-eqb q q refl))

  found_same : (q : ℕ) → entry_at copies q ≡ entry_at es q
  found_same q = copied.found q ∙ go (has d q) refl
    where
      missing : (o : Option NodeEntry) → is_some o ≡ false → o ≡ None
      missing None off = refl
      missing (Some s) off = cc

      either : (b : Bool) → entry_at es q ≡ None → cond b (entry_at es q) None ≡ entry_at es q
      either true none = refl
      either false none = sym none

      go : (b : Bool) → has d q ≡ b → cond (list_any (nat_eq q) xs) (entry_at es q) None ≡ entry_at es q
      go true there = ap (λ b. cond b (entry_at es q) None) (listed q there)
      go false lost = either (list_any (nat_eq q) xs) (missing (entry_at es q) (has_is es focus used d q view ∙ lost))

  pub copies_same : copies ≡ es
  copies_same = same_lookups copies es copied.rising (subst IsStrictlyIncreasing (keys_of-map_values node_of es) kept.tree.rising) found_same

  pub copied_kept : (left : Option ℕ) (again : List ℕ) → left ≡ focus → again ≡ used → IsKept (document_of copies left again) copies
  copied_kept left again f u = subst (λ fs. IsKept (document_of fs left again) fs) (sym copies_same) (subst (λ o. IsKept (document_of es o again) es) (sym f) (subst (λ us. IsKept (document_of es focus us) es) (sym u) kept))

  pub copied_document : (left : Option ℕ) (again : List ℕ) → left ≡ focus → again ≡ used → document_of copies left again ≡ d
  copied_document left again f u = (λ i. document_of (copies_same i) (f i) (u i)) ∙ view
