-- What the steps of a removal come to.
use Rattle.std.proofs.Common.{◌≡◌, ◌≢◌, ℕ, List, Bool, true, false, cond, not, Option, Some, None, is_some, Contains, refl, sym, ap, subst, ◌∙◌, eqb}
use Rattle.std.specs.Prelude.{nat_eq, filter}
use Rattle.std.specs.List.{list_any}
use Rattle.std.specs.List.Sorted.{IsStrictlyIncreasing}
use Rattle.std.specs.Option.{option_map, option_map_or}
use Rattle.std.specs.Ordering.{nat_cmp}
use Rattle.std.specs.Map.{keys_of}
use Rattle.std.specs.BTreeMap.{is_at}
use Rattle.std.proofs.lemmas.Bool.{false≢true, eq-eqb}
use Rattle.std.proofs.lemmas.Map.Entries.{lookup-filter-keys}
use Rattle.std.proofs.lemmas.Map.Made.{keys_of-map_values}
use Rattle.ax_base.specs.Document.{Document, node, root, parent, ids, IsChild}
use Rattle.ax_base.proofs.Lookups.{found_is}
use Rattle.ax_base.proofs.Places.{parent-child}
use Rattle.ax_dom.specs.declared.cell.NodeEntry.{NodeEntry}
use Rattle.ax_dom.specs.Places.{without}
use Rattle.ax_dom.specs.NodeMaps.{entry_at, node_of, nodes_of, document_of, IsKept}
use Rattle.ax_dom.specs.Subtrees.{subtree, is_within}
use Rattle.ax_dom.specs.Changes.{focus_without, removed}
use Rattle.ax_dom.specs.Rewrites.{IsRewritten, unlinked}
use Rattle.ax_dom.proofs.Kept.{has_is, node_there, children_found}
use Rattle.ax_dom.proofs.SameEntries.{same_rising, keys-filter}
use Rattle.ax_dom.proofs.Removed.{unhung_node, node_left, ids_left, tree_left, cell_left, left_was}
use Rattle.ax_dom.proofs.Without.{without_none}

-- what an optional entry that is found came of
pub found_from : (F : NodeEntry → NodeEntry) (o : Option NodeEntry) (x : NodeEntry) → option_map F o ≡ Some x → (s : NodeEntry) × (o ≡ Some s) × (F s ≡ x)
found_from F None x found = cc
found_from F (Some s) x found = (s, refl, (let same : F s ≡ x = cc in same))

pub kept_found : (b : Bool) (o : Option NodeEntry) (x : NodeEntry) → cond (not b) o None ≡ Some x → (b ≡ false) × (o ≡ Some x)
kept_found true o x found = cc
kept_found false o x found = (refl, found)

-- the node of an entry without n among its children, in a tree
module _ (es : List (ℕ × NodeEntry)) (focus : Option ℕ) (used : List ℕ) (kept : IsKept (document_of es focus used) es) (n : ℕ) where
  abbrev d : Document
  d = document_of es focus used

  pub taken_cell : (q : ℕ) (s : NodeEntry) → (unlinked (parent d n) n q s).cell ≡ s.cell
  taken_cell q s = go (option_map_or (λ p. eqb p q) (parent d n) false)
    where
      go : (x : Bool) → (cond x (record s { children = without n s.children }) s).cell ≡ s.cell
      go true = refl
      go false = refl

  pub taken_children : (q : ℕ) (s : NodeEntry) → entry_at es q ≡ Some s → (unlinked (parent d n) n q s).children ≡ without n s.children
  taken_children q s found = go (option_map_or (λ p. eqb p q) (parent d n) false) refl
    where
      go : (x : Bool) → option_map_or (λ p. eqb p q) (parent d n) false ≡ x → (cond x (record s { children = without n s.children }) s).children ≡ without n s.children
      go true is = refl
      go false is = sym (without_none n s.children (λ inside.
          let child : IsChild d q n = subst (λ xs. Contains xs n) (children_found es focus used d q refl s (sym found)) inside in
          false≢true (sym is ∙ ap (λ o. option_map_or (λ p. eqb p q) o false) (parent-child d kept.tree q n child) ∙ eq-eqb q q refl)))

  pub taken_node : (q : ℕ) (s : NodeEntry) → entry_at es q ≡ Some s → node_of (unlinked (parent d n) n q s) ≡ unhung_node n (node_of s)
  taken_node q s found = λ i. record { body = (taken_cell q s i).body; children = taken_children q s found i }

module _ (es : List (ℕ × NodeEntry)) (focus : Option ℕ) (used : List ℕ) (kept : IsKept (document_of es focus used) es) (n : ℕ) (apart : n ≢ root)
    (fs : List (ℕ × NodeEntry)) (out : IsRewritten es fs (unlinked (parent (document_of es focus used) n) n))
    (gs : List (ℕ × NodeEntry)) (left : gs ≡ filter (λ e. not (is_within (document_of es focus used) n e.0)) fs) where
  abbrev was : Document
  was = document_of es focus used

  abbrev inside : ℕ → Bool
  inside q = is_within was n q

  abbrev focus_left : Option ℕ
  focus_left = focus_without was n focus

  abbrev after : Document
  after = removed was n

  entry_left : (q : ℕ) → entry_at gs q ≡ cond (not (inside q)) (option_map (unlinked (parent was n) n q) (entry_at es q)) None
  entry_left q =
      ap (λ xs. entry_at xs q) left
      ∙ lookup-filter-keys (is_at (nat_cmp q)) (λ k. not (inside k)) (not (inside q)) (λ k found. ap (λ j. not (inside j)) (sym (found_is q k found))) fs
      ∙ ap (λ o. cond (not (inside q)) o None) (out.each q)

  keys_left : keys_of (nodes_of gs) ≡ ids after
  keys_left =
      keys_of-map_values node_of gs ∙ ap keys_of left ∙ keys-filter (λ k. not (inside k)) fs ∙ ap (filter (λ k. not (inside k))) (out.same_ids ∙ sym (keys_of-map_values node_of es))
      ∙ sym (ids_left was kept.tree n apart)

  node_of_left : (q : ℕ) → node (document_of gs focus_left used) q ≡ node after q
  node_of_left q = node_there gs focus_left used q ∙ ap (option_map node_of) (entry_left q) ∙ go (inside q) (entry_at es q) refl ∙ ap (λ o. cond (not (inside q)) (option_map (unhung_node n) o) None) (sym (node_there es focus used q)) ∙ sym (node_left was kept.tree n apart q)
    where
      go : (x : Bool) (o : Option NodeEntry) → entry_at es q ≡ o → option_map node_of (cond (not x) (option_map (unlinked (parent was n) n q) o) None) ≡ cond (not x) (option_map (unhung_node n) (option_map node_of o)) None
      go true o is = refl
      go false None is = refl
      go false (Some s) is = ap (λ x. Some x) (taken_node es focus used kept n q s is)

  document_left : document_of gs focus_left used ≡ after
  document_left = λ i. record {
    nodes = same_rising (nodes_of gs) after.nodes (subst IsStrictlyIncreasing (sym keys_left) (tree_left was kept.tree n apart).rising) keys_left node_of_left i;
    focus = focus_left;
    used = used;
  }

  kept_left : IsKept (document_of gs focus_left used) gs
  kept_left = subst (λ x. IsKept x gs) (sym document_left) (record {
    tree = tree_left was kept.tree n apart;
    cells = λ q x found.
        let here = kept_found (inside q) (option_map (unlinked (parent was n) n q) (entry_at es q)) x (sym (entry_left q) ∙ found) in
        let from = found_from (unlinked (parent was n) n q) (entry_at es q) x here.1 in
        ap (λ (y : NodeEntry). y.cell) (sym from.2) ∙ taken_cell es focus used kept n q from.0 ∙ kept.cells q from.0 from.1
        ∙ cell_left was kept.tree n apart q (sym (has_is es focus used was q refl) ∙ ap is_some from.1) here.0;
    marked = λ q there top. kept.marked q (left_was was kept.tree n apart q there).0 top;
  })

-- the same, by what the code knows
module _ (es : List (ℕ × NodeEntry)) (focus : Option ℕ) (used : List ℕ) (kept : IsKept (document_of es focus used) es) (now : Document) (view : document_of es focus used ≡ now) (n : ℕ) (apart : n ≢ root)
    (from : Option ℕ) (from_is : from ≡ parent now n) (fs : List (ℕ × NodeEntry)) (out : IsRewritten es fs (unlinked from n))
    (gone : List ℕ) (gone_is : gone ≡ subtree now n) where
  pub rising_out : IsStrictlyIncreasing (keys_of fs)
  rising_out = subst IsStrictlyIncreasing (keys_of-map_values node_of es ∙ sym out.same_ids) kept.tree.rising

  module _ (gs : List (ℕ × NodeEntry)) (left : gs ≡ filter (λ e. not (list_any (nat_eq e.0) gone)) fs) (focus_after : Option ℕ) (unfocused : focus_after ≡ focus_without now n focus) where
    from_here : IsRewritten es fs (unlinked (parent (document_of es focus used) n) n)
    from_here = subst (λ o. IsRewritten es fs (unlinked o n)) (from_is ∙ ap (λ x. parent x n) (sym view)) out

    left_here : gs ≡ filter (λ e. not (is_within (document_of es focus used) n e.0)) fs
    left_here = left ∙ ap (λ xs. filter (λ e. not (list_any (nat_eq e.0) xs)) fs) (gone_is ∙ ap (λ x. subtree x n) (sym view))

    focus_here : focus_after ≡ focus_without (document_of es focus used) n focus
    focus_here = unfocused ∙ ap (λ x. focus_without x n focus) (sym view)

    pub document_removed : document_of gs focus_after used ≡ removed now n
    document_removed =
        ap (λ f. document_of gs f used) focus_here ∙ document_left es focus used kept n apart fs from_here gs left_here
        ∙ ap (λ x. removed x n) view

    pub kept_removed : IsKept (document_of gs focus_after used) gs
    kept_removed = subst (λ f. IsKept (document_of gs f used) gs) (sym focus_here) (kept_left es focus used kept n apart fs from_here gs left_here)
