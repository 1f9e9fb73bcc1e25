-- What the steps of a move come to.
use Rattle.std.proofs.Common.{◌≡◌, ◌≢◌, inl, inr, ℕ, zero, suc, ◌+◌, ◌-◌, ◌≤◌, List, [], ◌∷◌, Bool, true, false, cond, Option, Some, None, is_some, Contains, refl, sym, ap, subst, ◌∙◌, eqb, arith}
use Rattle.std.specs.Prelude.{nat_eq, nat_lt, min}
use Rattle.std.specs.List.{list_any}
use Rattle.std.specs.List.Sorted.{IsStrictlyIncreasing}
use Rattle.std.specs.Option.{option_map}
use Rattle.std.specs.Map.{keys_of}
use Rattle.std.specs.Cmp.{nat_eq_equiv}
use Rattle.std.proofs.lemmas.Bool.{false≢true, eqb-true, eq-eqb, ltb-false, or_parts}
use Rattle.std.proofs.lemmas.Bool.Decides.{eqb_tells}
use Rattle.std.proofs.lemmas.Map.Made.{keys_of-map_values}
use Rattle.std.proofs.lemmas.Map.Views.{list_any-from_Contains}
use Rattle.ax_base.specs.Document.{Document, Node, node, has, root, children, parent, depth, body, ids, lineage}
use Rattle.ax_base.specs.Trees.{IsTree}
use Rattle.ax_base.proofs.Lookups.{finds, finds_is, found_is}
use Rattle.ax_base.proofs.Membership.{Contains-head, Contains-tail}
use Rattle.ax_base.proofs.Places.{has_children, lineage-child, lineage-root}
use Rattle.ax_dom.specs.declared.cell.Cell.{Cell}
use Rattle.ax_dom.specs.declared.cell.NodeEntry.{NodeEntry}
use Rattle.ax_dom.specs.Places.{placed, without}
use Rattle.ax_dom.specs.NodeMaps.{cell_of, entry_at, node_of, nodes_of, document_of, IsKept}
use Rattle.ax_dom.specs.Subtrees.{subtree, is_within}
use Rattle.ax_dom.specs.Changes.{unhung_from, moved}
use Rattle.ax_dom.specs.Refusals.{MayMove}
use Rattle.ax_dom.specs.Rewrites.{IsRewritten, unlinked, with_list, relinked, with_parent, rebased, rebased_among}
use Rattle.ax_dom.proofs.Placed.{Contains-cons_cases}
use Rattle.ax_dom.proofs.Kept.{has_is, node_there}
use Rattle.ax_dom.proofs.Rewrites.{rewritten_then}
use Rattle.ax_dom.proofs.SameEntries.{same_rising}
use Rattle.ax_dom.proofs.Removed.{unhung_node, within_is, not_within}
use Rattle.ax_dom.proofs.RemovedEntries.{taken_cell, taken_node, found_from}
use Rattle.ax_dom.proofs.Moved.{node_moved, children_unhung, body_unhung, node_unhung, ids_moved, tree_moved, cell_outside, cell_inside, cell_itself, has_moved}
use Rattle.ax_dom.proofs.Subtrees.{subtree_has, lineage_within_subtree}

-- each node has the root in its lineage
at_root : (d : Document) (t : IsTree d) (m : ℕ) → m ≡ root → Contains (lineage d m) root
at_root d t m is = subst (λ xs. Contains xs root) (sym (ap (lineage d) is ∙ lineage-root d t)) (Contains-head root [])

-- no element of a list passes a test that none passes
pub list_any_member : (p : ℕ → Bool) (xs : List ℕ) (m : ℕ) → Contains xs m → list_any p xs ≡ false → p m ≡ false
list_any_member p [] m inside none = absurd (omega arith)
list_any_member p (x ∷ xs) m inside none =
    let parts = or_parts (p x) (list_any p xs) none in
    elim (Contains-cons_cases x m xs inside) [ inl is ↦ ap p (sym is) ∙ parts.0 | inr more ↦ list_any_member p xs m more parts.1 ]

pub root_above : (d : Document) (t : IsTree d) (l m : ℕ) → has d m ≡ true → t.level m ≤ l → Contains (lineage d m) root
root_above d t zero m there low = at_root d t m (elim (eqb_tells m root) [
  | inl (_, is) ↦ is
  | inr (_, below) ↦ (let place = t.hung m there below in let e = t.deeper place.0 m place.1 in absurd (omega arith))
])
root_above d t (suc l) m there low = elim (eqb_tells m root) [
  | inl (_, is) ↦ at_root d t m is
  | inr (_, below) ↦ (let place = t.hung m there below in let e = t.deeper place.0 m place.1 in
      subst (λ xs. Contains xs root) (sym (lineage-child d t place.0 m place.1)) (Contains-tail m root (lineage d place.0) (root_above d t l place.0 (has_children d place.0 m place.1) (omega arith))))
]

module _ (es : List (ℕ × NodeEntry)) (focus : Option ℕ) (used : List ℕ) (kept : IsKept (document_of es focus used) es) (n into : ℕ) (before : Option ℕ) (may : MayMove (document_of es focus used) n into before) where
  abbrev d : Document
  d = document_of es focus used

  abbrev t : IsTree d
  t = kept.tree

  -- the root is above each node
  apart : n ≢ root
  apart same = false≢true (sym may.out ∙ list_any-from_Contains nat_eq_equiv n (lineage d into) (subst (Contains (lineage d into)) (sym same) (root_above d t (t.level into) into may.parent_known (omega arith))))

  out : Contains (subtree d n) into → ⊥
  out inside = false≢true (sym may.out ∙ list_any-from_Contains nat_eq_equiv n (lineage d into) (lineage_within_subtree d t n into inside))

  low : (m : ℕ) → Contains (subtree d n) m → depth d into + 1 + (depth d m - depth d n) ≤ 64
  low m inside = ltb-false 64 (depth d into + 1 + (depth d m - depth d n)) (none_deep (subtree d n) m inside may.low)
    where
      none_deep : (xs : List ℕ) (m : ℕ) → Contains xs m → list_any (λ m. nat_lt 64 (depth d into + 1 + (depth d m - depth d n))) xs ≡ false → nat_lt 64 (depth d into + 1 + (depth d m - depth d n)) ≡ false
      none_deep xs m inside none = list_any_member (λ m. nat_lt 64 (depth d into + 1 + (depth d m - depth d n))) xs m inside none

  module _ (list : List ℕ) (listed : list ≡ placed before n (without n (children d into))) (base top : ℕ) (base_is : base ≡ depth d into + 1) (top_is : top ≡ depth d n)
      (es2 es3 es4 : List (ℕ × NodeEntry)) (second : IsRewritten es es2 (relinked (parent d n) n into list))
      (third : IsRewritten es2 es3 (with_parent n into)) (fourth : IsRewritten es3 es4 (rebased_among (subtree d n) base top)) where
    abbrev after : Document
    after = moved d n into before

    -- what becomes of an entry
    abbrev made : ℕ → NodeEntry → NodeEntry
    made q s = rebased_among (subtree d n) base top q (with_parent n into q (with_list into list q (unlinked (parent d n) n q s)))

    all : IsRewritten es es4 made
    all = rewritten_then es es3 es4 (λ q s. with_parent n into q (with_list into list q (unlinked (parent d n) n q s))) (rebased_among (subtree d n) base top)
        (rewritten_then es es2 es3 (λ q s. with_list into list q (unlinked (parent d n) n q s)) (with_parent n into) second third) fourth

    keys_same : keys_of (nodes_of es4) ≡ ids after
    keys_same = keys_of-map_values node_of es4 ∙ all.same_ids ∙ sym (keys_of-map_values node_of es) ∙ sym (ids_moved d t n into before apart may.known may.parent_known may.element out low)

    -- the node of an entry goes through the writes of cells
    lifted_node : (q : ℕ) (s : NodeEntry) → node_of (rebased_among (subtree d n) base top q (with_parent n into q s)) ≡ node_of s
    lifted_node q s = go (list_any (nat_eq q) (subtree d n)) (eqb n q)
      where
        go : (x y : Bool) → node_of (cond x (rebased base top (cond y (record s { cell = record s.cell { parent = Some into } }) s)) (cond y (record s { cell = record s.cell { parent = Some into } }) s)) ≡ node_of s
        go true true = refl
        go true false = refl
        go false true = refl
        go false false = refl

    made_node : (q : ℕ) (s : NodeEntry) → entry_at es q ≡ Some s → node_of (made q s) ≡ cond (eqb into q) (record { body = s.cell.body; children = list }) (unhung_node n (node_of s))
    made_node q s found = lifted_node q (with_list into list q (unlinked (parent d n) n q s)) ∙ go (eqb into q)
      where
        go : (x : Bool) → node_of (cond x (record (unlinked (parent d n) n q s) { children = list }) (unlinked (parent d n) n q s)) ≡ cond x (record { body = s.cell.body; children = list }) (unhung_node n (node_of s))
        go true = ap (λ (c : Cell). record { body = c.body; children = list }) (taken_cell es focus used kept n q s)
        go false = taken_node es focus used kept n q s found

    abbrev new_node : Node
    new_node = record { body = body (unhung_from d n) into; children = placed before n (children (unhung_from d n) into) }

    list_same : list ≡ placed before n (children (unhung_from d n) into)
    list_same = listed ∙ ap (placed before n) (sym (children_unhung d t n into before apart may.known may.parent_known may.element out low into))

    node_same : (q : ℕ) → node (document_of es4 focus used) q ≡ node after q
    node_same q =
        node_there es4 focus used q ∙ ap (option_map node_of) (all.each q) ∙ go (entry_at es q) refl (finds into q) refl
        ∙ ap (λ o. cond (finds into q) (Some new_node) (option_map (unhung_node n) o)) (sym (node_there es focus used q))
        ∙ ap (λ o. cond (finds into q) (Some new_node) o) (sym (node_unhung d t n into before apart may.known may.parent_known may.element out low q))
        ∙ sym (node_moved d t n into before apart may.known may.parent_known may.element out low q)
      where
        go : (o : Option NodeEntry) → entry_at es q ≡ o → (x : Bool) → finds into q ≡ x → option_map node_of (option_map (made q) o) ≡ cond x (Some new_node) (option_map (unhung_node n) (option_map node_of o))
        go None is true at = absurd (false≢true (ap is_some (sym is) ∙ ap (λ m. is_some (entry_at es m)) (sym (found_is into q at)) ∙ has_is es focus used d into refl ∙ may.parent_known))
        go None is false at = refl
        go (Some s) is true at =
            ap (λ y. Some y) (made_node q s is ∙ ap (λ b. cond b (record { body = s.cell.body; children = list }) (unhung_node n (node_of s))) (sym (finds_is into q) ∙ at)
            ∙ (λ i. record { body = (ap (λ (c : Cell). c.body) (kept.cells q s is) ∙ ap (body d) (sym (found_is into q at)) ∙ sym (body_unhung d t n into before apart may.known may.parent_known may.element out low into)) i; children = list_same i }))
        go (Some s) is false at = ap (λ y. Some y) (made_node q s is ∙ ap (λ b. cond b (record { body = s.cell.body; children = list }) (unhung_node n (node_of s))) (sym (finds_is into q) ∙ at))

    document_same : document_of es4 focus used ≡ after
    document_same = λ i. record {
      nodes = same_rising (nodes_of es4) after.nodes (subst IsStrictlyIncreasing (sym keys_same) (tree_moved d t n into before apart may.known may.parent_known may.element out low).rising) keys_same node_same i;
      focus = focus;
      used = used;
    }

    -- the cell of an entry
    made_cell : (q : ℕ) (s : NodeEntry) → (made q s).cell ≡ cond (is_within d n q) (record (cond (eqb n q) (record s.cell { parent = Some into }) s.cell) { depth = min (base + min (s.cell.depth - top) 64) 64 }) (cond (eqb n q) (record s.cell { parent = Some into }) s.cell)
    made_cell q s = go (is_within d n q) (eqb n q) (with_list into list q (unlinked (parent d n) n q s)) (listed_cell (eqb into q))
      where
        listed_cell : (x : Bool) → (cond x (record (unlinked (parent d n) n q s) { children = list }) (unlinked (parent d n) n q s)).cell ≡ s.cell
        listed_cell true = taken_cell es focus used kept n q s
        listed_cell false = taken_cell es focus used kept n q s

        go : (x y : Bool) (r : NodeEntry) → r.cell ≡ s.cell
            → (cond x (rebased base top (cond y (record r { cell = record r.cell { parent = Some into } }) r)) (cond y (record r { cell = record r.cell { parent = Some into } }) r)).cell
            ≡ cond x (record (cond y (record s.cell { parent = Some into }) s.cell) { depth = min (base + min (s.cell.depth - top) 64) 64 }) (cond y (record s.cell { parent = Some into }) s.cell)
        go true true r same = ap (λ (c : Cell). record c { parent = Some into; depth = min (base + min (c.depth - top) 64) 64 }) same
        go true false r same = ap (λ (c : Cell). record c { depth = min (base + min (c.depth - top) 64) 64 }) same
        go false true r same = ap (λ (c : Cell). record c { parent = Some into }) same
        go false false r same = same

    depth_is : (q : ℕ) → Contains (subtree d n) q → min (base + min (depth d q - top) 64) 64 ≡ depth d into + 1 + (depth d q - depth d n)
    depth_is q inside = (λ i. min (base_is i + min (depth d q - top_is i) 64) 64) ∙ (let l = low q inside in omega arith)

    cell_same : (q : ℕ) (s : NodeEntry) → entry_at es q ≡ Some s → (made q s).cell ≡ cell_of after q
    cell_same q s found = made_cell q s ∙ ap (λ (c : Cell). cond (is_within d n q) (record (cond (eqb n q) (record c { parent = Some into }) c) { depth = min (base + min (c.depth - top) 64) 64 }) (cond (eqb n q) (record c { parent = Some into }) c)) (kept.cells q s found) ∙ go (is_within d n q) (eqb n q) refl refl
      where
        there : has d q ≡ true
        there = sym (has_is es focus used d q refl) ∙ ap is_some found

        go : (x y : Bool) → is_within d n q ≡ x → eqb n q ≡ y
            → cond x (record (cond y (record (cell_of d q) { parent = Some into }) (cell_of d q)) { depth = min (base + min (depth d q - top) 64) 64 }) (cond y (record (cell_of d q) { parent = Some into }) (cell_of d q)) ≡ cell_of after q
        go true true on same =
            let is : n ≡ q = eqb-true n q same in
            ap (λ m. record (cell_of d m) { parent = Some into; depth = min (base + min (depth d m - top) 64) 64 }) (sym is)
            ∙ ap (λ k. record (cell_of d n) { parent = Some into; depth = k }) (depth_is n (subtree_has d t n))
            ∙ cell_itself d t n into before apart may.known may.parent_known may.element out low ∙ ap (cell_of after) is
        go true false on other =
            ap (λ k. record (cell_of d q) { depth = k }) (depth_is q (within_is d n q on))
            ∙ cell_inside d t n into before apart may.known may.parent_known may.element out low q (within_is d n q on) (λ same. false≢true (sym other ∙ eq-eqb n q (sym same)))
        go false true off same = absurd (not_within d n q off (subst (Contains (subtree d n)) (eqb-true n q same) (subtree_has d t n)))
        go false false off other = cell_outside d t n into before apart may.known may.parent_known may.element out low q there off

    kept_same_cells : IsKept (document_of es4 focus used) es4
    kept_same_cells = subst (λ x. IsKept x es4) (sym document_same) (record {
      tree = tree_moved d t n into before apart may.known may.parent_known may.element out low;
      cells = λ q x found.
          let from = found_from (made q) (entry_at es q) x (sym (all.each q) ∙ found) in
          ap (λ (y : NodeEntry). y.cell) (sym from.2) ∙ cell_same q from.0 from.1;
      marked = λ q there top. kept.marked q (sym (has_moved d t n into before apart may.known may.parent_known may.element out low q) ∙ there) top;
    })

-- the same, by what the code knows
module _ (es : List (ℕ × NodeEntry)) (focus : Option ℕ) (used : List ℕ) (kept : IsKept (document_of es focus used) es) (now : Document) (view : document_of es focus used ≡ now) (n into : ℕ) (before : Option ℕ) (may : MayMove now n into before)
    (list : List ℕ) (listed : list ≡ placed before n (without n (children now into))) (base top : ℕ) (base_is : base ≡ depth now into + 1) (top_is : top ≡ depth now n) (from : Option ℕ) (from_is : from ≡ parent now n)
    (whole : List ℕ) (whole_is : whole ≡ subtree now n)
    (es2 es3 es4 : List (ℕ × NodeEntry)) (second : IsRewritten es es2 (relinked from n into list))
    (third : IsRewritten es2 es3 (with_parent n into)) (fourth : IsRewritten es3 es4 (rebased_among whole base top)) where
  abbrev here : Document
  here = document_of es focus used

  may_here : MayMove here n into before
  may_here = subst (λ x. MayMove x n into before) (sym view) may

  listed_here : list ≡ placed before n (without n (children here into))
  listed_here = listed ∙ ap (λ x. placed before n (without n (children x into))) (sym view)

  base_here : base ≡ depth here into + 1
  base_here = base_is ∙ ap (λ x. depth x into + 1) (sym view)

  top_here : top ≡ depth here n
  top_here = top_is ∙ ap (λ x. depth x n) (sym view)

  second_here : IsRewritten es es2 (relinked (parent here n) n into list)
  second_here = subst (λ o. IsRewritten es es2 (relinked o n into list)) (from_is ∙ ap (λ x. parent x n) (sym view)) second

  fourth_here : IsRewritten es3 es4 (rebased_among (subtree here n) base top)
  fourth_here = subst (λ xs. IsRewritten es3 es4 (rebased_among xs base top)) (whole_is ∙ ap (λ x. subtree x n) (sym view)) fourth

  pub document_moved : document_of es4 focus used ≡ moved now n into before
  document_moved = document_same es focus used kept n into before may_here list listed_here base top base_here top_here es2 es3 es4 second_here third fourth_here ∙ ap (λ x. moved x n into before) view

  pub kept_moved : IsKept (document_of es4 focus used) es4
  kept_moved = kept_same_cells es focus used kept n into before may_here list listed_here base top base_here top_here es2 es3 es4 second_here third fourth_here
