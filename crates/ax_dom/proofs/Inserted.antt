-- What the steps of an insert come to.
use Rattle.std.proofs.Common.{◌≡◌, inl, inr, ℕ, ◌+◌, ◌≤◌, List, [], length, Bool, true, false, cond, Option, Some, None, is_some, refl, sym, ap, subst, ◌∙◌, arith}
use Rattle.std.specs.List.{list_any}
use Rattle.std.specs.Ordering.{nat_cmp}
use Rattle.std.specs.Map.{set_value}
use Rattle.std.specs.BTreeMap.{is_at, insert_entry}
use Rattle.std.specs.BTreeSet.{insert_key}
use Rattle.std.specs.Set.{remove_key}
use Rattle.std.proofs.lemmas.Bool.{false≢true, or_left, or_right}
use Rattle.std.proofs.lemmas.Option.{same_Some}
use Rattle.ax_base.specs.declared.body.Body.{Body}
use Rattle.ax_base.specs.Document.{Document, ids, has, children, depth, body}
use Rattle.ax_base.proofs.Places.{depth-level}
use Rattle.ax_base.proofs.Lookups.{finds, finds_same, found_is, lookup-insert_entry, lookup-set_value_at, set_value-insert_entry, list_any-insert_key, remove_key-insert_key}
use Rattle.ax_dom.specs.declared.cell.Cell.{Cell}
use Rattle.ax_dom.specs.declared.cell.NodeEntry.{NodeEntry}
use Rattle.ax_dom.specs.NodeMaps.{cell_of, entry_at, nodes_of, document_of, IsKept}
use Rattle.ax_dom.specs.Places.{placed}
use Rattle.ax_dom.specs.Changes.{inserted}
use Rattle.ax_dom.specs.Used.{is_used}
use Rattle.ax_dom.specs.Refusals.{MayInsert}
use Rattle.ax_dom.proofs.Kept.{has_is, children_found}
use Rattle.ax_dom.proofs.Entries.{nodes_of-insert_entry, nodes_of-set_value, the_entry, entry_missing}
use Rattle.ax_dom.proofs.Few.{few_nodes}
use Rattle.ax_dom.proofs.Inserts.{tree_after, cell_kept, cell_new, has_cases, into_apart}

module _ (es : List (ℕ × NodeEntry)) (focus : Option ℕ) (used : List ℕ) (kept : IsKept (document_of es focus used) es) (id into : ℕ) (before : Option ℕ) (b : Body) (may : MayInsert (document_of es focus used) id into before b) where
  abbrev d : Document
  d = document_of es focus used

  lacks : has d id ≡ false
  lacks = go (has d id) refl
    where
      go : (x : Bool) → has d id ≡ x → x ≡ false
      go true there = absurd (false≢true (sym may.fresh ∙ kept.marked id there may.apart))
      go false there = refl

  entry_into : (s : NodeEntry) × (entry_at es into ≡ Some s)
  entry_into = the_entry (entry_at es into) (has_is es focus used d into refl ∙ may.known)

  abbrev s : NodeEntry
  s = entry_into.0

  pub fresh_entry : entry_at es id ≡ None
  fresh_entry = entry_missing (entry_at es id) (has_is es focus used d id refl ∙ lacks)

  low : kept.tree.level into ≤ 63
  low = let l = depth-level d kept.tree into may.known in let m = may.low in omega arith

  room : length (ids d) ≤ 65536
  room = let few = few_nodes d kept.tree.rising kept.marked in let more = may.room in omega arith

  abbrev new_entry : NodeEntry
  new_entry = record { cell = record { id = id; parent = Some into; depth = depth d into + 1; body = b }; children = [] }

  abbrev into_entry : NodeEntry
  into_entry = record { cell = s.cell; children = placed before id (children d into) }

  abbrev e : Document
  e = inserted d id into before b

  -- the entries after the insert
  abbrev after : List (ℕ × NodeEntry)
  after = insert_entry nat_cmp (set_value (is_at (nat_cmp into)) es into_entry) id new_entry

  document_after : document_of after focus (insert_key nat_cmp used id) ≡ e
  document_after = λ i. record { nodes = nodes i; focus = focus; used = insert_key nat_cmp used id }
    where
      bodies : s.cell.body ≡ body d into
      bodies = ap (λ (x : Cell). x.body) (kept.cells into s entry_into.1)

      nodes : nodes_of after ≡ e.nodes
      nodes =
          nodes_of-insert_entry (set_value (is_at (nat_cmp into)) es into_entry) id new_entry
          ∙ (λ i. insert_entry nat_cmp (nodes_of-set_value (is_at (nat_cmp into)) es into_entry i) id (record { body = b; children = [] }))
          ∙ (λ i. insert_entry nat_cmp (set_value (is_at (nat_cmp into)) (nodes_of es) (record { body = bodies i; children = placed before id (children d into) })) id (record { body = b; children = [] }))

  entry_after : (n : ℕ) → entry_at after n ≡ cond (finds n id) (Some new_entry) (cond (finds into n) (Some into_entry) (entry_at es n))
  entry_after n =
      lookup-insert_entry n id new_entry (set_value (is_at (nat_cmp into)) es into_entry)
      ∙ ap (λ o. cond (finds n id) (Some new_entry) o) (lookup-set_value_at n into into_entry es (ap is_some entry_into.1))

  cell_after : (n : ℕ) (o : NodeEntry) → entry_at after n ≡ Some o → o.cell ≡ cell_of e n
  cell_after n o there = go (finds n id) (finds into n) refl refl (sym (entry_after n) ∙ there)
    where
      go : (x y : Bool) → finds n id ≡ x → finds into n ≡ y → cond x (Some new_entry) (cond y (Some into_entry) (entry_at es n)) ≡ Some o → o.cell ≡ cell_of e n
      go true y at_id at_into there =
          ap (λ (x : NodeEntry). x.cell) (sym (same_Some new_entry o there)) ∙ cell_new d kept.tree id into before b lacks may.known low may.element room may.fits may.runs may.within ∙ ap (cell_of e) (sym (found_is n id at_id))
      go false true at_id at_into there =
          ap (λ (x : NodeEntry). x.cell) (sym (same_Some into_entry o there)) ∙ kept.cells into s entry_into.1
          ∙ cell_kept d kept.tree id into before b lacks may.known low may.element room may.fits may.runs may.within into may.known ∙ ap (cell_of e) (found_is into n at_into)
      go false false at_id at_into there =
          kept.cells n o there ∙ cell_kept d kept.tree id into before b lacks may.known low may.element room may.fits may.runs may.within n (sym (has_is es focus used d n refl) ∙ ap is_some there)

  kept_after : IsKept e after
  kept_after = record {
    tree = tree_after d kept.tree id into before b lacks may.known low may.element room may.fits may.runs may.within;
    cells = cell_after;
    marked = λ n there top. sym (list_any-insert_key n id used) ∙ (elim (has_cases d kept.tree id into before b lacks may.known low may.element room may.fits may.runs may.within n there) [
      | inl same ↦ or_left (finds n id) (list_any (is_at (nat_cmp n)) used) (finds_same n id same)
      | inr was ↦ or_right (finds n id) (list_any (is_at (nat_cmp n)) used) (kept.marked n was top)
    ]);
  }

  module _ (deep : ℕ) (depth_is : deep ≡ depth d into) (cs : List ℕ) (none : cs ≡ []) (fs : List (ℕ × NodeEntry))
      (hung : (s : NodeEntry) → entry_at es into ≡ Some s → fs ≡ set_value (is_at (nat_cmp into)) (insert_entry nat_cmp es id (record { cell = record { id = id; parent = Some into; depth = deep + 1; body = b }; children = cs })) (record s { children = placed before id s.children })) where
    entries_are : fs ≡ after
    entries_are =
        hung s entry_into.1
        ∙ (λ i. set_value (is_at (nat_cmp into)) (insert_entry nat_cmp es id (record { cell = record { id = id; parent = Some into; depth = depth_is i + 1; body = b }; children = none i })) (record { cell = s.cell; children = placed before id (children_found es focus used d into refl s (sym entry_into.1) i) }))
        ∙ set_value-insert_entry (is_at (nat_cmp into)) es id new_entry into_entry (into_apart d kept.tree id into before b lacks may.known low may.element room may.fits may.runs may.within)

    document_hung : document_of fs focus (insert_key nat_cmp used id) ≡ e
    document_hung = ap (λ x. document_of x focus (insert_key nat_cmp used id)) entries_are ∙ document_after

    kept_hung : IsKept (document_of fs focus (insert_key nat_cmp used id)) fs
    kept_hung = subst (λ x. IsKept x fs) (sym document_hung) (subst (IsKept e) (sym entries_are) kept_after)

-- the same, by what the code knows
module _ (es : List (ℕ × NodeEntry)) (focus : Option ℕ) (used : List ℕ) (kept : IsKept (document_of es focus used) es) (now : Document) (view : document_of es focus used ≡ now)
    (id into : ℕ) (before : Option ℕ) (b : Body) (may : MayInsert now id into before b) where
  may_here : MayInsert (document_of es focus used) id into before b
  may_here = subst (λ x. MayInsert x id into before b) (sym view) may

  pub into_there : is_some (entry_at es into) ≡ true
  into_there = has_is es focus used now into view ∙ may.known

  pub id_missing : entry_at es id ≡ None
  id_missing = fresh_entry es focus used kept id into before b may_here

  module _ (deep : ℕ) (depth_is : deep ≡ depth now into) (cs : List ℕ) (none : cs ≡ []) (fs : List (ℕ × NodeEntry))
      (hung : (s : NodeEntry) → entry_at es into ≡ Some s → fs ≡ set_value (is_at (nat_cmp into)) (insert_entry nat_cmp es id (record { cell = record { id = id; parent = Some into; depth = deep + 1; body = b }; children = cs })) (record s { children = placed before id s.children }))
      (marks : List ℕ) (marked : marks ≡ insert_key nat_cmp used id) where
    depth_here : deep ≡ depth (document_of es focus used) into
    depth_here = depth_is ∙ ap (λ x. depth x into) (sym view)

    pub document_inserted : document_of fs focus marks ≡ inserted now id into before b
    document_inserted =
        ap (document_of fs focus) marked ∙ document_hung es focus used kept id into before b may_here deep depth_here cs none fs hung
        ∙ ap (λ x. inserted x id into before b) view

    pub kept_inserted : IsKept (document_of fs focus marks) fs
    kept_inserted = subst (λ u. IsKept (document_of fs focus u) fs) (sym marked) (kept_hung es focus used kept id into before b may_here deep depth_here cs none fs hung)

-- a refused insert leaves what was there
pub kept_same : (es fs : List (ℕ × NodeEntry)) (focus : Option ℕ) (used marks : List ℕ) → IsKept (document_of es focus used) es → fs ≡ es → marks ≡ used → IsKept (document_of fs focus marks) fs
kept_same es fs focus used marks kept same_entries same_marks =
    subst (λ u. IsKept (document_of fs focus u) fs) (sym same_marks) (subst (λ x. IsKept (document_of x focus used) x) (sym same_entries) kept)

pub same_document : (es fs : List (ℕ × NodeEntry)) (focus : Option ℕ) (used marks : List ℕ) (now : Document) → document_of es focus used ≡ now → fs ≡ es → marks ≡ used → document_of fs focus marks ≡ now
same_document es fs focus used marks now view same_entries same_marks = (λ i. document_of (same_entries i) focus (same_marks i)) ∙ view

pub marks_back : (es : List (ℕ × NodeEntry)) (focus : Option ℕ) (used : List ℕ) (now : Document) → document_of es focus used ≡ now → (id : ℕ) → is_used now id ≡ false → remove_key (is_at (nat_cmp id)) (insert_key nat_cmp used id) ≡ used
marks_back es focus used now view id fresh = remove_key-insert_key id used (ap (λ d. is_used d id) view ∙ fresh)
