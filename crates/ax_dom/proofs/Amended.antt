-- What an edit of one node comes to.
use Rattle.std.proofs.Common.{◌≡◌, ℕ, List, [], Bool, true, false, cond, Option, Some, is_some, refl, sym, ap, subst, ◌∙◌}
use Rattle.std.specs.Option.{option_map_or}
use Rattle.std.specs.Ordering.{nat_cmp}
use Rattle.std.specs.Map.{set_value}
use Rattle.std.specs.BTreeMap.{is_at}
use Rattle.std.proofs.lemmas.Map.{keys-set_value}
use Rattle.std.proofs.lemmas.Option.{same_Some}
use Rattle.ax_base.specs.declared.body.Body.{Body}
use Rattle.ax_base.specs.declared.body.Body.TheVariants.{Element, Words}
use Rattle.ax_base.specs.Document.{Document, Node, node, has, children, body, is_text}
use Rattle.ax_base.specs.Rects.{HasRectsWithin}
use Rattle.ax_base.specs.Runs.{KeepsRuns}
use Rattle.ax_base.specs.Texts.{IsFitting}
use Rattle.ax_base.proofs.Lookups.{finds, finds_same, found_is, lookup-set_value_at}
use Rattle.ax_base.proofs.Shapes.{HasShapeOf, parent_same, depth_same, tree_same}
use Rattle.ax_dom.specs.declared.cell.Cell.{Cell}
use Rattle.ax_dom.specs.declared.cell.NodeEntry.{NodeEntry}
use Rattle.ax_dom.specs.declared.edit.Edit.{Edit}
use Rattle.ax_dom.specs.declared.edit.Edit.TheVariants.{InsertElement, InsertText, Remove, Move, Chars, Set, Unset, SetRuns, Frame, Focus}
use Rattle.ax_dom.specs.NodeMaps.{cell_of, entry_at, nodes_of, document_of, IsKept}
use Rattle.ax_dom.specs.Bodies.{body_after, entry_after}
use Rattle.ax_dom.specs.Bounds.{EditKeepsBounds}
use Rattle.ax_dom.specs.Changes.{with_body}
use Rattle.ax_dom.specs.Refusals.{is_too_long, has_wrong_runs}
use Rattle.ax_dom.proofs.Bounded.{body_within}
use Rattle.ax_dom.proofs.Fitting.{text_fits}
use Rattle.ax_dom.proofs.Kept.{has_is, children_found}
use Rattle.ax_dom.proofs.RightRuns.{runs_after}
use Rattle.ax_dom.proofs.Entries.{nodes_of-set_value, the_entry}

-- no edit makes a text of an element, or an element of a text
pub kind_stays : (e : Edit) (b : Body) → is_text (body_after e b) ≡ is_text b
kind_stays (InsertElement id into before tag attrs) b = refl
kind_stays (InsertText id into before chars) b = refl
kind_stays (Remove id) b = refl
kind_stays (Move id into before) b = refl
kind_stays (Chars id chars) (Element tag attrs frame) = refl
kind_stays (Chars id chars) (Words old runs) = refl
kind_stays (Set id name value) (Element tag attrs frame) = refl
kind_stays (Set id name value) (Words chars runs) = refl
kind_stays (Unset id name) (Element tag attrs frame) = refl
kind_stays (Unset id name) (Words chars runs) = refl
kind_stays (SetRuns id new) (Element tag attrs frame) = refl
kind_stays (SetRuns id new) (Words chars runs) = refl
kind_stays (Frame id rect) (Element tag attrs frame) = refl
kind_stays (Frame id rect) (Words chars runs) = refl
kind_stays (Focus id) b = refl

-- an edit that is not too long keeps a node fitting
pub body_fits : (e : Edit) (b : Body) → is_too_long e ≡ false → IsFitting b → IsFitting (body_after e b)
body_fits (InsertElement id into before tag attrs) b short fit = fit
body_fits (InsertText id into before chars) b short fit = fit
body_fits (Remove id) b short fit = fit
body_fits (Move id into before) b short fit = fit
body_fits (Chars id chars) (Element tag attrs frame) short fit = tt
body_fits (Chars id chars) (Words old runs) short fit = text_fits chars short
body_fits (Set id name value) (Element tag attrs frame) short fit = tt
body_fits (Set id name value) (Words chars runs) short fit = fit
body_fits (Unset id name) (Element tag attrs frame) short fit = tt
body_fits (Unset id name) (Words chars runs) short fit = fit
body_fits (SetRuns id new) (Element tag attrs frame) short fit = tt
body_fits (SetRuns id new) (Words chars runs) short fit = fit
body_fits (Frame id rect) (Element tag attrs frame) short fit = tt
body_fits (Frame id rect) (Words chars runs) short fit = fit
body_fits (Focus id) b short fit = fit

-- another body of the same kind keeps the shape
module _ (d : Document) (n : ℕ) (b : Body) (there : has d n ≡ true) (kind : is_text b ≡ is_text (body d n)) where
  abbrev e : Document
  e = with_body d n b

  node_is : (q : ℕ) → node e q ≡ cond (finds n q) (Some (record { body = b; children = children d n })) (node d q)
  node_is q = lookup-set_value_at q n (record { body = b; children = children d n }) d.nodes there

  pub shape_amended : HasShapeOf d e
  shape_amended = record {
    ids_same = keys-set_value (is_at (nat_cmp n)) d.nodes (record { body = b; children = children d n });
    has_same = λ q. ap is_some (node_is q) ∙ go_has q (finds n q) refl;
    children_same = λ q. ap (λ o. option_map_or (λ (x : Node). x.children) o []) (node_is q) ∙ go_children q (finds n q) refl;
    text_same = λ q. ap (λ o. is_text (option_map_or (λ (x : Node). x.body) o (Words [] []))) (node_is q) ∙ go_text q (finds n q) refl;
  }
    where
      go_has : (q : ℕ) (x : Bool) → finds n q ≡ x → is_some (cond x (Some (record { body = b; children = children d n })) (node d q)) ≡ has d q
      go_has q true same = sym (ap (has d) (sym (found_is n q same)) ∙ there)
      go_has q false apart = refl

      go_children : (q : ℕ) (x : Bool) → finds n q ≡ x → option_map_or (λ (x : Node). x.children) (cond x (Some (record { body = b; children = children d n })) (node d q)) [] ≡ children d q
      go_children q true same = ap (children d) (found_is n q same)
      go_children q false apart = refl

      go_text : (q : ℕ) (x : Bool) → finds n q ≡ x → is_text (option_map_or (λ (x : Node). x.body) (cond x (Some (record { body = b; children = children d n })) (node d q)) (Words [] [])) ≡ is_text (body d q)
      go_text q true same = kind ∙ ap (λ m. is_text (body d m)) (found_is n q same)
      go_text q false apart = refl

  pub body_here : body e n ≡ b
  body_here = ap (λ o. option_map_or (λ (x : Node). x.body) o (Words [] [])) (node_is n ∙ ap (λ x. cond x (Some (record { body = b; children = children d n })) (node d n)) (finds_same n n refl))

  pub body_apart : (q : ℕ) → finds n q ≡ false → body e q ≡ body d q
  body_apart q apart = ap (λ o. option_map_or (λ (x : Node). x.body) o (Words [] [])) (node_is q ∙ ap (λ x. cond x (Some (record { body = b; children = children d n })) (node d q)) apart)

  pub cell_here : record (cell_of d n) { body = b } ≡ cell_of e n
  unfolding shape_amended
  cell_here = λ i. record { id = n; parent = sym (parent_same d e shape_amended n) i; depth = sym (depth_same d e shape_amended n) i; body = sym body_here i }

  pub cell_apart : (q : ℕ) → finds n q ≡ false → cell_of d q ≡ cell_of e q
  unfolding shape_amended
  cell_apart q apart = λ i. record { id = q; parent = sym (parent_same d e shape_amended q) i; depth = sym (depth_same d e shape_amended q) i; body = sym (body_apart q apart) i }

module _ (es : List (ℕ × NodeEntry)) (focus : Option ℕ) (used : List ℕ) (kept : IsKept (document_of es focus used) es) (n : ℕ) (there : has (document_of es focus used) n ≡ true) (edit : Edit) (short : is_too_long edit ≡ false) (right : has_wrong_runs edit (body (document_of es focus used) n) ≡ false) (near : EditKeepsBounds edit)
    (fs : List (ℕ × NodeEntry)) (changed : (s : NodeEntry) → entry_at es n ≡ Some s → fs ≡ set_value (is_at (nat_cmp n)) es (entry_after edit s)) where
  abbrev d : Document
  d = document_of es focus used

  entry_here : (s : NodeEntry) × (entry_at es n ≡ Some s)
  entry_here = the_entry (entry_at es n) (has_is es focus used d n refl ∙ there)

  abbrev s : NodeEntry
  s = entry_here.0

  abbrev b : Body
  b = body_after edit (body d n)

  abbrev after : Document
  after = with_body d n b

  body_was : s.cell.body ≡ body d n
  body_was = ap (λ (x : Cell). x.body) (kept.cells n s entry_here.1)

  entries_are : fs ≡ set_value (is_at (nat_cmp n)) es (entry_after edit s)
  entries_are = changed s entry_here.1

  document_is : document_of fs focus used ≡ after
  document_is = λ i. record { nodes = nodes i; focus = focus; used = used }
    where
      nodes : nodes_of fs ≡ after.nodes
      nodes =
          ap nodes_of entries_are ∙ nodes_of-set_value (is_at (nat_cmp n)) es (entry_after edit s)
          ∙ (λ i. set_value (is_at (nat_cmp n)) (nodes_of es) (record { body = body_after edit (body_was i); children = children_found es focus used d n refl s (sym entry_here.1) i }))

  cells_are : (q : ℕ) (o : NodeEntry) → entry_at fs q ≡ Some o → o.cell ≡ cell_of after q
  cells_are q o found = go (finds n q) refl (sym (ap (λ x. entry_at x q) entries_are ∙ lookup-set_value_at q n (entry_after edit s) es (ap is_some entry_here.1)) ∙ found)
    where
      go : (x : Bool) → finds n q ≡ x → cond x (Some (entry_after edit s)) (entry_at es q) ≡ Some o → o.cell ≡ cell_of after q
      go true same found =
          ap (λ (x : NodeEntry). x.cell) (sym (same_Some (entry_after edit s) o found))
          ∙ ap (λ (c : Cell). record c { body = body_after edit c.body }) (kept.cells n s entry_here.1)
          ∙ cell_here d n b there (kind_stays edit (body d n)) ∙ ap (cell_of after) (found_is n q same)
      go false apart found = kept.cells q o found ∙ cell_apart d n b there (kind_stays edit (body d n)) q apart

  -- what the new body and the old ones have
  each_is : (P : Body → Type 0) → P b → ((q : ℕ) → P (body d q)) → (q : ℕ) → P (body after q)
  each_is P new old q = go (finds n q) refl
    where
      go : (x : Bool) → finds n q ≡ x → P (body after q)
      go true same = subst (λ m. P (body after m)) (found_is n q same) (subst P (sym (body_here d n b there (kind_stays edit (body d n)))) new)
      go false apart = subst P (sym (body_apart d n b there (kind_stays edit (body d n)) q apart)) (old q)

  kept_is : IsKept (document_of fs focus used) fs
  kept_is = subst (λ x. IsKept x fs) (sym document_is) (record {
    tree = tree_same d after (shape_amended d n b there (kind_stays edit (body d n))) (each_is IsFitting (body_fits edit (body d n) short (kept.tree.fits n)) kept.tree.fits) (each_is KeepsRuns (runs_after edit (body d n) right (kept.tree.runs n)) kept.tree.runs) (each_is HasRectsWithin (body_within edit (body d n) near (kept.tree.within n)) kept.tree.within) (λ q some. (shape_amended d n b there (kind_stays edit (body d n))).has_same q ∙ kept.tree.focused q some) kept.tree;
    cells = cells_are;
    marked = λ q has_q top. kept.marked q (sym ((shape_amended d n b there (kind_stays edit (body d n))).has_same q) ∙ has_q) top;
  })

-- the same, by what the code knows
module _ (es : List (ℕ × NodeEntry)) (focus : Option ℕ) (used : List ℕ) (kept : IsKept (document_of es focus used) es) (now : Document) (view : document_of es focus used ≡ now) (n : ℕ) (there : has now n ≡ true) where
  pub amended_there : is_some (entry_at es n) ≡ true
  amended_there = has_is es focus used now n view ∙ there

  module _ (edit : Edit) (short : is_too_long edit ≡ false) (right : has_wrong_runs edit (body now n) ≡ false) (near : EditKeepsBounds edit) (fs : List (ℕ × NodeEntry)) (changed : (s : NodeEntry) → entry_at es n ≡ Some s → fs ≡ set_value (is_at (nat_cmp n)) es (entry_after edit s)) where
    there_here : has (document_of es focus used) n ≡ true
    there_here = ap (λ d. has d n) view ∙ there

    right_here : has_wrong_runs edit (body (document_of es focus used) n) ≡ false
    right_here = ap (λ d. has_wrong_runs edit (body d n)) view ∙ right

    pub document_amended : document_of fs focus used ≡ with_body now n (body_after edit (body now n))
    document_amended = document_is es focus used kept n there_here edit short right_here near fs changed ∙ ap (λ d. with_body d n (body_after edit (body d n))) view

    pub kept_amended : IsKept (document_of fs focus used) fs
    kept_amended = kept_is es focus used kept n there_here edit short right_here near fs changed
