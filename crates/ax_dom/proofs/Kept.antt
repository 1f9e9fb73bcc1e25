-- What the cells at an id say of the document.
use Rattle.std.proofs.Common.{◌≡◌, ℕ, List, [], ◌∷◌, Bool, true, false, cond, Option, Some, None, is_some, refl, sym, ap, ◌∙◌}
use Rattle.std.specs.Prelude.{find, nat_eq, length}
use Rattle.std.specs.List.{list_any}
use Rattle.std.specs.Str.{chars}
use Rattle.std.specs.Option.{option_map, option_map_or}
use Rattle.std.specs.Ordering.{nat_cmp}
use Rattle.std.specs.BTreeMap.{is_at}
use Rattle.std.proofs.lemmas.Bool.{false≢true, eqb-true, eq-eqb}
use Rattle.std.proofs.lemmas.Map.Made.{lookup-map_values}
use Rattle.std.proofs.lemmas.Map.Views.{Contains-from_any}
use Rattle.ax_base.specs.declared.body.Body.TheVariants.{Words}
use Rattle.ax_base.specs.Document.{Document, Node, node, has, children, parent, depth, body, is_text, ids, lineage}
use Rattle.ax_base.specs.Trees.{IsTree}
use Rattle.ax_base.proofs.Places.{parent-child, parent-unknown}
use Rattle.ax_dom.specs.declared.cell.NodeEntry.{NodeEntry}
use Rattle.ax_dom.specs.NodeMaps.{cell_of, cell_at, entry_at, node_of, document_of, IsKept}
use Rattle.ax_dom.specs.Refusals.{is_place, length_of}

no_characters : length_of (Words [] []) ≡ 0
unfolding chars
no_characters = refl

module _ (es : List (ℕ × NodeEntry)) (focus : Option ℕ) (used : List ℕ) where
  abbrev here : Document
  here = document_of es focus used

  pub node_there : (n : ℕ) → node here n ≡ option_map node_of (entry_at es n)
  node_there n = lookup-map_values node_of (is_at (nat_cmp n)) es

  node_found : (n : ℕ) (s : NodeEntry) → Some s ≡ entry_at es n → node here n ≡ Some (node_of s)
  node_found n s found = node_there n ∙ ap (option_map node_of) (sym found)

  node_missing : (n : ℕ) → None ≡ entry_at es n → node here n ≡ None
  node_missing n none = node_there n ∙ ap (option_map node_of) (sym none)

  module _ (d : Document) (n : ℕ) (view : here ≡ d) where
    is_some-map : {A B : Type 0} (f : A → B) (o : Option A) → is_some o ≡ is_some (option_map f o)
    is_some-map f None = refl
    is_some-map f (Some x) = refl

    pub has_is : is_some (entry_at es n) ≡ has d n
    has_is = is_some-map node_of (entry_at es n) ∙ ap is_some (sym (node_there n)) ∙ ap (λ d. has d n) view

    pub cell_found : (s : NodeEntry) → Some s ≡ entry_at es n → IsKept here es → Some s.cell ≡ cell_at d n
    cell_found s found kept = ap (λ c. Some c) (kept.cells n s (sym found)) ∙ ap (λ o. cond (is_some o) (Some (cell_of here n)) None) (sym (node_found n s found)) ∙ ap (λ d. cell_at d n) view

    pub cell_missing : None ≡ entry_at es n → None ≡ cell_at d n
    cell_missing none = ap (λ o. cond (is_some o) (Some (cell_of here n)) None) (sym (node_missing n none)) ∙ ap (λ d. cell_at d n) view

    pub children_found : (s : NodeEntry) → Some s ≡ entry_at es n → s.children ≡ children d n
    children_found s found = ap (λ o. option_map_or (λ (e : Node). e.children) o []) (sym (node_found n s found)) ∙ ap (λ d. children d n) view

    pub children_missing : None ≡ entry_at es n → [] ≡ children d n
    children_missing none = ap (λ o. option_map_or (λ (e : Node). e.children) o []) (sym (node_missing n none)) ∙ ap (λ d. children d n) view

    pub body_missing : None ≡ entry_at es n → true ≡ is_text (body d n)
    body_missing none = ap (λ o. is_text (option_map_or (λ (e : Node). e.body) o (Words [] []))) (sym (node_missing n none)) ∙ ap (λ d. is_text (body d n)) view

    pub length_missing : None ≡ entry_at es n → 0 ≡ length_of (body d n)
    length_missing none = sym no_characters ∙ ap (λ o. length_of (option_map_or (λ (e : Node). e.body) o (Words [] []))) (sym (node_missing n none)) ∙ ap (λ d. length_of (body d n)) view

    parent_none : IsTree here → None ≡ entry_at es n → parent here n ≡ None
    parent_none tree none = parent-unknown here tree n (ap is_some (node_missing n none))

    pub parent_missing : IsTree here → None ≡ entry_at es n → None ≡ parent d n
    parent_missing tree none = sym (parent_none tree none) ∙ ap (λ d. parent d n) view

    pub depth_missing : IsTree here → None ≡ entry_at es n → 0 ≡ depth d n
    depth_missing tree none = ap (λ o. length (option_map_or (lineage here) o [])) (sym (parent_none tree none)) ∙ ap (λ d. depth d n) view

    pub not_missing : None ≡ entry_at es n → has d n ≡ true → ⊥
    not_missing none there = false≢true (ap is_some none ∙ has_is ∙ there)

-- what is found passes the test
pub found_passes : (test : ℕ → Bool) (xs : List ℕ) (p : ℕ) → find test xs ≡ Some p → test p ≡ true
found_passes test [] p found = cc
found_passes test (x ∷ xs) p found = go (test x) refl (found_passes test xs p) found
  where
    go : (b : Bool) → test x ≡ b → (find test xs ≡ Some p → test p ≡ true) → cond b (Some x) (find test xs) ≡ Some p → test p ≡ true
    go true passes rest found = let same : x ≡ p = cc in ap test (sym same) ∙ passes
    go false fails rest found = rest found

-- an id is a child of a node exactly where that is its parent
pub child_by_parent : (d : Document) → IsTree d → (into b : ℕ) → option_map_or (nat_eq into) (parent d b) false ≡ is_place d into (Some b)
child_by_parent d tree into b = go (list_any (nat_eq b) (children d into)) refl
  where
    other : (o : Option ℕ) → parent d b ≡ o → list_any (nat_eq b) (children d into) ≡ false → option_map_or (nat_eq into) o false ≡ false
    other None is fails = refl
    other (Some p) is fails = apart (nat_eq into p) refl
      where
        apart : (x : Bool) → nat_eq into p ≡ x → x ≡ false
        apart false e = refl
        apart true e = absurd (false≢true (sym fails ∙ ap (λ q. list_any (nat_eq b) (children d q)) (eqb-true into p e) ∙ found_passes (λ q. list_any (nat_eq b) (children d q)) (ids d) p is))

    go : (x : Bool) → list_any (nat_eq b) (children d into) ≡ x → option_map_or (nat_eq into) (parent d b) false ≡ x
    go true is = ap (λ o. option_map_or (nat_eq into) o false) (parent-child d tree into b (Contains-from_any eqb-true b (children d into) is)) ∙ eq-eqb into into refl
    go false is = other (parent d b) refl is
