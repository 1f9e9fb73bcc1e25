-- The root alone is a tree.
use Rattle.std.proofs.Common.{◌≡◌, ℕ, List, [], ◌∷◌, Bool, true, false, cond, Some, None, is_some, Contains, refl, sym, ap, subst, ◌∙◌, arith}
use Rattle.std.specs.Option.{option_map_or}
use Rattle.std.specs.Ordering.{nat_cmp}
use Rattle.std.specs.BTreeMap.{insert_entry}
use Rattle.std.proofs.lemmas.Bool.{false≢true}
use Rattle.std.proofs.lemmas.Option.{same_Some}
use Rattle.ax_base.specs.declared.body.Body.{Body}
use Rattle.ax_base.specs.declared.body.Body.TheVariants.{Element, Words}
use Rattle.ax_base.specs.Document.{Document, Node, has, root, children, body, is_text, IsChild}
use Rattle.ax_base.specs.Rects.{HasRectsWithin}
use Rattle.ax_base.specs.Runs.{KeepsRuns}
use Rattle.ax_base.specs.Texts.{IsFitting}
use Rattle.ax_base.specs.Trees.{IsTree}
use Rattle.ax_base.proofs.Lookups.{finds, found_is}
use Rattle.ax_base.proofs.Repeats.{no_repeats-nil}
use Rattle.ax_base.specs.Trees.{HasNoRepeats}
use Rattle.ax_dom.specs.declared.cell.Cell.{Cell}
use Rattle.ax_dom.specs.declared.cell.NodeEntry.{NodeEntry}
use Rattle.ax_dom.specs.NodeMaps.{cell_of, document_of, IsKept}
use Rattle.ax_dom.proofs.Bounded.{no_runs_within}
use Rattle.ax_dom.proofs.Fitting.{nothing_fits}

module _ (b : Body) (element : is_text b ≡ false) (near : HasRectsWithin b) where
  abbrev cell : Cell
  cell = record { id = 1; parent = None; depth = 0; body = b }

  abbrev es : List (ℕ × NodeEntry)
  es = (1, record { cell = cell; children = [] }) ∷ []

  abbrev d : Document
  d = document_of es None []

  nothing_below : (n : ℕ) → children d n ≡ []
  nothing_below n = go (finds n 1)
    where
      go : (x : Bool) → option_map_or (λ (e : Node). e.children) (cond x (Some (record { body = b; children = [] })) None) [] ≡ []
      go true = refl
      go false = refl

  no_child : (n c : ℕ) → IsChild d n c → ⊥
  no_child n c child = let inside : Contains [] c = subst (λ xs. Contains xs c) (nothing_below n) child in omega arith

  only_root : (n : ℕ) → has d n ≡ true → n ≡ root
  only_root n there = go (finds n 1) refl there
    where
      go : (x : Bool) → finds n 1 ≡ x → is_some {T = Node} (cond x (Some (record { body = b; children = [] })) None) ≡ true → n ≡ root
      go true at there = found_is n 1 at
      go false at there = absurd (false≢true there)

  element_fits : (x : Body) → is_text x ≡ false → IsFitting x
  element_fits (Element tag attrs frame) is = tt
  element_fits (Words chars runs) is = absurd (false≢true (sym is))

  element_runs : (x : Body) → is_text x ≡ false → KeepsRuns x
  element_runs (Element tag attrs frame) is = tt
  element_runs (Words chars runs) is = absurd (false≢true (sym is))

  -- what the root's body and nothing have
  each : (P : Body → Type 0) → P b → P (Words [] []) → (n : ℕ) → P (body d n)
  each P here nothing n = go (finds n 1)
    where
      go : (x : Bool) → P (option_map_or (λ (e : Node). e.body) (cond x (Some (record { body = b; children = [] })) None) (Words [] []))
      go true = here
      go false = nothing

  tree : IsTree d
  tree = record {
    level = λ _. 0;
    has_root = refl;
    root_level = refl;
    root_element = element;
    known = λ n c child. absurd (no_child n c child);
    deeper = λ n c child. absurd (no_child n c child);
    shallow = λ n. omega arith;
    one_parent = λ m n c child other. absurd (no_child m c child);
    hung = λ n there top. absurd (top (only_root n there));
    once = λ n. subst HasNoRepeats (sym (nothing_below n)) no_repeats-nil;
    bare = λ n text. nothing_below n;
    rising = λ k low. absurd (omega arith);
    few = omega arith;
    fits = each IsFitting (element_fits b element) nothing_fits;
    runs = each KeepsRuns (element_runs b element) refl;
    within = each HasRectsWithin near no_runs_within;
    focused = λ n some. cc;
  }

  root_kept : IsKept d es
  root_kept = record {
    tree = tree;
    cells = λ n s there. at_root n s (finds n 1) refl there;
    marked = λ n there top. absurd (top (only_root n there));
  }
    where
      at_root : (n : ℕ) (s : NodeEntry) (x : Bool) → finds n 1 ≡ x → cond x (Some (record { cell = cell; children = [] })) None ≡ Some s → s.cell ≡ cell_of d n
      at_root n s true at there = let same : record { cell = cell; children = [] } ≡ s = same_Some _ s there in ap (λ (y : NodeEntry). y.cell) (sym same) ∙ ap (cell_of d) (sym (found_is n 1 at))
      at_root n s false at there = cc

-- the same of the entries that one insert into an empty map leaves
pub new_kept : (fs gs : List (ℕ × NodeEntry)) (b : Body) (cs used : List ℕ) → is_text b ≡ false → HasRectsWithin b → fs ≡ insert_entry nat_cmp gs 1 (record { cell = record { id = 1; parent = None; depth = 0; body = b }; children = cs }) → gs ≡ [] → cs ≡ [] → used ≡ []
    → IsKept (document_of fs None used) fs
new_kept fs gs b cs used element near added empty none unused =
    let all : fs ≡ es b element near = added ∙ (λ i. insert_entry nat_cmp (empty i) 1 (record { cell = record { id = 1; parent = None; depth = 0; body = b }; children = none i })) in
    subst (λ u. IsKept (document_of fs None u) fs) (sym unused) (subst (λ x. IsKept (document_of x None []) x) (sym all) (root_kept b element near))
