-- Another focused node.
use Rattle.std.proofs.Common.{◌≡◌, ℕ, List, true, Option, Some, None, refl, sym, ap, ◌∙◌}
use Rattle.ax_base.specs.Document.{Document, has}
use Rattle.ax_base.proofs.Shapes.{HasShapeOf, parent_same, depth_same, tree_same}
use Rattle.ax_dom.specs.declared.cell.NodeEntry.{NodeEntry}
use Rattle.ax_dom.specs.NodeMaps.{cell_of, document_of, IsKept}
use Rattle.ax_dom.specs.Changes.{with_focus}
use Rattle.ax_dom.specs.Refusals.{may_focus}

shape_focused : (d : Document) (focus : Option ℕ) → HasShapeOf d (with_focus d focus)
shape_focused d focus = record { ids_same = refl; has_same = λ n. refl; children_same = λ n. refl; text_same = λ n. refl }

focus_there : (d : Document) (focus : Option ℕ) → may_focus d focus ≡ true → (n : ℕ) → focus ≡ Some n → has d n ≡ true
focus_there d None may n some = cc
focus_there d (Some m) may n some = let same : m ≡ n = cc in ap (has d) (sym same) ∙ may

pub kept_focused : (es : List (ℕ × NodeEntry)) (was focus : Option ℕ) (used : List ℕ) → IsKept (document_of es was used) es → (now : Document) → document_of es was used ≡ now → may_focus now focus ≡ true → IsKept (document_of es focus used) es
kept_focused es was focus used kept now view may =
    let d = document_of es was used in
    let there : may_focus d focus ≡ true = ap (λ x. may_focus x focus) view ∙ may in
    let shape = shape_focused d focus in
    record {
      tree = tree_same d (with_focus d focus) shape kept.tree.fits kept.tree.runs kept.tree.within (focus_there d focus there) kept.tree;
      cells = λ n s found. kept.cells n s found ∙ (λ i. record { id = n; parent = sym (parent_same d (with_focus d focus) shape n) i; depth = sym (depth_same d (with_focus d focus) shape n) i; body = (cell_of d n).body });
      marked = kept.marked;
    }
