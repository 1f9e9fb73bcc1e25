-- What a node says, by the cell that was read.
use Rattle.std.proofs.Common.{◌≡◌, ℕ, ◌+◌, ◌-◌, ◌*◌, ◌<◌, Bool, true, false, cond, Some, None, List, [], length, get_or, Contains, codes, refl, sym, ap, subst, ◌∙◌, arith}
use Rattle.ax_base.specs.declared.attrs.Attr.{Attr}
use Rattle.ax_base.specs.declared.body.Body.TheVariants.{Element}
use Rattle.ax_base.specs.declared.rect.Rect.{Rect}
use Rattle.ax_base.specs.declared.role.Role.{Role}
use Rattle.ax_base.specs.Characters.{Chars, is_blank}
use Rattle.ax_base.specs.Values.{text_in}
use Rattle.ax_base.specs.Document.{Document, has, depth, children, IsChild}
use Rattle.ax_base.specs.Trees.{IsTree}
use Rattle.ax_base.specs.Said.{said_by, embedded}
use Rattle.ax_base.proofs.Places.{depth-level, has_children}
use Rattle.ax_dom.specs.declared.cell.Cell.{Cell}
use Rattle.ax_dom.specs.NodeMaps.{cell_of, cell_at}
use Rattle.ax_names.specs.OwnTexts.{said_or, title_said, element_says}

pub child_of : (d : Document) (n k x : ℕ) (xs : List ℕ) → xs ≡ children d n → k < length xs → x ≡ get_or xs k x → IsChild d n x
child_of d n k x xs same low is = subst (λ ys. Contains ys x) same (k, low, sym is)

pub cell_is : (d : Document) (n : ℕ) (x : Cell) → Some x ≡ cell_at d n → x ≡ cell_of d n
cell_is d n x = go (has d n)
  where
    go : (b : Bool) → Some x ≡ cond b (Some (cell_of d n)) None → x ≡ cell_of d n
    go true e = cc
    go false e = cc

-- a cell of a node is that of its own id
pub own_cell : (d : Document) (n : ℕ) (x : Cell) → x ≡ cell_of d n → x ≡ cell_of d x.id
own_cell d n x is = is ∙ ap (cell_of d) (sym (ap (λ (y : Cell). y.id) is))

pub descends : (d : Document) → IsTree d → (n c : ℕ) → IsChild d n c → 4 * (65 - depth d c) + 3 < 4 * (65 - depth d n)
descends d t n c child =
    let e = depth-level d t n (has_children d n c child) in
    let f = depth-level d t c (t.known n c child) in
    let s = t.shallow c in
    let u = t.deeper n c child in
    omega arith

-- what its own text is, where the label is blank or not, and the embedded text too
by_turns : (a e below title : Chars) (x y : Bool) → is_blank a ≡ x → is_blank e ≡ y
    → cond (is_blank a) (cond (is_blank e) (said_or below title) e) a ≡ said_or (cond (is_blank a) (cond (is_blank e) [] e) a) (said_or below title)
by_turns a e below title false y p q = rw p (rw p refl)
by_turns a e below title true false p q = rw p (rw q (rw q refl))
by_turns a e below title true true p q = rw p (rw q refl)

pub element_is : (r : Role) (tag : Chars) (attrs : List Attr) (frame : Rect) (below : Chars) → said_by r [] (Element tag attrs frame) below ≡ element_says r tag attrs below
element_is r tag attrs frame below = by_turns (text_in (codes "aria-label") attrs) (embedded r tag attrs) below (title_said attrs) _ _ refl refl
