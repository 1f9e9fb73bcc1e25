use Rattle.std.proofs.Common.{◌+◌, ◌-◌, nat_lt, sym, arith}
use Rattle.std.proofs.lemmas.Bool.{lt-ltb, le-ltb}
use Rattle.ax_base.specs.Document.{IsChild, depth}
use Rattle.ax_dom.proofs.Walks.{child_of, descends, any_here, any_below, none_anywhere}
use Rattle.ax_dom.proofs.dom.Dom.+has_deeper.Goals as goal

pub returns-then-base-saturating_sub-gt-MAX_DEPTH : goal.returns-then-base-saturating_sub-gt-MAX_DEPTH
returns-then-base-saturating_sub-gt-MAX_DEPTH t c =
    any_here c.args.self.now (λ m. nat_lt 64 (c.args.base + (depth c.args.self.now m - c.args.top))) c.args.id
    (lt-ltb 64 (c.args.base + (depth c.args.self.now c.args.id - c.args.top)) (omega arith))

pub has_deeper-requires : goal.has_deeper-requires
has_deeper-requires t c =
    let child : IsChild c.args.self.now c.args.id c.child-item.result = child_of c.args.self.now c.args.id c.loop-child.child-index c.child-item.result _ c.children_of-child-items.ensures.value (omega arith) c.child-item.is in
    let m = descends c.args.self.now c.children_of-child-items.ensures.tree c.args.id c.child-item.result child in
    let l = c.decreases in
    (omega arith, c.requires)

pub returns-then-has_deeper : goal.returns-then-has_deeper
returns-then-has_deeper t c =
    let child : IsChild c.args.self.now c.args.id c.child-item.result = child_of c.args.self.now c.args.id c.loop-child.child-index c.child-item.result _ c.children_of-child-items.ensures.value (omega arith) c.child-item.is in
    any_below c.args.self.now c.children_of-child-items.ensures.tree (λ m. nat_lt 64 (c.args.base + (depth c.args.self.now m - c.args.top))) c.args.id c.child-item.result child (sym c.if-has_deeper.ensures)

pub returns : goal.returns
returns t c =
    none_anywhere c.args.self.now c.children_of-child-items.ensures.tree (λ m. nat_lt 64 (c.args.base + (depth c.args.self.now m - c.args.top))) c.args.id _ c.loop-child.child-index
    c.children_of-child-items.ensures.value (omega arith) (le-ltb 64 (c.args.base + (depth c.args.self.now c.args.id - c.args.top)) (omega arith)) c.loop-child.invariant
