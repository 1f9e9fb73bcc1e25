use Rattle.std.proofs.Common.{◌≡◌, ◌+◌, ◌-◌, nat_lt, false, take}
use Rattle.std.specs.List.{list_any, flat_map}
use Rattle.ax_base.specs.Document.{depth}
use Rattle.ax_dom.specs.Subtrees.{subtree}
use Rattle.ax_dom.proofs.dom.Dom.+has_deeper.Given as goal

-- how many levels may still be below the node
abbrev pub decreases-has_deeper : goal.decreases-has_deeper
decreases-has_deeper l = 65 - depth l.self.now l.id

-- nothing below the children so far is too deep
abbrev pub invariant-loop-child : goal.invariant-loop-child
invariant-loop-child l = list_any (λ m. nat_lt 64 (l.base + (depth l.self m - l.top))) (flat_map (subtree l.self) (take l.child-index l.child-items)) ≡ false
