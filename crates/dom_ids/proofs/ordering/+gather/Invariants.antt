use Rattle.std.proofs.Common.{◌≡◌, ◌-◌, ◌++◌, ◌∷◌, take}
use Rattle.std.specs.Prelude.{filter}
use Rattle.std.specs.List.{flat_map}
use Rattle.ax_base.specs.Document.{depth}
use Rattle.ax_dom.specs.Among.{is_in}
use Rattle.ax_dom.specs.Subtrees.{subtree}
use Rattle.dom_ids.proofs.ordering.+gather.Given as goal

-- how many levels may still be below the node
abbrev pub decreases-gather : goal.decreases-gather
decreases-gather g l = 65 - depth l.dom.now l.id

-- the node, and what is below the children so far, were gathered
abbrev pub invariant-loop-child : goal.invariant-loop-child
invariant-loop-child g l = l.out ≡ l.fn.out ++ filter (is_in l.wanted) (l.fn.id ∷ flat_map (subtree l.dom) (take l.child-index l.child-items))
