use Rattle.std.proofs.Common.{◌≡◌, ℕ, take}
use Rattle.ax_dom.specs.Among.{is_in}
use Rattle.dom_ids.proofs.ordering.set_of.Given as goal

abbrev pub invariant-loop-node : goal.invariant-loop-node
invariant-loop-node l = (n : ℕ) → is_in l.set n ≡ is_in (take l.node-index l.nodes) n
