use Rattle.std.proofs.Common.{◌≡◌, ℕ, true, take}
use Rattle.ax_dom.specs.Among.{is_in}
use Rattle.node_order.specs.Parents.{ArePlaced}
use Rattle.node_order.proofs.ordering.place_all.Given as goal

-- the nodes before the one at hand are placed
abbrev pub invariant-loop-id : goal.invariant-loop-id
invariant-loop-id l = record {
  placed : ArePlaced l.parents.document l.parents.nodes l.placed;
  all : (n : ℕ) → is_in (take l.id-index l.nodes) n ≡ true → is_in l.placed n ≡ true;
}
