use Rattle.std.proofs.Common.{refl}
use Rattle.ax_dom.proofs.Bounded.{no_frame_within}
use Rattle.ax_dom.proofs.Fresh.{new_kept}
use Rattle.ax_dom.proofs.dom.Dom.new.Goals as goal

pub invariant_of-result : goal.invariant_of-result
invariant_of-result c = new_kept _ _ _ _ _ refl no_frame_within c.in_ok-add.ensures.ok c.new-entries.ensures c.new-children.ensures c.new-2.ensures
