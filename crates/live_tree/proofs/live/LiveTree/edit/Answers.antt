use Rattle.live_tree.proofs.Flushing.{goes_on}
use Rattle.live_tree.proofs.live.LiveTree.edit.Goals as goal

pub invariant_of-self-2 : goal.invariant_of-self-2
invariant_of-self-2 c = goes_on c.self.inside.flushed c.self.inside.dom c.edit_uncounted.new.dom c.self.inside.passes c.self.invariant c.in_ok-edit_uncounted.ensures.covers
