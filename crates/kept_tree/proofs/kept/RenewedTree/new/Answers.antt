use Rattle.kept_tree.proofs.kept.RenewedTree.new.Goals as goal

pub invariant_of-result : goal.invariant_of-result
invariant_of-result c = record { rising = c.requires.rising; was = c.find-root.ensures.is_tree; becomes = c.requires.becomes }
