use Rattle.said_pass.proofs.Gathering.{PartsSoFar}
use Rattle.said_pass.proofs.names.NodeNames.children_part.Given as goal

abbrev pub invariant-loop-child : goal.invariant-loop-child
invariant-loop-child l = PartsSoFar l.self l.children l.child-index l.content
