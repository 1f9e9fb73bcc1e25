use Rattle.said_pass.proofs.Gathering.{TextsSoFar}
use Rattle.said_pass.proofs.texts.NodeTexts.children_text.Given as goal

abbrev pub invariant-loop-child : goal.invariant-loop-child
invariant-loop-child l = TextsSoFar l.self l.children l.child-index l.inside
