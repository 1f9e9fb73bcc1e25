use Rattle.tree_diff.proofs.Losing.{kids_there}
use Rattle.tree_diff.proofs.places.kids_now.Goals as goal

pub returns : goal.returns
returns c = kids_there c.args.now.now c.keeps_tree.ensures.tree c.args.id c.kids.result.now c.if-not-has.ensures (λ there. c.kids.ensures c.args.now.now c.requires.kids there)
