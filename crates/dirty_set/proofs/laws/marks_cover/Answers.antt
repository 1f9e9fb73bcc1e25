use Rattle.dirty_set.proofs.Keeping.{covers_after}
use Rattle.dirty_set.proofs.laws.marks_cover.Goals as goal

pub returns : goal.returns
returns c = covers_after c.args.old.now c.args.now.now c.args.e.now c.requires.was_tree c.requires.is_tree c.requires.inserted c.requires.free c.requires.leads
