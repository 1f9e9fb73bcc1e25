use Rattle.dirty_set.proofs.Turning.{no_first, first_is}
use Rattle.dirty_set.proofs.noted.is_turned.Goals as goal

pub returns-in_default : goal.returns-in_default
returns-in_default g c = no_first c.args.old.now c.args.now.now c.args.id c.in_default.ensures.value

pub returns : goal.returns
returns g c = first_is c.args.old.now c.args.now.now c.args.id c.in-Some.cell.now c.in-Some.ensures.value c.turns_from.result c.turns_from.ensures
