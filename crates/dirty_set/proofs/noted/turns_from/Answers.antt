use Rattle.dirty_set.specs.Marking.{own_at}
use Rattle.dirty_set.proofs.Turning.{no_second, second_is}
use Rattle.dirty_set.proofs.noted.turns_from.Goals as goal

pub returns-in_default : goal.returns-in_default
returns-in_default g c = no_second c.args.now.now c.args.now.now c.args.id (own_at (record { id = c.args.id; body = c.args.before.now })) c.in_default.ensures.value

pub returns : goal.returns
returns g c = second_is c.args.now.now c.args.now.now c.args.id (own_at (record { id = c.args.id; body = c.args.before.now })) c.in-Some.cell.now c.in-Some.ensures.value c.has_turned.result c.has_turned.ensures
