use Rattle.std.proofs.Common.{sym}
use Rattle.dirty_set.proofs.Turning.{none_turned, turned_on, turned_off}
use Rattle.dirty_set.proofs.noted.turned_by.Goals as goal

pub returns-in_default : goal.returns-in_default
returns-in_default g c = sym (none_turned c.args.old.now c.args.now.now c.args.e.now c.requires.was_tree c.requires.is_tree c.requires.inserted c.requires.free c.requires.leads (sym c.in_default.ensures))

pub returns-then-is_turned : goal.returns-then-is_turned
returns-then-is_turned g c = sym (turned_on c.args.old.now c.args.now.now c.args.e.now c.requires.was_tree c.requires.is_tree c.requires.inserted c.requires.free c.requires.leads c.in-Some.id (sym c.in-Some.ensures) c.if-is_turned.ensures)

pub returns : goal.returns
returns g c = sym (turned_off c.args.old.now c.args.now.now c.args.e.now c.requires.was_tree c.requires.is_tree c.requires.inserted c.requires.free c.requires.leads c.in-Some.id (sym c.in-Some.ensures) c.if-is_turned.ensures)
