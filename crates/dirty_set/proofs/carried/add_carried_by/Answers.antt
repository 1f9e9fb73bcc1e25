use Rattle.dirty_set.proofs.Noting.{none_carried, carried_is}
use Rattle.dirty_set.proofs.carried.add_carried_by.Goals as goal

pub returns-in_default : goal.returns-in_default
returns-in_default g c = none_carried c.args.dom.now c.args.id c.args.texts.now.items c.in_default.ensures.value

pub returns : goal.returns
returns g c =
    carried_is c.args.dom.now c.args.id c.in-Some.cell.now c.in-Some.ensures.value _ _ c.own_id.ensures c.labelled_id.ensures
    c.args.texts.now.items c.add_copy.new.texts.items c.add_copy-2.new.texts.items c.in_ok-add_copy.ensures c.in_ok-add_copy-2.ensures
