use Rattle.std.proofs.Common.{arith}
use Rattle.ax_dom.proofs.Halving.{all_left, right_half, left_half}
use Rattle.ax_dom.proofs.rising.place_among.Goals as goal

pub halve-init : goal.halve-init
halve-init c = all_left c.args.ids.now c.args.id

pub halve-preserved-then-at-id : goal.halve-preserved-then-at-id
halve-preserved-then-at-id c = right_half c.args.ids.now c.args.id c.halve.from c.halve.past _ c.index-ids-middle.result c.requires.rising c.halve.invariant (omega arith) c.index-ids-middle.is c.at.inside.0 c.id.inside.0 c.at.view_is c.id.view_is c.if-at-id.true

pub halve-preserved : goal.halve-preserved
halve-preserved c = left_half c.args.ids.now c.args.id c.halve.from c.halve.past _ c.index-ids-middle.result c.requires.rising c.halve.invariant (omega arith) (omega arith) c.index-ids-middle.is c.at.inside.0 c.id.inside.0 c.at.view_is c.id.view_is c.if-at-id.false
