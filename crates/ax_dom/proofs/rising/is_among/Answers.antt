use Rattle.std.proofs.Common.{arith}
use Rattle.ax_dom.proofs.Halving.{tells_there, tells_past}
use Rattle.ax_dom.proofs.rising.is_among.Goals as goal

pub returns-then-at-ids : goal.returns-then-at-ids
returns-then-at-ids c = tells_there c.args.ids.now c.args.id c.place_among-at.result c.requires.rising c.place_among-at.ensures.below c.place_among-at.ensures.above c.index-ids-at.result c.found.inside.0 c.id.inside.0 (omega arith) c.index-ids-at.is c.found.view_is c.id.view_is

pub returns : goal.returns
returns c = tells_past c.args.ids.now c.args.id c.place_among-at.result c.requires.rising c.place_among-at.ensures.below c.place_among-at.ensures.above (omega arith)
