use Rattle.std.proofs.Common.{◌∙◌}
use Rattle.std.proofs.lemmas.Result.{on_ok_weaker}
use Rattle.ax_dom.proofs.Halving.{placed_in, key_in}
use Rattle.ax_dom.proofs.rising.add_rising.Goals as goal

pub returns-then-is_among-clause-ok : goal.returns-then-is_among-clause-ok
returns-then-is_among-clause-ok c = key_in c.args.ids.now c.as_slice.result.now c.args.id c.requires.rising c.as_slice.ensures c.if-is_among.ensures

pub returns-clause-ok : goal.returns-clause-ok
returns-clause-ok c = on_ok_weaker c.insert.result
    (λ put. put ∙ placed_in c.args.ids.now c.as_slice-2.result.now c.as_slice.result.now c.args.id c.place_among-at.result c.as_slice-2.ensures c.as_slice.ensures
    c.place_among-at.ensures.within c.place_among-at.ensures.below c.place_among-at.ensures.above c.if-is_among.ensures)
    c.insert.ensures.ok
