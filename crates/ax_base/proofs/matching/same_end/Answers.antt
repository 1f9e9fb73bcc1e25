use Rattle.std.proofs.Common.{arith}
use Rattle.ax_base.proofs.Splicing.{one_earlier}
use Rattle.ax_base.proofs.matching.same_end.Goals as goal

pub loop-done-preserved : goal.loop-done-preserved
loop-done-preserved c =
    one_earlier c.args.ids.now c.args.others.now _ _ _ _ c.index-ids-at.result c.index-others-others.result (omega arith) (omega arith) (omega arith) (omega arith)
    c.index-ids-at.is c.index-others-others.is c.if-ne.ensures c.loop-done.invariant
