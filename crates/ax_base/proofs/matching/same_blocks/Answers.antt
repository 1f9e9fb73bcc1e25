use Rattle.std.proofs.Common.{◌+◌, refl, arith}
use Rattle.ax_base.proofs.Splicing.{block_more}
use Rattle.ax_base.proofs.matching.same_blocks.Goals as goal

pub equal-preserved : goal.equal-preserved
equal-preserved c =
    let low = c.equal.invariant.low in
    let more = c.equal-test.true in
    record {
      low = omega arith;
      here = c.equal.invariant.here;
      other = c.equal.invariant.other;
      same = block_more c.args.ids.now c.args.others.now c.equal.at (c.equal.at + 64) 64 _ _ refl (omega arith) (omega arith) c.equal.invariant.same (c.are_apart.ensures c.if-are_apart.false);
    }
