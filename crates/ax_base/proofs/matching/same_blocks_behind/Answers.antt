use Rattle.std.proofs.Common.{◌+◌, ◌-◌, length, arith}
use Rattle.ax_base.proofs.Splicing.{block_earlier}
use Rattle.ax_base.proofs.matching.same_blocks_behind.Goals as goal

pub equal-preserved : goal.equal-preserved
equal-preserved c =
    let low = c.equal.invariant.low in
    let more = c.equal-test.true in
    let here = c.requires.here in
    let n = length c.args.ids.now in
    record {
      low = omega arith;
      shared = block_earlier c.args.ids.now c.args.others.now (length c.args.ids.now - (c.equal.done + 64)) (length c.args.ids.now - c.equal.done) 64 _ _ _ _ (omega arith) (omega arith) (omega arith) (c.are_apart.ensures c.if-are_apart.false) c.equal.invariant.shared;
    }
