use Rattle.std.proofs.Common.{◌==◌, ◌+◌, sym, ◌∙◌, arith}
use Rattle.ax_base.proofs.TakingOut.{none_before}
use Rattle.ax_base.proofs.seeking.past_blocks.Goals as goal

pub loop-at-preserved : goal.loop-at-preserved
loop-at-preserved c = (
  omega arith,
  omega arith,
  λ before. none_before (λ x. x == c.args.id) c.args.ids.now c.loop-at.at (c.loop-at.at + 64) (omega arith) (c.loop-at.invariant.2 before) (sym c.is_in_block.ensures ∙ c.if-not-is_in_block.true),
)
