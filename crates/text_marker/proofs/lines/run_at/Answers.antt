use Rattle.std.proofs.Common.{◌+◌, sym, ◌∙◌, arith}
use Rattle.text_marker.specs.Lines.{is_run_of}
use Rattle.text_marker.proofs.Stretches.{not_yet}
use Rattle.text_marker.proofs.lines.run_at.Goals as goal

pub loop-own-preserved : goal.loop-own-preserved
loop-own-preserved c = (
  not_yet (is_run_of c.args.offset c.args.count) c.args.runs.now c.loop-own.own (c.loop-own.own + 1) _ c.loop-own-test.true (omega arith) c.loop-own.invariant.0 (sym c.is_own.ensures ∙ c.if-is_own.false),
  omega arith,
)
