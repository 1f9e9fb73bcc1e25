use Rattle.std.proofs.Common.{◌∙◌, sym, arith}
use Rattle.ax_names.proofs.Openings.{stays_nil}
use Rattle.ax_names.proofs.Putting.{gap_none, gap_off}
use Rattle.ax_names.proofs.front.Front.put_gap.Goals as goal

pub returns-then-is_empty : goal.returns-then-is_empty
returns-then-is_empty c = gap_none c.args.self.now c.args.white (sym c.is_empty.ensures ∙ c.if-is_empty.true) (stays_nil _ _ _ c.self.view_is (omega arith))

pub returns-then-not-white : goal.returns-then-not-white
returns-then-not-white c = gap_off c.args.self.now c.args.white c.if-not-white.true (stays_nil _ _ _ c.self.view_is (omega arith))
