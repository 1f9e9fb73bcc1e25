use Rattle.std.proofs.Common.{sym, ◌∙◌}
use Rattle.ax_port.proofs.QuietLaws.{ok_there}
use Rattle.ax_port.proofs.tests.publish_all.Goals as goal

pub loop-done-preserved : goal.loop-done-preserved
loop-done-preserved g c = ok_there c.publish.result c.publish.ensures.ok (sym c.is_err.ensures.value ∙ c.if-is_err.false)
