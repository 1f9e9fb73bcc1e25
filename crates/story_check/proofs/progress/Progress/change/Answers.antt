use Rattle.std.proofs.Common.{ap, sym, ◌∙◌}
use Rattle.ax_base.specs.Document.{Document}
use Rattle.ax_dom.specs.Refusals.{edit_cause}
use Rattle.story_check.specs.Holding.{Progress}
use Rattle.story_check.proofs.Refusing.{fails_change}
use Rattle.story_check.proofs.progress.Progress.change.Goals as goal

pub returns-in-Some : goal.returns-in-Some
returns-in-Some c = fails_change c.args.number c.args.self.now.lines.document c.args.edit c.in-Some.cause c.edit_fail.result _ c.edit_fail.ensures (sym (ap (λ (h : Progress). edit_cause h.lines.document c.args.edit) c.self.view_is) ∙ sym c.in-Some.ensures)
