use Rattle.std.proofs.lemmas.Result.{IfOk-weaker}
use Rattle.std.proofs.Common.{◌∙◌}
use Rattle.ax_session.proofs.Lines.{last_text}
use Rattle.ax_session.proofs.tree_text.dump.Goals as goal

pub returns : goal.returns
returns c = IfOk-weaker c.document_text.result _ _ (λ text e. e ∙ last_text c.args.story.now c.in_ok-document.document c.flushes.result c.in_ok-document.ensures c.flushes.ensures.is) c.document_text.ensures
