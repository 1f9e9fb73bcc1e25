use Rattle.std.proofs.Common.{sym}
use Rattle.ax_session.proofs.Complete.{complete_from}
use Rattle.ax_session.proofs.top.axcore.Goals as goal

pub returns-in-Ok-write_whole-clause-complete : goal.returns-in-Ok-write_whole-clause-complete
returns-in-Ok-write_whole-clause-complete g c =
    complete_from c.args.words.now c.in-Some.command (g.I.Source.left c.args.source.now) (g.I.Source.left c.input_of.new.source) _ _ _ _ _ _ _ _ (sym c.in-Some.ensures.form)
    c.in-Ok.ensures.input c.deref.ensures.value c.in-Ok-reply_to.ensures.reply
