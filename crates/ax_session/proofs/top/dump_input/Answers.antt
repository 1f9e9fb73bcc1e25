use Rattle.ax_session.proofs.Complete.{dumps}
use Rattle.ax_session.proofs.top.dump_input.Goals as goal

pub returns-clause-done : goal.returns-clause-done
returns-clause-done c = dumps c.args.input.now c.in_ok-last.last c.in_ok-text.text c.in_ok-last.ensures.last c.in_ok-text.ensures
