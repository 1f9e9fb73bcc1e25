use Rattle.ax_batch.proofs.Orders.{taken}
use Rattle.ax_batch.proofs.merged.take_out.Goals as goal

pub returns-clause-fates : goal.returns-clause-fates
returns-clause-fates c = taken c.args.fates.now c.swap_remove.new.self c.args.key c.swap_remove.ensures.updates
