use Rattle.ax_batch.proofs.Orders.{put_in, ok_there}
use Rattle.ax_batch.proofs.merged.put.Goals as goal

pub returns-clause-fates : goal.returns-clause-fates
returns-clause-fates c = put_in c.args.fates.now c.insert.new.self c.args.key c.args.fate (ok_there c.insert.result c.insert.ensures.updates (c.insert.ensures.succeeds c.requires))
