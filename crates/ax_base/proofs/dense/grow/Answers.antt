use Rattle.ax_base.proofs.dense.grow.Goals as goal

pub returns-in_err-push-clause-same : goal.returns-in_err-push-clause-same
returns-in_err-push-clause-same g c q = rw c.in_err-push.ensures.items (c.grow.invariant q)
