use Rattle.ax_names.proofs.said.said_shown.Goals as goal

pub said-requires-clause-kept : goal.said-requires-clause-kept
said-requires-clause-kept g c = c.new-sayings.ensures c.args.dom.now
