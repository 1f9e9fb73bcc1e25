use Rattle.ax_names.proofs.one_node.description_of.Goals as goal

pub description_of-requires-clause-names : goal.description_of-requires-clause-names
description_of-requires-clause-names g c = c.new-names.ensures c.args.dom.now
