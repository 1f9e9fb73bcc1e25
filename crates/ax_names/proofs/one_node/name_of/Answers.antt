use Rattle.ax_names.proofs.one_node.name_of.Goals as goal

pub name_of-requires-clause-names : goal.name_of-requires-clause-names
name_of-requires-clause-names g c = c.new-names.ensures c.args.dom.now
