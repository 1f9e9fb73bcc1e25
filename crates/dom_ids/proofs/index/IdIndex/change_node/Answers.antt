use Rattle.dom_ids.specs.Index.{entry_at}
use Rattle.dom_ids.proofs.Changes.{none_changed}
use Rattle.dom_ids.proofs.index.IdIndex.change_node.Goals as goal

pub returns-in_default-clause-value : goal.returns-in_default-clause-value
returns-in_default-clause-value g c = λ x. none_changed c.args.change c.args.dom.now c.args.id x (entry_at c.args.self.now x) c.in_default.ensures.value
