use Rattle.std.proofs.Common.{◌||◌, take}
use Rattle.ax_base.specs.Characters.{tokens}
use Rattle.dom_ids.specs.Index.{entry_at}
use Rattle.dom_ids.specs.References.{is_text_in}
use Rattle.dom_ids.proofs.Changes.{node_changed}
use Rattle.dom_ids.proofs.index.IdIndex.change.Goals as goal

pub returns-clause-value : goal.returns-clause-value
returns-clause-value c = λ x. node_changed c.args.change c.args.id c.args.node.now x (entry_at c.args.self.now x) (entry_at c.change_carrier.new.self x) (entry_at c.change_label.new.self x) (entry_at c.change_namer.new.self x) (entry_at c.change_namer-2.new.self x)
    (is_text_in (take 8 (tokens c.text_of.result.now)) x) (is_text_in (take 8 (tokens c.text_of-2.result.now)) x) (c.in_ok-change_label.ensures.rising x)
    (c.in_ok-change_carrier.ensures.value x) (c.in_ok-change_label.ensures.value x) (c.in_ok-change_namer.ensures.value x) (c.in_ok-change_namer-2.ensures.value x)
    (λ i. is_text_in (take 8 (tokens (c.text_of.ensures i))) x || is_text_in (take 8 (tokens (c.text_of-2.ensures i))) x)
