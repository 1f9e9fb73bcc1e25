use Rattle.std.proofs.Common.{◌∙◌, ap}
use Rattle.dom_ids.specs.declared.change.Change.TheVariants.{Comes}
use Rattle.dom_ids.specs.Changing.{with_nodes}
use Rattle.dom_ids.specs.Index.{entry_at}
use Rattle.dom_ids.proofs.Changes.{none_rising}
use Rattle.dom_ids.proofs.Making.{made_anew}
use Rattle.dom_ids.proofs.index.IdIndex.new.Goals as goal

pub change_nodes-requires : goal.change_nodes-requires
change_nodes-requires g c = record { rising = none_rising c.empty-index.result c.empty-index.ensures }

pub returns : goal.returns
returns g c = made_anew c.args.dom.now c.keeps_tree.ensures.tree c.empty-index.result c.change_nodes.new.self c.empty-index.ensures c.in_ok-change_nodes.ensures.rising
    (λ x. c.in_ok-change_nodes.ensures.value x ∙ ap (λ ns. with_nodes Comes c.args.dom.now ns x (entry_at c.empty-index.result x)) (c.as_slice.ensures ∙ c.in_ok-nodes.ensures))
