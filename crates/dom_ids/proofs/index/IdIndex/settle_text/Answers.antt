use Rattle.std.proofs.Common.{ap, sym, subst, false}
use Rattle.std.specs.Option.{option_map_or}
use Rattle.std.specs.Prelude.{bytes_eq}
use Rattle.dom_ids.specs.Settling.{HasItsNodes}
use Rattle.dom_ids.proofs.Settled.{settled_same, text_settled, settled_nodes}
use Rattle.dom_ids.proofs.index.IdIndex.settle_text.Goals as goal

pub settle-requires : goal.settle-requires
settle-requires g c = record { tree = c.requires.tree; nodes = subst (HasItsNodes c.args.dom.now c.in-Some.text.now) (sym c.take-entry.ensures.value) (c.requires.nodes c.in-Some.text.now) }

pub returns-clause-nodes : goal.returns-clause-nodes
returns-clause-nodes g c = settled_nodes c.args.dom.now c.requires.tree (λ x. bytes_eq x c.in-Some.text.now) c.args.self.now c.put.new.self c.requires.nodes
    (text_settled c.args.dom.now c.in-Some.text.now c.args.self.now c.take-entry.new.self c.put.new.self c.settle.new.self c.in_ok-settle.ensures c.take-entry.ensures.others c.in_ok-put.ensures)

pub returns-clause-settled : goal.returns-clause-settled
returns-clause-settled g c =
    settled_same c.args.dom.now (λ x. bytes_eq x c.in-Some.text.now) (λ x. option_map_or (λ w. bytes_eq x w.now) c.args.text false) c.args.self.now c.put.new.self
    (λ x. ap (λ o. option_map_or (λ w. bytes_eq x w.now) o false) (sym c.in-Some.is)) (text_settled c.args.dom.now c.in-Some.text.now c.args.self.now c.take-entry.new.self c.put.new.self c.settle.new.self c.in_ok-settle.ensures c.take-entry.ensures.others c.in_ok-put.ensures)
