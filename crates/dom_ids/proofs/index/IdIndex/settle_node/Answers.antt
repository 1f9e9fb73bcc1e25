use Rattle.std.proofs.Common.{◌||◌, ap, sym, ◌∙◌, false}
use Rattle.std.specs.Prelude.{bytes_eq}
use Rattle.std.specs.Option.{option_map_or}
use Rattle.ax_base.specs.Document.{body}
use Rattle.dom_ids.specs.Settling.{is_carried}
use Rattle.dom_ids.proofs.Settled.{none_settled, then_settled, settled_same}
use Rattle.dom_ids.proofs.Changes.{cell_body}
use Rattle.dom_ids.proofs.Renewed.{none_carried}
use Rattle.dom_ids.proofs.index.IdIndex.settle_node.Goals as goal

pub returns-in_default-clause-settled : goal.returns-in_default-clause-settled
returns-in_default-clause-settled g c = none_settled c.args.dom.now (λ x. is_carried x (body c.args.home.now c.args.id)) c.args.self.now (none_carried c.args.home.now c.args.id c.in_default.ensures.value)

pub returns-clause-settled : goal.returns-clause-settled
returns-clause-settled g c =
    settled_same c.args.dom.now (λ x. option_map_or (λ w. bytes_eq x w.now) c.own_id.result false || option_map_or (λ w. bytes_eq x w.now) c.labelled_id.result false) (λ x. is_carried x (body c.args.home.now c.args.id))
    c.args.self.now c.settle_text-2.new.self
    (λ x. (λ i. sym (c.own_id.ensures x) i || sym (c.labelled_id.ensures x) i) ∙ ap (is_carried x) (cell_body c.args.home.now c.args.id c.in-Some.cell.now c.in-Some.ensures.value))
    (then_settled c.args.dom.now (λ x. option_map_or (λ w. bytes_eq x w.now) c.own_id.result false) (λ x. option_map_or (λ w. bytes_eq x w.now) c.labelled_id.result false)
    c.args.self.now c.settle_text.new.self c.settle_text-2.new.self c.in_ok-settle_text.ensures.settled c.in_ok-settle_text-2.ensures.settled)
