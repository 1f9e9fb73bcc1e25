use Rattle.std.proofs.Common.{ap, sym, subst, true, ◌≡◌, ℕ, List, Contains, ◌∙◌}
use Rattle.ax_base.specs.Document.{has}
use Rattle.dom_ids.specs.Changing.{unless_empty}
use Rattle.dom_ids.specs.Ordering.{in_order, first_in}
use Rattle.dom_ids.proofs.Settled.{labels_known, carriers_known, settled_entry}
use Rattle.dom_ids.proofs.index.Entry.settle.Goals as goal

pub put_in_order-requires : goal.put_in_order-requires
put_in_order-requires g c = record { tree = c.requires.tree; known = labels_known c.args.dom.now c.args.text.now c.args.self.now c.requires.nodes }

pub first_in_order-requires : goal.first_in_order-requires
first_in_order-requires g c = record {
  tree = c.requires.tree;
  known = subst (λ (l : List ℕ). (n : ℕ) → Contains l n → has c.args.dom.now n ≡ true) (sym c.as_slice.ensures) (carriers_known c.args.dom.now c.args.text.now c.args.self.now c.requires.nodes);
}

pub returns : goal.returns
returns g c = settled_entry c.args.dom.now c.args.text.now c.args.self.now c.requires.nodes c.unless_empty-self.result c.put_in_order.new.ids
    (c.unless_empty-self.ensures ∙ ap (unless_empty c.args.text.now) (c.in_ok-first.ensures ∙ ap (λ l. first_in (in_order c.args.dom.now l)) c.as_slice.ensures)) c.in_ok-put_in_order.ensures
