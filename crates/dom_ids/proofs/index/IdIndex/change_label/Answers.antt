use Rattle.std.proofs.Common.{sym, ap, cond, refl, ◌∙◌}
use Rattle.std.specs.Prelude.{bytes_eq}
use Rattle.dom_ids.specs.Index.{entry_at}
use Rattle.ax_base.specs.AccessibleNames.{is_label_for}
use Rattle.dom_ids.specs.Changing.{labelled_by}
use Rattle.dom_ids.proofs.Changes.{changed, rising_labelled}
use Rattle.dom_ids.proofs.index.IdIndex.change_label.Goals as goal

pub returns-in_default-clause-value : goal.returns-in_default-clause-value
returns-in_default-clause-value c = λ x. sym (ap (λ b. cond b (labelled_by c.args.change c.args.id (entry_at c.args.self.now x)) (entry_at c.args.self.now x)) (c.in_default.ensures x))

pub returns-clause-rising : goal.returns-clause-rising
returns-clause-rising c = λ x. rising_labelled c.args.change (is_label_for x c.args.node.now) c.args.id (entry_at c.args.self.now x) (entry_at c.put.new.self x) (c.requires.rising x)
    (changed c.args.self.now c.take-entry.new.self c.put.new.self c.in-Some.text.now (λ y e. labelled_by c.args.change c.args.id e) c.label.new.self (c.in_ok-label.ensures ∙ ap (labelled_by c.args.change c.args.id) c.take-entry.ensures.value) c.take-entry.ensures.others c.in_ok-put.ensures x (is_label_for x c.args.node.now) (c.in-Some.ensures x))

pub returns-clause-value : goal.returns-clause-value
returns-clause-value c = λ x.
    changed c.args.self.now c.take-entry.new.self c.put.new.self c.in-Some.text.now (λ y e. labelled_by c.args.change c.args.id e) c.label.new.self (c.in_ok-label.ensures ∙ ap (labelled_by c.args.change c.args.id) c.take-entry.ensures.value) c.take-entry.ensures.others c.in_ok-put.ensures x (is_label_for x c.args.node.now) (c.in-Some.ensures x)
