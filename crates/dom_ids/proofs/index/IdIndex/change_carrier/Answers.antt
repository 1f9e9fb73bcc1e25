use Rattle.std.proofs.Common.{sym, ap, subst, cond, refl, ◌∙◌}
use Rattle.std.specs.Prelude.{bytes_eq}
use Rattle.dom_ids.specs.Index.{entry_at}
use Rattle.std.specs.List.Sorted.{IsStrictlyIncreasing}
use Rattle.dom_ids.specs.declared.index.Entry.{Entry}
use Rattle.ax_base.specs.Document.{has_id}
use Rattle.dom_ids.specs.Changing.{carried_by}
use Rattle.dom_ids.proofs.Changes.{changed, rising_carried}
use Rattle.dom_ids.proofs.index.IdIndex.change_carrier.Goals as goal

pub returns-in_default-clause-value : goal.returns-in_default-clause-value
returns-in_default-clause-value c = λ x. sym (ap (λ b. cond b (carried_by c.args.change c.args.id x (entry_at c.args.self.now x)) (entry_at c.args.self.now x)) (c.in_default.ensures x))

pub carry-requires : goal.carry-requires
carry-requires c = record { rising = subst (λ (e : Entry). IsStrictlyIncreasing e.carriers) (sym c.take-entry.ensures.value) (c.requires.rising c.in-Some.text.now).carriers }

pub returns-clause-rising : goal.returns-clause-rising
returns-clause-rising c = λ x. rising_carried c.args.change (has_id x c.args.node.now) c.args.id (entry_at c.args.self.now x) (entry_at c.put.new.self x) (c.requires.rising x) x
    (changed c.args.self.now c.take-entry.new.self c.put.new.self c.in-Some.text.now (carried_by c.args.change c.args.id) c.carry.new.self (c.in_ok-carry.ensures ∙ ap (carried_by c.args.change c.args.id c.in-Some.text.now) c.take-entry.ensures.value) c.take-entry.ensures.others c.in_ok-put.ensures x (has_id x c.args.node.now) (c.in-Some.ensures x))

pub returns-clause-value : goal.returns-clause-value
returns-clause-value c = λ x.
    changed c.args.self.now c.take-entry.new.self c.put.new.self c.in-Some.text.now (carried_by c.args.change c.args.id) c.carry.new.self (c.in_ok-carry.ensures ∙ ap (carried_by c.args.change c.args.id c.in-Some.text.now) c.take-entry.ensures.value) c.take-entry.ensures.others c.in_ok-put.ensures x (has_id x c.args.node.now) (c.in-Some.ensures x)
