use Rattle.std.proofs.Common.{sym, ap, subst, cond, refl, ◌∙◌}
use Rattle.std.specs.Prelude.{bytes_eq}
use Rattle.dom_ids.specs.Index.{entry_at}
use Rattle.std.specs.List.Sorted.{IsStrictlyIncreasing}
use Rattle.dom_ids.specs.declared.index.Entry.{Entry}
use Rattle.dom_ids.specs.Changing.{named_by}
use Rattle.dom_ids.proofs.Changes.{changed, rising_named}
use Rattle.dom_ids.proofs.index.IdIndex.change_name.Goals as goal

pub name-requires : goal.name-requires
name-requires c = record { rising = subst (λ (e : Entry). IsStrictlyIncreasing e.namers) (sym c.take-entry.ensures.value) (c.requires.rising c.args.token.now).namers }

pub returns-clause-rising : goal.returns-clause-rising
returns-clause-rising c = λ x. rising_named c.args.change (bytes_eq x c.args.token.now) c.args.id (entry_at c.args.self.now x) (entry_at c.put.new.self x) (c.requires.rising x)
    (changed c.args.self.now c.take-entry.new.self c.put.new.self c.args.token.now (λ y e. named_by c.args.change c.args.id e) c.name.new.self (c.in_ok-name.ensures ∙ ap (named_by c.args.change c.args.id) c.take-entry.ensures.value) c.take-entry.ensures.others c.in_ok-put.ensures x (bytes_eq x c.args.token.now) refl)

pub returns-clause-value : goal.returns-clause-value
returns-clause-value c = λ x.
    changed c.args.self.now c.take-entry.new.self c.put.new.self c.args.token.now (λ y e. named_by c.args.change c.args.id e) c.name.new.self (c.in_ok-name.ensures ∙ ap (named_by c.args.change c.args.id) c.take-entry.ensures.value) c.take-entry.ensures.others c.in_ok-put.ensures x (bytes_eq x c.args.token.now) refl
