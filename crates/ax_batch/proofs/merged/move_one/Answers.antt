use Rattle.std.proofs.Common.{◌++◌, sym, ap, ◌∙◌, append-nil}
use Rattle.std.specs.Ordering.{nat_cmp}
use Rattle.std.specs.Map.{remove_entry}
use Rattle.std.specs.BTreeMap.{is_at}
use Rattle.ax_batch.specs.Rising.{by_rising}
use Rattle.ax_batch.specs.Fates.{fate_at, made_of, added_by, changed_by, removed_by}
use Rattle.ax_batch.proofs.Orders.{taken, finds_alike}
use Rattle.ax_batch.proofs.merged.move_one.Goals as goal

pub returns-in-Some-clause-fates : goal.returns-in-Some-clause-fates
returns-in-Some-clause-fates c = taken c.args.fates.now c.swap_remove.new.self c.number-key.result c.swap_remove.ensures.updates ∙ ap (λ k. remove_entry (is_at (nat_cmp k)) (by_rising c.args.fates.now.entries)) c.number-key.ensures

pub returns-in_default-clause-fates : goal.returns-in_default-clause-fates
returns-in_default-clause-fates c = taken c.args.fates.now c.swap_remove.new.self c.number-key.result c.swap_remove.ensures.updates ∙ ap (λ k. remove_entry (is_at (nat_cmp k)) (by_rising c.args.fates.now.entries)) c.number-key.ensures

pub returns-in-Some-clause-added : goal.returns-in-Some-clause-added
returns-in-Some-clause-added c = c.push_fate.ensures.added ∙ ap (λ o. c.args.added.now.0 ++ made_of added_by c.args.id o) (c.in-Some.ensures.value ∙ sym (finds_alike c.number-key.result c.args.fates.now.entries) ∙ ap (fate_at (by_rising c.args.fates.now.entries)) c.number-key.ensures)

pub returns-in-Some-clause-changed : goal.returns-in-Some-clause-changed
returns-in-Some-clause-changed c = c.push_fate.ensures.changed ∙ ap (λ o. c.args.changed.now.0 ++ made_of changed_by c.args.id o) (c.in-Some.ensures.value ∙ sym (finds_alike c.number-key.result c.args.fates.now.entries) ∙ ap (fate_at (by_rising c.args.fates.now.entries)) c.number-key.ensures)

pub returns-in-Some-clause-removed : goal.returns-in-Some-clause-removed
returns-in-Some-clause-removed c = c.push_fate.ensures.removed ∙ ap (λ o. c.args.removed.now.0 ++ made_of removed_by c.args.id o) (c.in-Some.ensures.value ∙ sym (finds_alike c.number-key.result c.args.fates.now.entries) ∙ ap (fate_at (by_rising c.args.fates.now.entries)) c.number-key.ensures)

pub returns-in_default-clause-added : goal.returns-in_default-clause-added
returns-in_default-clause-added c = sym (append-nil c.args.added.now.0) ∙ ap (λ o. c.args.added.now.0 ++ made_of added_by c.args.id o) (c.in_default.ensures.value ∙ sym (finds_alike c.number-key.result c.args.fates.now.entries) ∙ ap (fate_at (by_rising c.args.fates.now.entries)) c.number-key.ensures)

pub returns-in_default-clause-changed : goal.returns-in_default-clause-changed
returns-in_default-clause-changed c = sym (append-nil c.args.changed.now.0) ∙ ap (λ o. c.args.changed.now.0 ++ made_of changed_by c.args.id o) (c.in_default.ensures.value ∙ sym (finds_alike c.number-key.result c.args.fates.now.entries) ∙ ap (fate_at (by_rising c.args.fates.now.entries)) c.number-key.ensures)

pub returns-in_default-clause-removed : goal.returns-in_default-clause-removed
returns-in_default-clause-removed c = sym (append-nil c.args.removed.now.0) ∙ ap (λ o. c.args.removed.now.0 ++ made_of removed_by c.args.id o) (c.in_default.ensures.value ∙ sym (finds_alike c.number-key.result c.args.fates.now.entries) ∙ ap (fate_at (by_rising c.args.fates.now.entries)) c.number-key.ensures)
