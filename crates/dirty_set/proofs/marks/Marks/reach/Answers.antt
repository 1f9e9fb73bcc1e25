use Rattle.std.proofs.Common.{◌≤◌, ◌+◌, ◌*◌, subst, ap, ◌∙◌}
use Rattle.dirty_set.specs.Reach.{marks_of, reach, weight}
use Rattle.dirty_set.proofs.marks.Marks.reach.Goals as goal

pub returns-in_err-found-clause-counted : goal.returns-in_err-found-clause-counted
returns-in_err-found-clause-counted g c = subst (λ m. c.reached.new.steps ≤ c.args.steps.now + 3 * weight c.args.dom.now m) ((λ i. marks_of (c.as_slice-nodes.ensures.value i) (c.as_slice-roots.ensures.value i) (c.as_slice-texts.ensures.value i)) ∙ c.self.view_is) c.reached.ensures.counted

pub returns-clause-value : goal.returns-clause-value
returns-clause-value g c = c.in_ok-found.ensures.value ∙ ap (reach c.args.dom.now) ((λ i. marks_of (c.as_slice-nodes.ensures.value i) (c.as_slice-roots.ensures.value i) (c.as_slice-texts.ensures.value i)) ∙ c.self.view_is)

pub returns-clause-counted : goal.returns-clause-counted
returns-clause-counted g c = subst (λ m. c.reached.new.steps ≤ c.args.steps.now + 3 * weight c.args.dom.now m) ((λ i. marks_of (c.as_slice-nodes.ensures.value i) (c.as_slice-roots.ensures.value i) (c.as_slice-texts.ensures.value i)) ∙ c.self.view_is) c.reached.ensures.counted
