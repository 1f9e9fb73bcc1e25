use Rattle.std.proofs.Common.{refl, rules, arith}
use Rattle.std.proofs.lemmas.Result.{err_from_is_err_and}
use Rattle.story_check.proofs.Steps.{shorter, leads_on, leads_wrong, leads_to_end, fails_after}
use Rattle.story_check.proofs.acceptance.read_lines.Goals as goal

pub lines-init : goal.lines-init
lines-init c = record {
  same = λ p is. (p, is, refl);
  utf8 = search rules;
  few = search rules;
}

pub lines-preserved : goal.lines-preserved
lines-preserved c = record {
  same = λ p is. leads_on c.args.progress.now.keeps c.lines.progress c.step.new.self c.lines.number c.lines.rest.now c.in-Some.line.now c.in-Some.after.now _ c.in-Some.ensures.parts c.in_ok-step.ensures (c.lines.invariant.same p is);
  utf8 = c.in-Some.ensures.text;
  few = let less = shorter c.lines.rest.now c.in-Some.line.now c.in-Some.after.now c.in-Some.ensures.parts in omega (arith, less, c.lines.invariant.few);
}

pub returns-in_err-step : goal.returns-in_err-step
returns-in_err-step c = λ p is.
    let e = err_from_is_err_and c.from_residual.result c.from_residual.ensures.1 in
    fails_after c.from_residual.result e.0 c.in_err-step.field-0.0 c.args.progress.now.keeps c.step.new.self _ e.1 e.2
    (leads_wrong c.in_err-step.field-0.0 c.args.progress.now.keeps c.lines.progress c.lines.number c.lines.rest.now c.in-Some.line.now c.in-Some.after.now _ c.in-Some.ensures.parts c.in_err-step.ensures (c.lines.invariant.same p is))

pub returns : goal.returns
returns c = λ p is. leads_to_end c.step-2.result c.args.progress.now.keeps c.lines.progress c.step-2.new.self c.lines.number c.lines.rest.now _ c.in_default.ensures.parts c.step-2.ensures (c.lines.invariant.same p is)
