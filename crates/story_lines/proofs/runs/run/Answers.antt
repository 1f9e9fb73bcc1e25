use Rattle.std.proofs.Common.{arith, ap, ◌∙◌}
use Rattle.serde_json.specs.View.{view}
use Rattle.story_lines.specs.Runs.{run_by}
use Rattle.story_lines.proofs.RunLists.{too_few_for_run, too_many_for_run, seven_for_run}
use Rattle.story_lines.proofs.runs.run.Goals as goal

pub returns-in_default : goal.returns-in_default
returns-in_default c = too_few_for_run c.args.values.now (omega arith)

pub returns-in_default-2 : goal.returns-in_default-2
returns-in_default-2 c = too_many_for_run c.args.values.now (omega arith)

pub returns : goal.returns
returns c =
    let seven = seven_for_run c.args.values.now c.in-len7.len_at_least c.in-len7.len_below
    c.first-item.result c.past-item.result c.line-item.result c.x-item.result c.y-item.result c.w-item.result c.h-item.result
    c.first-item.is c.past-item.is c.line-item.is c.x-item.is c.y-item.is c.w-item.is c.h-item.is in
    c.run_by.ensures ∙ ap (run_by (view c.first-item.result) (view c.past-item.result) (view c.line-item.result)) c.rect_by.ensures ∙ seven
