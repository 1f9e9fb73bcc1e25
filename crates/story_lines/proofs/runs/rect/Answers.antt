use Rattle.std.proofs.Common.{arith}
use Rattle.story_lines.proofs.RunLists.{too_few_for_rect, too_many_for_rect}
use Rattle.story_lines.proofs.runs.rect.Goals as goal

pub returns-in_default : goal.returns-in_default
returns-in_default c = too_few_for_rect c.args.values.now (omega arith)

pub returns-in_default-2 : goal.returns-in_default-2
returns-in_default-2 c = too_many_for_rect c.args.values.now (omega arith)
