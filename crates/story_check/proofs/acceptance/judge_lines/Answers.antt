use Rattle.story_check.specs.Acceptance.{pieces}
use Rattle.story_check.proofs.Telling.{accepts_end, read_first}
use Rattle.story_check.proofs.acceptance.judge_lines.Goals as goal

pub returns : goal.returns
returns c = accepts_end c.finish.result c.args.keeps (pieces c.args.text.now) c.read_lines.new.progress (read_first c.args.keeps c.in_ok-progress.progress c.read_lines.new.progress (pieces c.args.text.now) c.in_ok-progress.ensures c.in_ok-read_lines.ensures) c.finish.ensures
