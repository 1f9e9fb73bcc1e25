use Rattle.story_lines.specs.Lines.{line_of}
use Rattle.story_check.proofs.Keeping.{takes}
use Rattle.story_check.proofs.progress.Progress.step.Goals as goal

pub returns-in-Ok-Some : goal.returns-in-Ok-Some
returns-in-Ok-Some c = takes c.take.result c.args.number c.args.self.now c.take.new.self c.in-Ok-Some.said (line_of c.args.line.now) (cc (c.in-Ok-Some.ensures.said)) c.take.ensures
