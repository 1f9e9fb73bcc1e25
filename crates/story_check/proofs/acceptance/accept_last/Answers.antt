use Rattle.std.proofs.Common.{refl}
use Rattle.story_check.proofs.Telling.{told_last}
use Rattle.story_check.proofs.acceptance.accept_last.Goals as goal

pub returns-clause-last : goal.returns-clause-last
returns-clause-last c = told_last c.args.bytes.now c.in_ok-story.story c.in_ok-story.document _ c.in_ok-story.ensures c.flushes.ensures.is c.into_client.ensures refl
