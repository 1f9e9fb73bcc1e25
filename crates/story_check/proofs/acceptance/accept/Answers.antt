use Rattle.story_check.proofs.Telling.{good-bytes, told_story}
use Rattle.story_check.proofs.acceptance.accept.Goals as goal

pub returns-clause-accepted : goal.returns-clause-accepted
returns-clause-accepted c = (good-bytes c.args.bytes.now c.in_ok-story.story (told_story c.args.bytes.now _ _ c.in_ok-story.ensures)).accepted

pub returns-clause-free : goal.returns-clause-free
returns-clause-free c = (good-bytes c.args.bytes.now c.in_ok-story.story (told_story c.args.bytes.now _ _ c.in_ok-story.ensures)).free
