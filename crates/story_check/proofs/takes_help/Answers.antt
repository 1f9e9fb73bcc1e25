use Rattle.story_check.proofs.Caps.{cap_rises, cap_most}
use Rattle.story_check.proofs.takes_help.Goals as goal

pub returns-clause-rises : goal.returns-clause-rises
returns-clause-rises c = cap_rises

pub returns-clause-most : goal.returns-clause-most
returns-clause-most c = cap_most
