use Rattle.std.proofs.Common.{◌∙◌}
use Rattle.story_lines.proofs.KeyLists.{all_seen}
use Rattle.story_lines.proofs.keys.only_keys.Goals as goal

pub returns : goal.returns
returns c = c.all_among.ensures ∙ all_seen c.args.allowed.now c.args.members.now.entries
