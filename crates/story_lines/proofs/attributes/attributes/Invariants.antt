use Rattle.std.proofs.Common.{◌≡◌}
use Rattle.serde_json.specs.View.{members_view}
use Rattle.story_lines.specs.Attributes.{attributes}
use Rattle.story_lines.proofs.Gathered.{after}
use Rattle.story_lines.proofs.attributes.attributes.Given as goal

abbrev pub invariant-loop-name : goal.invariant-loop-name
invariant-loop-name l = after l.attrs.items (attributes (members_view l.name-iterator)) ≡ attributes (members_view l.members.entries)
