use Rattle.std.proofs.Common.{◌≡◌}
use Rattle.serde_json.specs.View.{members_view}
use Rattle.story_lines.specs.Kinds.{kind_among}
use Rattle.story_lines.proofs.kinds.kind_among.Given as goal

-- none of the keys so far is a kind's own
abbrev pub invariant-loop-key : goal.invariant-loop-key
invariant-loop-key l = kind_among (members_view l.key-iterator) ≡ kind_among (members_view l.members.entries)
