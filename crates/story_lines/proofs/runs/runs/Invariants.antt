use Rattle.std.proofs.Common.{◌≡◌, drop}
use Rattle.serde_json.specs.View.{items_view}
use Rattle.story_lines.specs.Runs.{runs}
use Rattle.story_lines.proofs.Gathered.{after}
use Rattle.story_lines.proofs.runs.runs.Given as goal

abbrev pub invariant-loop-value : goal.invariant-loop-value
invariant-loop-value l = after l.list.items (runs (items_view (drop l.value-index l.values))) ≡ runs (items_view l.values)
