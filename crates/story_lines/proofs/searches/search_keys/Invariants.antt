use Rattle.std.proofs.Common.{◌≡◌, drop}
use Rattle.serde_json.specs.View.{items_view}
use Rattle.story_lines.specs.Searches.{search_keys}
use Rattle.story_lines.proofs.Gathered.{after}
use Rattle.story_lines.proofs.searches.search_keys.Given as goal

abbrev pub invariant-loop-value : goal.invariant-loop-value
invariant-loop-value l = after l.keys.items (search_keys (items_view (drop l.value-index l.values))) ≡ search_keys (items_view l.values)
