use Rattle.story_lines.proofs.MarkerLists.{not_two_for_marker}
use Rattle.story_lines.proofs.markers.marker.Goals as goal

pub returns-then-values-ne2 : goal.returns-then-values-ne2
returns-then-values-ne2 c = not_two_for_marker c.args.values.now c.if-values-ne2.true
