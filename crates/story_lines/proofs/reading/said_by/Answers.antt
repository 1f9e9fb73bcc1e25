use Rattle.std.proofs.Common.{sym, ◌∙◌}
use Rattle.serde_json.specs.View.{view}
use Rattle.story_lines.proofs.RectBounds.{form_keeps_bounds}
use Rattle.story_lines.proofs.reading.said_by.Goals as goal

pub returns-in-Some-clause-bounds : goal.returns-in-Some-clause-bounds
returns-in-Some-clause-bounds c = form_keeps_bounds (view c.args.value.now) c.in-Some.line (sym c.in_ok-line.ensures ∙ c.in-Some.is)
