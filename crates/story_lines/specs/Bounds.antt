-- Which rectangles a line may have.
use Rattle.ax_dom.specs.Bounds.{EditKeepsBounds}
use Rattle.story_lines.specs.declared.reading.Line.{Line}
use Rattle.story_lines.specs.declared.reading.Line.TheVariants.{Change}

-- each rectangle of a line's edit is within bounds
abbrev pub KeepsBounds : Line → Type 0
KeepsBounds (Change edit) = EditKeepsBounds edit
KeepsBounds _ = Unit {0}
