-- Which rectangles an edit may have.
use Rattle.ax_base.specs.Rects.{IsWithinBounds, AreRunsWithin}
use Rattle.ax_dom.specs.declared.edit.Edit.{Edit}
use Rattle.ax_dom.specs.declared.edit.Edit.TheVariants.{SetRuns, Frame}

-- each rectangle of an edit is within bounds
abbrev pub EditKeepsBounds : Edit → Type 0
EditKeepsBounds (SetRuns id runs) = AreRunsWithin runs
EditKeepsBounds (Frame id rect) = IsWithinBounds rect
EditKeepsBounds _ = Unit {0}
