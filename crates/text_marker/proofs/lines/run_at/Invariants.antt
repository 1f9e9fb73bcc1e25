use Rattle.std.proofs.Common.{◌≡◌, ◌≤◌, ◌-◌, length, take}
use Rattle.std.specs.Prelude.{find, None}
use Rattle.text_marker.specs.Lines.{is_run_of}
use Rattle.text_marker.proofs.lines.run_at.Given as goal

-- none of the runs so far is the one
abbrev pub invariant-loop-own : goal.invariant-loop-own
invariant-loop-own l = (find (is_run_of l.offset l.count) (take l.own l.runs) ≡ None) × (l.own ≤ length l.runs)

abbrev pub decreases-loop-own : goal.decreases-loop-own
decreases-loop-own l = length l.runs - l.own
