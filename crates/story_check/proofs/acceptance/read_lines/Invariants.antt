use Rattle.std.proofs.Common.{◌≡◌, ◌≤◌, ◌+◌, ◌^◌, length}
use Rattle.std.specs.Str.{IsUtf8}
use Rattle.story_check.specs.Acceptance.{LinesRead, after_lines, pieces}
use Rattle.story_check.specs.Holding.{held}
use Rattle.story_check.proofs.Steps.{Leads}
use Rattle.story_check.proofs.acceptance.read_lines.Given as goal

-- the lines that are left come to what all come to
abbrev pub invariant-lines : goal.invariant-lines
invariant-lines l = record {
  same : (p : LinesRead) → l.fn.progress ≡ held l.fn.progress.keeps p → Leads l.fn.progress.keeps l.progress l.number l.rest (after_lines 1 p (pieces l.text));
  utf8 : IsUtf8 l.rest;
  few : l.number + length l.rest ≤ 2 ^ 24 + 1;
}

abbrev pub decreases-lines : goal.decreases-lines
decreases-lines l = length l.rest
