use Rattle.std.proofs.Common.{◌≡◌, ◌≤◌, ◌+◌, drop}
use Rattle.story_check.specs.Stories.{flushes}
use Rattle.story_check.proofs.story.Story.new.Given as goal

abbrev pub invariant-loop-line : goal.invariant-loop-line
invariant-loop-line l = record {
  all : l.count + flushes (drop l.line-index l.line-items) ≡ flushes l.line-items;
  most : l.count ≤ 65537;
}
