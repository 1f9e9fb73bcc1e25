use Rattle.std.proofs.Common.{drop}
use Rattle.story_check.specs.Moments.{after_flushes}
use Rattle.story_check.proofs.Flushed.{IsLeft}
use Rattle.story_check.proofs.documents.flushed_dom.Given as goal

abbrev pub invariant-loop-line : goal.invariant-loop-line
invariant-loop-line l = IsLeft (after_flushes l.fn.document l.page l.count) l.document (drop l.line-index l.page) l.left
