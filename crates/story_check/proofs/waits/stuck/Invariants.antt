use Rattle.std.proofs.Common.{◌≡◌, drop}
use Rattle.story_check.specs.Stories.{awaits_met, awaited}
use Rattle.story_check.specs.Passes.{IsPast, IsAhead}
use Rattle.story_check.proofs.waits.stuck.Given as goal

abbrev pub invariant-loop-line : goal.invariant-loop-line
invariant-loop-line l = record {
  past : IsPast l.page l.reach l.taken;
  ahead : IsAhead l.page l.reach l.taken;
  awaits : awaits_met l.page 0 l.line-items ≡ awaits_met l.page l.taken (drop l.line-index l.line-items);
  awaited : awaited 0 l.line-items ≡ awaited l.taken (drop l.line-index l.line-items);
}
