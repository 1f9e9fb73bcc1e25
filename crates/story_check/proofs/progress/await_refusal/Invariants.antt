use Rattle.std.proofs.Common.{◌≡◌, drop}
use Rattle.story_check.specs.Acceptance.{await_refusal}
use Rattle.story_check.proofs.progress.await_refusal.Given as goal

abbrev pub invariant-loop-line : goal.invariant-loop-line
invariant-loop-line l = await_refusal l.flushes (drop l.line-index l.awaits) ≡ await_refusal l.flushes l.awaits
