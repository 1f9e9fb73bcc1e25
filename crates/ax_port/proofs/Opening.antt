-- The story's two definitions are as the lock needs them.
use Rattle.std.proofs.Common.{◌≤◌, arith}
use Rattle.story_check.specs.Stories.{Story, flushes}
use Rattle.story_check.proofs.Caps.{cap_most, cap_rises}
use Rattle.turn_word.specs.Rules.{Opens}
use Rattle.ax_port.specs.Spans.{IsWithinCap}

pub story_opens : (s : Story) → flushes s.page ≤ 65537 → Opens IsWithinCap s
story_opens s most = record {
  none_at_none = omega arith;
  rises = λ t u p h k. let g = cap_rises s.page t u h in omega arith;
  below = λ t p k. let g = cap_most s.page t in omega arith;
}
