-- What the slot of the lock holds.
use Rattle.std.specs.Prelude.{◌≡◌, ℕ, ◌≤◌}
use Rattle.story_check.specs.Stories.{Story, cap}
use Rattle.story_check.specs.Moments.{tree_at}
use Rattle.change_log.specs.declared.log.LogEntries.{LogEntries}
use Rattle.change_log.specs.Logs.{span}

-- the log of the moments after t, up to p
abbrev pub IsSpan : Story → ℕ → ℕ → LogEntries → Type 0
IsSpan s t p log = log ≡ span (tree_at s) t p

-- so many moments may be published while the client has taken t
abbrev pub IsWithinCap : Story → ℕ → ℕ → Type 0
IsWithinCap s t p = p ≤ cap s.page t
