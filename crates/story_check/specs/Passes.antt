-- How far a page may go while the client has taken a moment.
use Rattle.std.specs.Prelude.{◌≡◌, ℕ, ◌+◌, ◌≤◌, ◌<◌, false, List, length, drop}
use Rattle.story_check.specs.declared.story.PageLine.{PageLine}
use Rattle.story_check.specs.declared.waits.Reach.{Reach}
use Rattle.story_check.specs.Stories.{flushes, cap, untils_met}

-- no line before this place waits for more than t, or than a later moment
pub record IsPast (page : List PageLine) (r : Reach) (t : ℕ) : Type 0 where
  pub within : r.lines ≤ length page
  pub all : r.flushes + flushes (drop r.lines page) ≡ flushes page
  pub caps : (u : ℕ) → t ≤ u → cap page u ≡ r.flushes + cap (drop r.lines page) u
  pub untils : (u : ℕ) → t ≤ u → untils_met u page ≡ untils_met u (drop r.lines page)

-- what stands there, if anything, waits for more than t
pub record IsAhead (page : List PageLine) (r : Reach) (t : ℕ) : Type 0 where
  pub none : cap (drop r.lines page) t ≡ 0
  pub unmet : r.lines < length page → untils_met t (drop r.lines page) ≡ false
