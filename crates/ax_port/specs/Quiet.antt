-- Stories whose page only flushes, for tests: nothing changes from one moment to the next.
use Rattle.std.specs.Prelude.{◌≡◌, ℕ, zero, suc, List, [], ◌∷◌, false}
use Rattle.ax_batch.specs.Fates.{no_change}
use Rattle.change_log.specs.declared.log.LogEntries.{LogEntries}
use Rattle.story_check.specs.declared.story.PageLine.{PageLine}
use Rattle.story_check.specs.declared.story.PageLine.TheVariants.{Flush}
use Rattle.story_check.specs.Stories.{Story}
use Rattle.ax_port.specs.States.{PortsState, PageState}

-- so many flushes
abbrev pub flush_lines : ℕ → List PageLine
flush_lines zero = []
flush_lines (suc n) = Flush ∷ flush_lines n

-- the page of the story does nothing but flush, so often
pub record IsQuiet (s : Story) (n : ℕ) : Type 0 where
  pub base : s.base ≡ []
  pub page : s.page ≡ flush_lines n

-- what is logged for a moment in which nothing changed
abbrev pub no_news : LogEntries
no_news = record { batch = no_change; notices = [] }

-- the page's port of a quiet story has published so many moments, and is not closed
pub record IsAt (ports : PortsState) (n published : ℕ) (p : PageState) : Type 0 where
  pub own : p.table ≡ ports.table
  pub quiet : IsQuiet p.story n
  pub going : p.page.over ≡ false
  pub so_far : p.page.published ≡ published
