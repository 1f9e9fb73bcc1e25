-- What the page's worker promises, and where it stands between two lines.
use Rattle.std.specs.Prelude.{◌≡◌, ℕ, suc, ◌+◌, ◌≤◌, ◌<◌, List, ◌∷◌, ◌++◌, true, false, Result, Ok, Err}
use Rattle.turn_word.specs.declared.view.PageRecord.{PageRecord}
use Rattle.ax_port.specs.States.{PageState, SamePage}
use Rattle.story_check.specs.declared.story.PageLine.{PageLine}
use Rattle.story_check.specs.declared.story.PageLine.TheVariants.{Until}
use Rattle.story_check.specs.Stories.{Story, flushes, cap, untils_met}
use Rattle.story_check.specs.Moments.{after_flushes, document_at, tree_at, AreLinesAccepted}
use Rattle.page_thread.specs.declared.ends.PageEnd.{PageEnd}
use Rattle.page_thread.specs.declared.ends.PageEnd.TheVariants.{Done, NoMemory, Ended}
use Rattle.page_thread.specs.declared.work.Side.{Side}

-- the port looked, any number of times
pub record Looked (a b : PageState) : Type 0 where
  pub same : SamePage a b
  pub published : b.page.published ≡ a.page.published
  pub over : b.page.over ≡ a.page.over
  pub seen : a.page.seen ≤ b.page.seen

-- A line waits for moment `need`, and `have` is less. No line before it waits for more than `have`, so it is the first that does.
pub record WaitsAt (page : List PageLine) (need have : ℕ) : Type 0 where
  pub before : List PageLine
  pub after : List PageLine
  pub is : page ≡ before ++ Until need ∷ after
  pub met : untils_met have before ≡ true
  pub more : have < need

-- what each end says
abbrev pub PageDid : Story → PageRecord → PageEnd → Type 0
PageDid s r Done = (r.published ≡ flushes s.page) × (untils_met r.seen s.page ≡ true)
PageDid s r NoMemory = Unit {0}
PageDid s r (Ended need have) = (r.seen ≡ have) × (r.seen_over ≡ true) × WaitsAt s.page need have × (r.published ≡ cap s.page have)

-- the worker between two lines: which are left, and what it made of those before
pub record PageStands (s : Story) (left : List PageLine) (r : PageRecord) (side : Side) : Type 0 where
  pub before : List PageLine
  pub is : s.page ≡ before ++ left
  pub few : flushes s.page ≤ 65537
  pub count : side.published ≡ r.published
  pub flushed : r.published ≡ flushes before
  pub passed : untils_met r.seen before ≡ true
  pub going : r.over ≡ false
  pub tree : side.live.flushed ≡ tree_at s r.published
  pub later : (k : ℕ) → document_at s (r.published + suc k) ≡ after_flushes side.live.document left (suc k)
  pub accepted : AreLinesAccepted side.live.document left

-- a line was done, or the worker ends there
abbrev pub LineDid : Story → List PageLine → PageRecord → Result Side PageEnd → Type 0
LineDid s left r (Ok side) = PageStands s left r side
LineDid s left r (Err end) = PageDid s r end
