-- What the core keeps beside the machine's numbers.
use Rattle.std.specs.Prelude.{◌≡◌, ℕ, ◌+◌, ◌≤◌, suc, drop, List}
use Rattle.ax_base.specs.declared.notices.Notice.{Notice}
use Rattle.ax_record.specs.Tree.{Tree}
use Rattle.story_check.specs.Stories.{Story, flushes}
use Rattle.story_check.specs.Moments.{document_at, after_flushes, tree_at, AreLinesAccepted, AreTrees}
use Rattle.change_log.specs.declared.log.LogEntries.{LogEntries}
use Rattle.change_log.specs.Logs.{span}
use Rattle.live_tree.specs.LiveTrees.{LiveDocument}
use Rattle.ax_answer.specs.Moments.{notices_of}
use Rattle.ax_world.specs.declared.turns.Turn.{Turn}
use Rattle.ax_world.specs.Machine.{State, Step}

-- the machine, and the story that it was made for
pub record Play : Type 0 where
  pub story : Story
  pub state : State

-- a turn's result is this step
abbrev pub Gives : Play → Step → Play × Turn → Type 0
Gives old step new = (new.0 ≡ record { story = old.story; state = step.state }) × (new.1 ≡ step.turn)

-- The page has its live tree. The log has the moments that are published and not taken, `client_tree` is the client's tree, and `pending` are
-- the notices that it took and did not print.
pub record IsKept (s : Story) (c : State) (live : LiveDocument) (log : LogEntries) (client_tree : Tree) (pending : List Notice) : Type 0 where
  pub left : c.published + flushes (drop c.page_done s.page) ≡ flushes s.page
  pub later : (k : ℕ) → document_at s (c.published + suc k) ≡ after_flushes live.document (drop c.page_done s.page) (suc k)
  pub accepted : AreLinesAccepted live.document (drop c.page_done s.page)
  pub trees : AreTrees s
  pub shown_is : live.flushed ≡ tree_at s c.published
  pub log_is : log ≡ span (tree_at s) c.taken c.published
  pub client_tree_is : client_tree ≡ tree_at s c.taken
  pub pending_is : pending ≡ notices_of s c.noticed c.taken
  pub taken_most : c.taken ≤ c.published
  pub noticed_most : c.noticed ≤ c.taken
