-- The log of what is published and not taken: one batch, into which those of the moments are merged, and their notices in order.
use Rattle.std.specs.Prelude.{ℕ, zero, suc, ◌+◌, ◌-◌, List, [], ◌++◌, length}
use Rattle.ax_base.specs.declared.notices.Notice.{Notice}
use Rattle.ax_record.specs.Tree.{Tree}
use Rattle.ax_record.specs.ObjectTrees.{IsObjectTree}
use Rattle.ax_batch.specs.declared.batch.Batch.{Batch}
use Rattle.ax_batch.specs.Batches.{batch_between, patched}
use Rattle.ax_batch.specs.Fates.{merged, no_change}
use Rattle.ax_notice.specs.Notices.{notices_between}
use Rattle.change_log.specs.declared.log.LogEntries.{LogEntries}

-- what is logged for the moment after moment k, where these are the trees of the moments
abbrev pub entry_after : (ℕ → Tree) → ℕ → LogEntries
entry_after trees k = record { batch = batch_between (trees k) (trees (k + 1)); notices = notices_between (trees k) (trees (k + 1)) (k + 1) }

-- the log in which nothing is
abbrev pub no_entries : LogEntries
no_entries = record { batch = no_change; notices = [] }

-- a log with what is logged for one moment more
abbrev pub appended : LogEntries → LogEntries → LogEntries
appended l e = record { batch = merged l.batch e.batch; notices = l.notices ++ e.notices }

-- what is logged for the n moments after t
abbrev pub entries_after : (ℕ → Tree) → ℕ → ℕ → LogEntries
entries_after trees t zero = no_entries
entries_after trees t (suc n) = appended (entries_after trees t n) (entry_after trees (t + n))

-- what is logged for the moments t+1 to p
abbrev pub span : (ℕ → Tree) → ℕ → ℕ → LogEntries
span trees t p = entries_after trees t (p - t)

-- the tree after the batch of a log
abbrev pub patched_by : Tree → LogEntries → Tree
patched_by a l = patched a l.batch

-- the batch of a log makes a tree of it
abbrev pub MayPatch : Tree → LogEntries → Type 0
MayPatch a l = IsObjectTree (patched a l.batch)

-- the notices of a log, in order
abbrev pub notices_in : LogEntries → List Notice
notices_in l = l.notices

-- how many entries the lists of a batch have
abbrev pub size : Batch → ℕ
size b = length b.added + length b.changed + length b.removed

-- each moment has a tree whose objects hang together
abbrev pub AreTrees : (ℕ → Tree) → Type 0
AreTrees trees = (k : ℕ) → IsObjectTree (trees k)
