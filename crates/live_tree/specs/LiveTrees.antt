-- A document that is edited, its tree at the last flush, and the marks of its edits since.
use Rattle.ax_base.specs.Document.{Document}
use Rattle.dirty_set.specs.Reach.{Marked, no_marks}
use Rattle.ax_record.specs.Tree.{Tree}

-- the document of the page, the tree that it had at the last flush, and what its edits since then have marked
pub record LiveDocument : Type 0 where
  pub flushed : Tree
  pub document : Document
  pub marks : Marked

-- a document without marks, and its tree at the last flush
abbrev pub unmarked : Tree → Document → LiveDocument
unmarked t d = record { flushed = t; document = d; marks = no_marks }
