-- A document that is edited, and what is kept beside it.
use Rattle.std.specs.Prelude.{◌≡◌, Option, IfSome}
use Rattle.ax_base.specs.Document.{Document}
use Rattle.dom_ids.specs.declared.index.IdIndex.{IdIndex}
use Rattle.dom_ids.specs.Index.{IsIndexOf}
use Rattle.dirty_set.specs.Reach.{Marked}

-- a document, and the marks of its edits since the last flush
pub record MarkedDocument : Type 0 where
  pub document : Document
  pub marks : Marked

-- What is kept beside a document is right: the index, unless it is lost, and a second copy, where there is one.
pub record IsFollowed (d : Document) (index : Option IdIndex) (spare : Option Document) : Type 0 where
  pub index_is : IfSome index (λ i. IsIndexOf d i)
  pub spare_is : IfSome spare (λ s. s ≡ d)
