-- The documents of a story's moments, their trees, and whether each edit is accepted.
use Rattle.std.specs.Prelude.{◌≡◌, ℕ, zero, suc, List, [], ◌∷◌, None}
use Rattle.ax_base.specs.Document.{Document}
use Rattle.ax_dom.specs.declared.edit.Edit.{Edit}
use Rattle.ax_dom.specs.Bounds.{EditKeepsBounds}
use Rattle.ax_dom.specs.Changes.{edited, new_document}
use Rattle.ax_dom.specs.Refusals.{edit_cause}
use Rattle.ax_record.specs.Tree.{Tree}
use Rattle.ax_record.specs.ObjectTrees.{IsObjectTree}
use Rattle.ax_record.specs.Records.{tree}
use Rattle.story_check.specs.declared.story.PageLine.{PageLine}
use Rattle.story_check.specs.declared.story.PageLine.TheVariants.{Change, Flush, Until}
use Rattle.story_check.specs.Stories.{Story}

-- the document after these edits
abbrev pub after_edits : Document → List Edit → Document
after_edits d [] = d
after_edits d (e ∷ es) = after_edits (edited d e) es

-- the document after all edits before the k-th flush of these lines; for 0, the document before them
abbrev pub after_flushes : Document → List PageLine → ℕ → Document
after_flushes d xs zero = d
after_flushes d [] (suc k) = d
after_flushes d (Change e ∷ xs) (suc k) = after_flushes (edited d e) xs (suc k)
after_flushes d (Flush ∷ xs) (suc k) = after_flushes d xs k
after_flushes d (Until j ∷ xs) (suc k) = after_flushes d xs (suc k)

-- the document of a moment: after the edits before the start, and all edits before that flush
unfoldable pub document_at : Story → ℕ → Document
document_at s k = after_flushes (after_edits new_document s.base) s.page k

-- the tree of a moment
unfoldable pub tree_at : Story → ℕ → Tree
tree_at s k = tree (document_at s k)

-- nothing refuses an edit, and its rectangles are within bounds
abbrev pub MayBeDone : Document → Edit → Type 0
MayBeDone d e = (edit_cause d e ≡ None) × EditKeepsBounds e

-- each of these edits may be done, one after another
abbrev pub AreAccepted : Document → List Edit → Type 0
AreAccepted d [] = Unit {0}
AreAccepted d (e ∷ es) = MayBeDone d e × AreAccepted (edited d e) es

-- each edit of these lines may be done, one after another
abbrev pub AreLinesAccepted : Document → List PageLine → Type 0
AreLinesAccepted d [] = Unit {0}
AreLinesAccepted d (Change e ∷ xs) = MayBeDone d e × AreLinesAccepted (edited d e) xs
AreLinesAccepted d (Flush ∷ xs) = AreLinesAccepted d xs
AreLinesAccepted d (Until k ∷ xs) = AreLinesAccepted d xs

-- every edit of a story may be done
pub record IsAccepted (s : Story) : Type 0 where
  pub base : AreAccepted new_document s.base
  pub lines : AreLinesAccepted (after_edits new_document s.base) s.page

-- the tree of each moment is one whose objects hang together
abbrev pub AreTrees : Story → Type 0
AreTrees s = (k : ℕ) → IsObjectTree (tree_at s k)
