-- What both sides start from: the tree and the document of moment 0.
use Rattle.std.proofs.Common.{◌≡◌, sym, ap, ◌∙◌}
use Rattle.ax_base.specs.Document.{Document}
use Rattle.ax_record.specs.Tree.{Tree}
use Rattle.ax_record.specs.Records.{tree}
use Rattle.story_check.specs.Stories.{Story}
use Rattle.story_check.specs.Moments.{tree_at, document_at}
use Rattle.live_tree.specs.LiveTrees.{LiveDocument, unmarked}

-- a live tree that is made of the first document is that of moment 0
pub live_starts : (s : Story) (d : Document) (live : LiveDocument) → live ≡ unmarked (tree d) d → d ≡ document_at s 0 → live ≡ unmarked (tree_at s 0) (document_at s 0)
unfolding tree_at
live_starts s d live e f = e ∙ (λ i. unmarked (tree (f i)) (f i))

-- and so is a copy of its tree
pub tree_starts : (s t : Story) (copy : Tree) (live : LiveDocument) → t ≡ s → copy ≡ live.flushed → live ≡ unmarked (tree_at s 0) (document_at s 0) → copy ≡ tree_at t 0
tree_starts s t copy live same e g = e ∙ (ap (λ (l : LiveDocument). l.flushed) g ∙ ap (λ (v : Story). tree_at v 0) (sym same))
