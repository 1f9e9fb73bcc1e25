-- What a live tree keeps from flush to flush.
use Rattle.std.specs.Prelude.{◌≡◌, ℕ, true, false, List, Option, Some}
use Rattle.std.specs.List.Sorted.{IsStrictlyIncreasing}
use Rattle.ax_base.specs.Document.{Document, has}
use Rattle.ax_base.specs.Trees.{IsTree}
use Rattle.ax_dom.specs.Among.{is_in, IsClosedUp}
use Rattle.ax_notice.specs.Candidates.{AreCandidates}
use Rattle.ax_record.specs.declared.record.Record.{Record}
use Rattle.ax_record.specs.Tree.{Tree}
use Rattle.ax_record.specs.Records.{tree}
use Rattle.marked_dom.specs.Marked.{MarkedDocument}
use Rattle.dirty_set.specs.Covers.{Covers}
use Rattle.ctx_pass.specs.Contexts.{AreContextsOf, IsContextKept}
use Rattle.kept_tree.specs.Renewing.{renewed_tree}
use Rattle.kids_pass.specs.Kids.{AreKidsOf, IsKidsKept}
use Rattle.said_pass.specs.Saids.{AreSaidsOf, IsSaidKept}
use Rattle.tree_diff.specs.Alike.{AreAlikeBut}
use Rattle.tree_diff.specs.Candidates.{HaveAllDiffering}
use Rattle.live_tree.specs.declared.passes.Passes.{Passes}

-- What is kept of nodes is that of a document.
pub record ArePassesOf (d : Document) (p : Passes) : Type 0 where
  pub contexts : AreContextsOf d p.contexts
  pub kids : AreKidsOf d p.kids
  pub saids : AreSaidsOf d p.saids

-- What is kept of each node of a document but some is right.
pub record ArePassesBut (d : Document) (p : Passes) (ns : List ℕ) : Type 0 where
  pub contexts : (n : ℕ) → has d n ≡ true → is_in ns n ≡ false → IsContextKept d p.contexts n
  pub kids : (n : ℕ) → has d n ≡ true → is_in ns n ≡ false → IsKidsKept d p.kids n
  pub saids : (n : ℕ) → has d n ≡ true → is_in ns n ≡ false → IsSaidKept d p.saids n

-- What is kept is that of the document at the last flush, and the marks cover what differs from it now.
pub record IsLive (shown : Tree) (dom : MarkedDocument) (p : Passes) : Type 0 where
  -- the document at the last flush
  pub flushed : Document
  pub was_tree : IsTree flushed
  pub shows : shown ≡ tree flushed
  pub covers : Covers flushed dom.document dom.marks
  pub passes : ArePassesOf flushed p

-- A tree is that of some document which is alike at each node but some.
pub record WasAlike (kept : Tree) (now : Document) (ns : List ℕ) : Type 0 where
  pub flushed : Document
  pub was_tree : IsTree flushed
  pub shows : kept ≡ tree flushed
  pub alike : AreAlikeBut flushed now ns

-- the node that has the focus is among some nodes
abbrev pub HasFocusAmong : Document → List ℕ → Type 0
HasFocusAmong d ns = (n : ℕ) → d.focus ≡ Some n → is_in ns n ≡ true

-- A tree is that of a document which is alike at each node but some, which rise and have with each node its parent, and the focused one, and what is kept of each other node is right.
pub record IsRightBut (kept : Tree) (now : Document) (p : Passes) (ns : List ℕ) : Type 0 where
  pub known : (n : ℕ) → is_in ns n ≡ true → has now n ≡ true
  pub rising : IsStrictlyIncreasing ns
  pub closed : IsClosedUp now ns
  pub focus : HasFocusAmong now ns
  pub was : WasAlike kept now ns
  pub others : ArePassesBut now p ns

-- What is kept of nodes is that of a document, and some of its nodes, by rising id, have with each node its parent, and the focused one.
pub record IsPresent (d : Document) (p : Passes) (ns : List ℕ) : Type 0 where
  pub tree : IsTree d
  pub passes : ArePassesOf d p
  pub rising : IsStrictlyIncreasing ns
  pub closed : IsClosedUp d ns
  pub focus : HasFocusAmong d ns

-- With other records at some ids and another focus, a tree is that of a document; the ids have each at which the two trees differ, and some more are those of which something may be told.
pub record LeadsTo (kept : Tree) (d : Document) (records : List (ℕ × Record)) (ids near : List ℕ) (focus : Option ℕ) : Type 0 where
  pub becomes : renewed_tree kept records ids focus ≡ tree d
  pub differ : HaveAllDiffering kept (tree d) ids
  pub told : AreCandidates kept (tree d) near
