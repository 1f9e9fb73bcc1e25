-- What a live tree keeps stays right.
use Rattle.std.proofs.Common.{◌≡◌, ℕ, ◌+◌, ◌*◌, ◌≤◌, List, length, true, false, sym, ap, subst, ◌∙◌, arith}
use Rattle.std.specs.Prelude.{sum_by}
use Rattle.std.specs.List.Sorted.{IsStrictlyIncreasing}
use Rattle.ax_base.specs.Document.{Document, has}
use Rattle.ax_base.specs.Trees.{IsTree}
use Rattle.ax_dom.specs.Among.{is_in, IsClosedUp}
use Rattle.ax_record.specs.Tree.{Tree}
use Rattle.ax_record.specs.Records.{tree}
use Rattle.node_order.specs.Orders.{IsFromAbove}
use Rattle.dirty_set.specs.Reach.{Marked, no_marks, reach, weight}
use Rattle.dirty_set.specs.Covers.{Covers}
use Rattle.dirty_set.proofs.Covering.{covers_none}
use Rattle.dirty_set.proofs.Weighing.{length_weighs}
use Rattle.tree_diff.specs.Alike.{AreAlikeBut}
use Rattle.live_tree.specs.declared.passes.Passes.{Passes}
use Rattle.live_tree.specs.LiveTrees.{LiveDocument, unmarked}
use Rattle.marked_dom.specs.Marked.{MarkedDocument}
use Rattle.live_tree.specs.Living.{ArePassesOf, ArePassesBut, IsLive, WasAlike, HasFocusAmong, IsRightBut, IsPresent}
use Rattle.live_tree.specs.Remaking.{IsOrderOf}
use Rattle.live_tree.proofs.Reached.{reach_rises, reach_known, reach_closed, reach_focused, still_alike, passes_kept}

-- after a flush, and at the start
pub begins : (shown : Tree) (dom : MarkedDocument) (p : Passes) (d : Document) → IsTree d → shown ≡ tree d → dom ≡ record { document = d; marks = no_marks } → ArePassesOf d p → IsLive shown dom p
begins shown dom p d t shows is are = record {
  flushed = d;
  was_tree = t;
  shows = shows;
  covers = subst (λ (x : MarkedDocument). Covers d x.document x.marks) (sym is) (covers_none d no_marks);
  passes = are;
}

-- after an edit
pub goes_on : (shown : Tree) (old new : MarkedDocument) (p : Passes) → IsLive shown old p → ((flushed : Document) → Covers flushed old.document old.marks → Covers flushed new.document new.marks) → IsLive shown new p
goes_on shown old new p live covers = record { flushed = live.flushed; was_tree = live.was_tree; shows = live.shows; covers = covers live.flushed live.covers; passes = live.passes }

module _ (shown : Tree) (dom : MarkedDocument) (p : Passes) (live : IsLive shown dom p) (d : Document) (at : d ≡ dom.document) (t : IsTree d) (ns : List ℕ) (is : ns ≡ reach dom.document dom.marks) where
  covered : Covers live.flushed d dom.marks
  covered = subst (λ x. Covers live.flushed x dom.marks) (sym at) live.covers

  reach_is : ns ≡ reach d dom.marks
  reach_is = is ∙ ap (λ x. reach x dom.marks) (sym at)

  was_alike : WasAlike shown d ns
  was_alike = record {
    flushed = live.flushed;
    was_tree = live.was_tree;
    shows = live.shows;
    alike = subst (AreAlikeBut live.flushed d) (sym reach_is) (still_alike d t dom.marks live.flushed covered);
  }

  -- all but what the marks reach is right
  pub right_but : IsRightBut shown d p ns
  right_but = record {
    known = subst (λ l. (n : ℕ) → is_in l n ≡ true → has d n ≡ true) (sym reach_is) (reach_known d t dom.marks);
    rising = subst IsStrictlyIncreasing (sym reach_is) (reach_rises d t dom.marks);
    closed = subst (IsClosedUp d) (sym reach_is) (reach_closed d t dom.marks);
    focus = subst (HasFocusAmong d) (sym reach_is) (reach_focused d t dom.marks);
    was = was_alike;
    others = subst (ArePassesBut d p) (sym reach_is) (passes_kept d t dom.marks live.flushed covered p live.passes);
  }

-- what the marks reach is no more than they weigh
pub reach_weighs : (d : Document) (m : Marked) (ns : List ℕ) → ns ≡ reach d m → length ns ≤ weight d m
reach_weighs d m ns is = subst (λ (l : List ℕ). length l ≤ sum_by (Rattle.dirty_set.specs.Reach.weight_of d) (reach d m)) (sym is) (length_weighs d (reach d m))

-- a tree and a document with its marks, as one value
abbrev pub live_document : Tree → MarkedDocument → LiveDocument
live_document t m = record { flushed = t; document = m.document; marks = m.marks }

-- what is told of two trees is told of the one at the last flush and that of the present document
module _ (shown : Tree) (dom : MarkedDocument) (self : LiveDocument) (view : live_document shown dom ≡ self) (d : Document) (at : d ≡ dom.document) where
  document_is : d ≡ self.document
  document_is = at ∙ ap (λ (x : LiveDocument). x.document) view

  pub now_flushed : (after : Tree) (next : MarkedDocument) → after ≡ tree d → next ≡ record { document = d; marks = no_marks } → live_document after next ≡ unmarked (tree self.document) self.document
  now_flushed after next is same = λ i. live_document ((is ∙ ap tree document_is) i) ((same ∙ ap without document_is) i)
    where
      without : Document → MarkedDocument
      without x = record { document = x; marks = no_marks }

  pub between : {X : Type 0} (f : Tree → Tree → X) (value : X) → value ≡ f shown (tree d) → value ≡ f self.flushed (tree self.document)
  between f value is = is ∙ (λ i. f (ap (λ (x : LiveDocument). x.flushed) view i) (ap tree document_is i))

-- what is renewed stands in a list that is the nodes
module _ (kept : Tree) (d : Document) (p : Passes) (ns : List ℕ) (right : IsRightBut kept d p ns) (listed : List ℕ) (is : listed ≡ ns) where
  pub is_present : IsTree d → (fresh : Passes) → ArePassesOf d fresh → IsPresent d fresh listed
  is_present t fresh are = record {
    tree = t;
    passes = are;
    rising = subst IsStrictlyIncreasing (sym is) right.rising;
    closed = subst (IsClosedUp d) (sym is) right.closed;
    focus = subst (HasFocusAmong d) (sym is) right.focus;
  }

  pub was_but : WasAlike kept d listed
  was_but = subst (WasAlike kept d) (sym is) right.was

  pub listed_known : (n : ℕ) → is_in listed n ≡ true → has d n ≡ true
  listed_known n on = right.known n (ap (λ l. is_in l n) (sym is) ∙ on)

  pub listed_closed : IsClosedUp d listed
  listed_closed = subst (IsClosedUp d) (sym is) right.closed

  -- the same nodes in an order from above
  module _ (order down : List ℕ) (same : down ≡ order) (among : (n : ℕ) → is_in order n ≡ is_in listed n) where
    down_among : (n : ℕ) → is_in down n ≡ is_in listed n
    down_among n = ap (λ l. is_in l n) same ∙ among n

    out_of : (n : ℕ) → is_in down n ≡ false → is_in ns n ≡ false
    out_of n off = ap (λ l. is_in l n) (sym is) ∙ sym (down_among n) ∙ off

    pub others_but : ArePassesBut d p down
    others_but = record {
      contexts = λ n there off. right.others.contexts n there (out_of n off);
      kids = λ n there off. right.others.kids n there (out_of n off);
      saids = λ n there off. right.others.saids n there (out_of n off);
    }

    pub in_order : IsFromAbove d order → length order ≤ length listed → IsOrderOf d listed down
    in_order from few = record { order = subst (IsFromAbove d) (sym same) from; same = down_among; few = subst (λ (l : List ℕ). length l ≤ length listed) (sym same) few }

-- the reads of a renewal: one for each node that is renewed to put them in order, seven for what is kept of it, and two for its records
pub order_read : (ns listed : List ℕ) (first ordered : ℕ) → listed ≡ ns → ordered ≤ first + length listed → ordered ≤ first + 10 * length ns
order_read ns listed first ordered is read = let same = ap length is in omega arith

pub passes_read : (ns listed order down : List ℕ) (first ordered passed : ℕ) → listed ≡ ns → down ≡ order → length order ≤ length listed → ordered ≤ first + length listed → passed ≤ ordered + 7 * length down → passed ≤ first + 10 * length ns
passes_read ns listed order down first ordered passed is at few read more = let same = ap length is in let all = ap length at in omega arith

pub all_read : (ns listed order down : List ℕ) (first ordered passed last : ℕ) → listed ≡ ns → down ≡ order → length order ≤ length listed → ordered ≤ first + length listed → passed ≤ ordered + 7 * length down → last ≤ passed + 2 * length listed
    → last ≤ first + 10 * length ns
all_read ns listed order down first ordered passed last is at few read more rest = let same = ap length is in let all = ap length at in omega arith

-- those of a flush, with three for what the marks weigh
pub flush_read : (dom : MarkedDocument) (self : LiveDocument) (shown : Tree) → live_document shown dom ≡ self → (ns : List ℕ) → ns ≡ reach dom.document dom.marks → (first found last : ℕ)
    → found ≤ first + 3 * weight dom.document dom.marks → last ≤ found + 10 * length ns → last ≤ first + 13 * weight self.document self.marks
flush_read dom self shown view ns is first found last reached renewed =
    let few = reach_weighs dom.document dom.marks ns is in
    let same : weight dom.document dom.marks ≡ weight self.document self.marks = ap (λ (x : LiveDocument). weight x.document x.marks) view in
    omega arith
