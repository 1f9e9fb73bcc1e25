-- What the core keeps stays right.
use Rattle.std.proofs.Common.{◌≡◌, ℕ, suc, ◌+◌, ◌≤◌, List, [], ◌∷◌, ◌++◌, drop, Some, refl, sym, ap, ◌∙◌, subst, arith}
use Rattle.std.specs.Prelude.{slice_get, IsTrue, Result, Ok, Err, IfOk}
use Rattle.ax_base.specs.declared.memory.NoMemory.{NoMemory}
use Rattle.ax_base.specs.declared.notices.Notice.{Notice}
use Rattle.std.proofs.Math.Seq.{drop-cons}
use Rattle.std.proofs.lemmas.Option.{slice_get_within, get_or_from_slice_get}
use Rattle.std.proofs.lemmas.List.Elements.{All-get_or}
use Rattle.ax_base.specs.Document.{Document}
use Rattle.ax_dom.specs.declared.edit.Edit.{Edit}
use Rattle.ax_dom.specs.Changes.{edited, new_document}
use Rattle.ax_record.specs.Tree.{Tree}
use Rattle.ax_record.specs.Records.{tree}
use Rattle.ax_batch.specs.declared.batch.Batch.{Batch}
use Rattle.ax_batch.specs.Batches.{batch_between}
use Rattle.ax_notice.specs.Notices.{notices_between}
use Rattle.change_log.specs.declared.log.LogEntries.{LogEntries}
use Rattle.change_log.specs.Logs.{entry_after, no_entries, appended, span, patched_by, notices_in, MayPatch}
use Rattle.change_log.proofs.Spans.{span-snoc, span-none, span_patches, span_fits, span_notices}
use Rattle.live_tree.specs.LiveTrees.{LiveDocument, unmarked}
use Rattle.story_check.specs.declared.story.ClientLine.{ClientLine}
use Rattle.story_check.specs.declared.story.PageLine.TheVariants.{Change, Flush, Until}
use Rattle.story_check.specs.Stories.{Story, flushes}
use Rattle.story_check.specs.Moments.{document_at, after_edits, after_flushes, tree_at, MayBeDone, AreLinesAccepted, AreTrees}
use Rattle.ax_ask.specs.declared.transcripts.Entry.{Entry}
use Rattle.ax_ask.specs.declared.requests.Request.{Request}
use Rattle.ax_ask.specs.declared.replies.Reply.{Reply}
use Rattle.ax_answer.specs.Answers.{answer}
use Rattle.ax_answer.specs.Moments.{answer_at, notices_of}
use Rattle.ax_answer.proofs.Noticing.{notices-join, notices-none}
use Rattle.ax_world.specs.Machine.{State, start}
use Rattle.ax_world.specs.Worlds.{IsKept}

-- the line at a place is the first of those that are left
drop_line : {X : Type 0} (xs : List X) (i : ℕ) (x : X) → slice_get xs i ≡ Some x → drop i xs ≡ x ∷ drop (i + 1) xs
drop_line xs i x e = let n : suc i ≡ i + 1 = omega arith in drop-cons xs i x (slice_get_within xs i x e) ∙ (λ j. get_or_from_slice_get xs i x x e j ∷ drop (n j) xs)

-- the lines that are left when this one is done
left_after : {X : Type 0} (xs : List X) (i done : ℕ) (x : X) → slice_get xs i ≡ Some x → done ≡ i + 1 → drop i xs ≡ x ∷ drop done xs
left_after xs i done x e f = drop_line xs i x e ∙ ap (λ k. x ∷ drop k xs) (sym f)

tree_of_start : (s : Story) (d : Document) (t : Tree) → d ≡ after_edits new_document s.base → t ≡ tree d → t ≡ tree_at s 0
unfolding tree_at document_at
tree_of_start s d t e f = f ∙ ap tree e

later_of_start : (s : Story) (d : Document) (k : ℕ) → d ≡ after_edits new_document s.base → document_at s (0 + suc k) ≡ after_flushes d s.page (suc k)
unfolding document_at
later_of_start s d k e = let n : 0 + suc k ≡ suc k = omega arith in ap (after_flushes (after_edits new_document s.base) s.page) n ∙ ap (λ x. after_flushes x s.page (suc k)) (sym e)

tree_next : (s : Story) (d : Document) (p : ℕ) → document_at s (p + 1) ≡ d → tree d ≡ tree_at s (p + 1)
unfolding tree_at
tree_next s d p e = ap tree (sym e)

-- the document of moment 0 is that of the edits before the start
pub base_is : (s : Story) → document_at s 0 ≡ after_edits new_document s.base
unfolding document_at
base_is s = refl

pub kept_start : (s : Story) (entries : List Entry) (document : Document) (live : LiveDocument) (log : LogEntries) (client_tree : Tree) (pending : List Notice) → document ≡ after_edits new_document s.base → live ≡ unmarked (tree document) document → log ≡ no_entries → client_tree ≡ live.flushed → pending ≡ [] → AreLinesAccepted (after_edits new_document s.base) s.page → AreTrees s → IsKept s (record start { entries = entries }) live log client_tree pending
kept_start s entries document live log client_tree pending d v l m p a trees =
    let is : live.document ≡ after_edits new_document s.base = ap (λ (x : LiveDocument). x.document) v ∙ d in
    let shown : live.flushed ≡ tree_at s 0 = tree_of_start s document live.flushed d (ap (λ (x : LiveDocument). x.flushed) v) in
    record {
      left = omega arith;
      later = λ k. later_of_start s live.document k is;
      accepted = subst (λ x. AreLinesAccepted x s.page) (sym is) a;
      trees = trees;
      shown_is = shown;
      log_is = l ∙ sym (span-none (tree_at s) 0);
      client_tree_is = m ∙ shown;
      pending_is = p ∙ sym (notices-none s 0);
      taken_most = omega arith;
      noticed_most = omega arith;
    }

-- the next edit may be done
pub next_accepted : (s : Story) (c : State) (live : LiveDocument) (log : LogEntries) (client_tree : Tree) (pending : List Notice) (edit : Edit) → IsKept s c live log client_tree pending → slice_get s.page c.page_done ≡ Some (Change edit) → MayBeDone live.document edit
next_accepted s c live log client_tree pending edit h line = (subst (AreLinesAccepted live.document) (drop_line s.page c.page_done (Change edit) line) h.accepted).0

pub kept_change : (s : Story) (c : State) (live : LiveDocument) (log : LogEntries) (client_tree : Tree) (pending : List Notice) (done : ℕ) (edit : Edit) (now : LiveDocument) → IsKept s c live log client_tree pending → slice_get s.page c.page_done ≡ Some (Change edit) → done ≡ c.page_done + 1 → now ≡ record { flushed = live.flushed; document = edited live.document edit; marks = now.marks } → IsKept s (record c { page_done = done }) now log client_tree pending
kept_change s c live log client_tree pending done edit now h line e v =
    let d = left_after s.page c.page_done done (Change edit) line e in
    let f : now.document ≡ edited live.document edit = ap (λ (x : LiveDocument). x.document) v in
    record {
      left = let f = ap flushes d in let g = h.left in omega arith;
      later = λ k. h.later k ∙ (ap (λ l. after_flushes live.document l (suc k)) d ∙ ap (λ x. after_flushes x (drop done s.page) (suc k)) (sym f));
      accepted = subst (λ x. AreLinesAccepted x (drop done s.page)) (sym f) (subst (AreLinesAccepted live.document) d h.accepted).1;
      trees = h.trees;
      shown_is = ap (λ (x : LiveDocument). x.flushed) v ∙ h.shown_is;
      log_is = h.log_is;
      client_tree_is = h.client_tree_is;
      pending_is = h.pending_is;
      taken_most = h.taken_most;
      noticed_most = h.noticed_most;
    }

pub kept_until : (s : Story) (c : State) (live : LiveDocument) (log : LogEntries) (client_tree : Tree) (pending : List Notice) (done k : ℕ) → IsKept s c live log client_tree pending → slice_get s.page c.page_done ≡ Some (Until k) → done ≡ c.page_done + 1 → IsKept s (record c { page_done = done }) live log client_tree pending
kept_until s c live log client_tree pending done n h line e =
    let d = left_after s.page c.page_done done (Until n) line e in
    record {
      left = let f = ap flushes d in let g = h.left in omega arith;
      later = λ k. h.later k ∙ ap (λ l. after_flushes live.document l (suc k)) d;
      accepted = subst (AreLinesAccepted live.document) d h.accepted;
      trees = h.trees;
      shown_is = h.shown_is;
      log_is = h.log_is;
      client_tree_is = h.client_tree_is;
      pending_is = h.pending_is;
      taken_most = h.taken_most;
      noticed_most = h.noticed_most;
    }

-- there is a flush that is not published yet
pub may_publish : (s : Story) (c : State) (live : LiveDocument) (log : LogEntries) (client_tree : Tree) (pending : List Notice) → IsKept s c live log client_tree pending → slice_get s.page c.page_done ≡ Some Flush → c.published + 1 + flushes (drop (c.page_done + 1) s.page) ≡ flushes s.page
may_publish s c live log client_tree pending h line = let x = ap flushes (drop_line s.page c.page_done Flush line) in let y = h.left in omega arith

-- what a flush appends is the next moment
next_entry : (s : Story) (p : ℕ) (shown now : Tree) (b : Batch) (n : List Notice) → shown ≡ tree_at s p → now ≡ tree_at s (p + 1) → b ≡ batch_between shown now → n ≡ notices_between shown now (p + 1) → record { batch = b; notices = n } ≡ entry_after (tree_at s) p
next_entry s p shown now b n x y e f = λ i. record {
  batch = (e ∙ (λ j. batch_between (x j) (y j))) i;
  notices = (f ∙ (λ j. notices_between (x j) (y j) (p + 1))) i;
}

pub kept_flush : (s : Story) (c : State) (live : LiveDocument) (log : LogEntries) (client_tree : Tree) (pending : List Notice) (done published : ℕ) (now : LiveDocument) (batch : Batch) (notices : List Notice) (longer : LogEntries) → IsKept s c live log client_tree pending → slice_get s.page c.page_done ≡ Some Flush → done ≡ c.page_done + 1 → published ≡ c.published + 1
    → now ≡ unmarked (tree live.document) live.document → batch ≡ batch_between live.flushed (tree live.document) → notices ≡ notices_between live.flushed (tree live.document) published → longer ≡ appended log (record { batch = batch; notices = notices })
    → IsKept s (record c { page_done = done; published = published }) now longer client_tree pending
kept_flush s c live log client_tree pending done published now batch notices longer h line e f v b n l =
    let d = left_after s.page c.page_done done Flush line e in
    let same : now.document ≡ live.document = ap (λ (x : LiveDocument). x.document) v in
    let next : document_at s (c.published + 1) ≡ live.document = h.later 0 ∙ ap (λ l. after_flushes live.document l 1) d in
    let shown : tree live.document ≡ tree_at s (c.published + 1) = tree_next s live.document c.published next in
    let more : record { batch = batch; notices = notices } ≡ entry_after (tree_at s) c.published = next_entry s c.published live.flushed (tree live.document) batch notices h.shown_is shown b (n ∙ ap (λ j. notices_between live.flushed (tree live.document) j) f) in
    record {
      left = let x = ap flushes d in let y = h.left in omega arith;
      later = λ k. let n : published + suc k ≡ c.published + suc (suc k) = omega arith in ap (document_at s) n ∙ (h.later (suc k) ∙ (ap (λ l. after_flushes live.document l (suc (suc k))) d ∙ ap (λ x. after_flushes x (drop done s.page) (suc k)) (sym same)));
      accepted = subst (λ x. AreLinesAccepted x (drop done s.page)) (sym same) (subst (AreLinesAccepted live.document) d h.accepted);
      trees = h.trees;
      shown_is = ap (λ (x : LiveDocument). x.flushed) v ∙ (shown ∙ ap (tree_at s) (sym f));
      log_is = l ∙ ((λ i. appended (h.log_is i) (more i)) ∙ (sym (span-snoc (tree_at s) c.taken c.published h.taken_most) ∙ ap (λ k. span (tree_at s) c.taken k) (sym f)));
      client_tree_is = h.client_tree_is;
      pending_is = h.pending_is;
      taken_most = let x = h.taken_most in omega arith;
      noticed_most = h.noticed_most;
    }

-- what the log has fits the client's tree
pub log_fits : (s : Story) (c : State) (live : LiveDocument) (log : LogEntries) (client_tree : Tree) (pending : List Notice) → IsKept s c live log client_tree pending → MayPatch client_tree log
log_fits s c live log client_tree pending h = subst (λ (y : Tree × LogEntries). MayPatch y.0 y.1) (λ i. (sym h.client_tree_is i, sym h.log_is i)) (span_fits (tree_at s) c.taken c.published h.trees)

-- the notices of a span are those of its moments
told_of_span : (s : Story) (t p : ℕ) → notices_in (span (tree_at s) t p) ≡ notices_of s t p
unfolding notices_of
told_of_span s t p = span_notices (tree_at s) t p

-- the client takes all that is published
pub kept_take : (s : Story) (c : State) (live : LiveDocument) (log none : LogEntries) (client_tree now : Tree) (pending told more : List Notice) → IsKept s c live log client_tree pending → none ≡ no_entries → now ≡ patched_by client_tree log → told ≡ notices_in log → more ≡ pending ++ told → IsKept s (record c { taken = c.published }) live none now more
kept_take s c live log none client_tree now pending told more h e p n m =
    let up = h.taken_most in
    let low = h.noticed_most in
    record {
      left = h.left;
      later = h.later;
      accepted = h.accepted;
      trees = h.trees;
      shown_is = h.shown_is;
      log_is = e ∙ sym (span-none (tree_at s) c.published);
      client_tree_is = p ∙ ((λ i. patched_by (h.client_tree_is i) (h.log_is i)) ∙ span_patches (tree_at s) c.taken c.published h.trees up);
      pending_is = m ∙ ((λ i. h.pending_is i ++ (n ∙ (ap notices_in h.log_is ∙ told_of_span s c.taken c.published)) i) ∙ sym (notices-join s c.noticed c.taken c.published low up));
      taken_most = omega arith;
      noticed_most = omega arith;
    }

-- the client prints its notices
pub kept_told : (s : Story) (c : State) (live : LiveDocument) (log : LogEntries) (client_tree : Tree) (pending none : List Notice) → IsKept s c live log client_tree pending → none ≡ [] → IsKept s (record c { noticed = c.taken }) live log client_tree none
kept_told s c live log client_tree pending none h e = record {
  left = h.left;
  later = h.later;
  accepted = h.accepted;
  trees = h.trees;
  shown_is = h.shown_is;
  log_is = h.log_is;
  client_tree_is = h.client_tree_is;
  pending_is = e ∙ sym (notices-none s c.taken);
  taken_most = h.taken_most;
  noticed_most = omega arith;
}

-- the client's tree answers what is answered at the moment taken
pub reply_from_tree : (s : Story) (c : State) (live : LiveDocument) (log : LogEntries) (client_tree : Tree) (pending : List Notice) (q : Request) (r : Result Reply NoMemory) → IsKept s c live log client_tree pending → IfOk r (λ x. x ≡ answer client_tree q) → IfOk r (λ x. x ≡ answer_at s c.taken q)
unfolding answer_at
reply_from_tree s c live log client_tree pending q (Ok r) h e = e ∙ ap (λ t. answer t q) h.client_tree_is
reply_from_tree s c live log client_tree pending q (Err f) h e = e
