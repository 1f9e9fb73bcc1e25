-- One line of the page.
use Rattle.std.proofs.Common.{◌≡◌, ℕ, zero, suc, ◌+◌, ◌-◌, ◌≤◌, ◌<◌, List, [], ◌∷◌, ◌++◌, length, get_or, drop, Bool, true, false, ◌&&◌, refl, sym, ap, ◌∙◌, subst, append_assoc, arith}
use Rattle.std.specs.Prelude.{nat_le, nat_lt, if◌then◌else◌}
use Rattle.std.proofs.Math.Seq.{drop-cons}
use Rattle.std.proofs.lemmas.Bool.Decides.{nat_tests}
use Rattle.turn_word.specs.declared.view.PageRecord.{PageRecord}
use Rattle.turn_word.specs.Views.{new_page}
use Rattle.ax_port.specs.States.{PageState, with_page, published_more, over_page}
use Rattle.story_check.specs.declared.story.PageLine.{PageLine}
use Rattle.story_check.specs.declared.story.PageLine.TheVariants.{Change, Flush, Until}
use Rattle.story_check.specs.Stories.{Story, flushes, cap, untils_met}
use Rattle.story_check.proofs.Caps.{cap_most, flushes-append, cap_past, untils-append, untils_rise, and_true}
use Rattle.ax_batch.specs.declared.batch.Batch.{Batch}
use Rattle.ax_base.specs.Document.{Document}
use Rattle.ax_base.specs.declared.notices.Notice.{Notice}
use Rattle.ax_dom.specs.declared.edit.Edit.{Edit}
use Rattle.ax_dom.specs.Changes.{edited, new_document}
use Rattle.ax_record.specs.Records.{tree}
use Rattle.ax_notice.specs.Notices.{notices_between}
use Rattle.story_check.specs.Moments.{after_edits, after_flushes, document_at, tree_at, MayBeDone, AreLinesAccepted, IsAccepted}
use Rattle.ax_batch.specs.Batches.{batch_between}
use Rattle.change_log.specs.Logs.{entry_after}
use Rattle.live_tree.specs.LiveTrees.{unmarked}
use Rattle.page_thread.specs.declared.ends.PageEnd.{PageEnd}
use Rattle.page_thread.specs.declared.ends.PageEnd.TheVariants.{Done, NoMemory, Ended}
use Rattle.page_thread.specs.declared.work.Side.{Side}
use Rattle.page_thread.specs.Pages.{WaitsAt, PageDid, PageStands}

-- the next line, and those after it
pub next_line : (page : List PageLine) (i : ℕ) (x : PageLine) → i < length page → x ≡ get_or page i x → drop i page ≡ x ∷ drop (i + 1) page
next_line page i x low is = let n : suc i ≡ i + 1 = omega arith in drop-cons page i x low ∙ (λ j. (sym is) j ∷ drop (n j) page)

tree_of_document : (s : Story) (k : ℕ) (d : Document) → document_at s k ≡ d → tree_at s k ≡ tree d
unfolding tree_at
tree_of_document s k d e = ap tree e

document_first : (s : Story) (k : ℕ) → document_at s (0 + suc k) ≡ after_flushes (document_at s 0) s.page (suc k)
unfolding document_at
document_first s k = let n : 0 + suc k ≡ suc k = omega arith in ap (after_flushes (after_edits new_document s.base) s.page) n

lines_accepted : (s : Story) → IsAccepted s → AreLinesAccepted (document_at s 0) s.page
unfolding document_at
lines_accepted s a = a.lines

pub page_starts : (s : Story) (r : PageRecord) (side : Side) → IsAccepted s → flushes s.page ≤ 65537 → r ≡ new_page → side ≡ record { live = unmarked (tree_at s 0) (document_at s 0); published = 0 } → PageStands s s.page r side
page_starts s r side a few e f = subst (λ (y : PageRecord × Side). PageStands s s.page y.0 y.1) (λ i. (sym e i, sym f i))
    (record { before = []; is = refl; few = few; count = refl; flushed = refl; passed = refl; going = refl; tree = refl; later = document_first s; accepted = lines_accepted s a })

append_one : {X : Type 0} (page before : List X) (x : X) (xs : List X) → page ≡ before ++ x ∷ xs → page ≡ (before ++ x ∷ []) ++ xs
append_one page before x xs is = is ∙ sym (append_assoc before (x ∷ []) xs)

pub page_changes : (s : Story) (xs : List PageLine) (r : PageRecord) (side next : Side) (e : Edit) → next ≡ record { live = record { flushed = side.live.flushed; document = edited side.live.document e; marks = next.live.marks }; published = side.published } → PageStands s (Change e ∷ xs) r side → PageStands s xs r next
page_changes s xs r side next e is h = subst (PageStands s xs r) (sym is) (record {
  before = h.before ++ Change e ∷ [];
  few = h.few;
  is = append_one s.page h.before (Change e) xs h.is;
  count = h.count;
  flushed = let f = flushes-append h.before (Change e ∷ []) in let g = h.flushed in omega arith;
  passed = and_true _ _ _ (untils-append h.before (Change e ∷ []) r.seen) h.passed refl;
  going = h.going;
  tree = h.tree;
  later = h.later;
  accepted = h.accepted.1;
})

-- at a flush the present document is that of the next moment
pub document_next : (s : Story) (xs : List PageLine) (r : PageRecord) (side : Side) → PageStands s (Flush ∷ xs) r side → tree_at s (r.published + 1) ≡ tree side.live.document
document_next s xs r side h = tree_of_document s (r.published + 1) side.live.document (h.later 0)

pub page_may_publish : (s : Story) (xs : List PageLine) (r : PageRecord) (side : Side) → PageStands s (Flush ∷ xs) r side → r.published + 1 ≤ cap s.page r.seen
page_may_publish s xs r side h =
    let c = cap_past h.before (Flush ∷ xs) r.seen h.passed in
    let e = ap (λ (l : List PageLine). cap l r.seen) h.is in
    let f = h.flushed in
    omega arith

pub next_entry : (s : Story) (xs : List PageLine) (r : PageRecord) (side : Side) (b : Batch) (n : List Notice) → b ≡ batch_between side.live.flushed (tree side.live.document) → n ≡ notices_between side.live.flushed (tree side.live.document) (side.published + 1) → PageStands s (Flush ∷ xs) r side → record { batch = b; notices = n } ≡ entry_after (tree_at s) r.published
next_entry s xs r side b n e f h =
    let next = document_next s xs r side h in
    λ i. record {
      batch = (e ∙ (λ j. batch_between (h.tree j) (sym next j))) i;
      notices = (f ∙ (λ j. notices_between (h.tree j) (sym next j) (h.count j + 1))) i;
    }

-- its number fits
pub room : (s : Story) (xs : List PageLine) (r : PageRecord) (side : Side) → PageStands s (Flush ∷ xs) r side → side.published < 65537
room s xs r side h = let a = page_may_publish s xs r side h in let b = cap_most s.page r.seen in let c = h.few in let d = h.count in omega arith

pub page_flushes : (s : Story) (xs : List PageLine) (r new : PageRecord) (side next : Side) → new ≡ published_more r → next ≡ record { live = unmarked (tree side.live.document) side.live.document; published = side.published + 1 } → PageStands s (Flush ∷ xs) r side → PageStands s xs new next
page_flushes s xs r new side next e f h = subst (λ (y : PageRecord × Side). PageStands s xs y.0 y.1) (λ i. (sym e i, sym f i)) (record {
  before = h.before ++ Flush ∷ [];
  few = h.few;
  is = append_one s.page h.before Flush xs h.is;
  count = ap (λ (n : ℕ). n + 1) h.count;
  flushed = let f = flushes-append h.before (Flush ∷ []) in let g = h.flushed in omega arith;
  passed = and_true _ _ _ (untils-append h.before (Flush ∷ []) r.seen) h.passed refl;
  going = h.going;
  tree = sym (document_next s xs r side h);
  later = λ k. let n : r.published + 1 + suc k ≡ r.published + suc (suc k) = omega arith in ap (document_at s) n ∙ h.later (suc k);
  accepted = h.accepted;
})

until_met : (k t : ℕ) → k ≤ t → untils_met t (Until k ∷ []) ≡ true
until_met k t h = let e : nat_le k t ≡ true = grind (arith, nat_tests) in ap (λ (b : Bool). b && true) e

pub page_passes : (s : Story) (xs : List PageLine) (r new : PageRecord) (side : Side) (k : ℕ) → new.published ≡ r.published → new.over ≡ r.over → r.seen ≤ new.seen → k ≤ new.seen → PageStands s (Until k ∷ xs) r side → PageStands s xs new side
page_passes s xs r new side k same over seen met h = record {
  before = h.before ++ Until k ∷ [];
  few = h.few;
  is = append_one s.page h.before (Until k) xs h.is;
  count = h.count ∙ sym same;
  flushed = let f = flushes-append h.before (Until k ∷ []) in let g = h.flushed in omega arith;
  passed = and_true _ _ _ (untils-append h.before (Until k ∷ []) new.seen) (untils_rise h.before r.seen new.seen seen h.passed) (until_met k new.seen met);
  going = over ∙ h.going;
  tree = h.tree ∙ ap (tree_at s) (sym same);
  later = λ j. ap (λ (p : ℕ). document_at s (p + suc j)) same ∙ h.later j;
  accepted = h.accepted;
}

-- where the wait is not met, all is published that may be
no_more : (k t : ℕ) (xs : List PageLine) → t < k → cap (Until k ∷ xs) t ≡ 0
no_more k t xs h = let e : nat_lt t k ≡ true = grind (arith, nat_tests) in ap (λ (b : Bool). if b then 0 else cap xs t) e

pub page_ends_there : (s : Story) (xs : List PageLine) (r new : PageRecord) (side : Side) (need have : ℕ) → new.published ≡ r.published → r.seen ≤ new.seen → new.seen ≡ have → new.seen_over ≡ true → have < need → PageStands s (Until need ∷ xs) r side → PageDid s new (Ended need have)
page_ends_there s xs r new side need have same seen is over less h =
    let met : untils_met have h.before ≡ true = subst (λ (t : ℕ). untils_met t h.before ≡ true) is (untils_rise h.before r.seen new.seen seen h.passed) in
    let c = cap_past h.before (Until need ∷ xs) have met in
    let e = ap (λ (l : List PageLine). cap l have) h.is in
    let z = no_more need have xs less in
    let f = h.flushed in
    (is, over, record { before = h.before; after = xs; is = h.is; met = met; more = less }, omega arith)

flushes-none : (before : List PageLine) → flushes (before ++ []) ≡ flushes before
flushes-none before = let f = flushes-append before [] in omega arith

-- the last line is done
pub page_is_done : (s : Story) (left : List PageLine) (r : PageRecord) (side : Side) → left ≡ [] → PageStands s left r side → PageDid s (over_page r) Done
page_is_done s left r side none h =
    let is : s.page ≡ h.before ++ [] = h.is ∙ ap (λ (l : List PageLine). h.before ++ l) none in
    let f = h.flushed in
    let g = flushes-none h.before in
    let e = ap flushes is in
    (omega arith, ap (untils_met r.seen) is ∙ and_true _ _ _ (untils-append h.before [] r.seen) h.passed refl)

-- closing the port changes none of it
pub page_closes : (s : Story) (r : PageRecord) (end : PageEnd) → PageDid s r end → PageDid s (over_page r) end
page_closes s r Done h = h
page_closes s r NoMemory h = h
page_closes s r (Ended need have) h = h

-- the same of ports
pub ends_closed : (s t : Story) (port closed : PageState) (end : PageEnd) → t ≡ s → closed ≡ with_page port (over_page port.page) → PageDid t port.page end → PageDid s closed.page end
ends_closed s t port closed end same is h = subst (λ (y : Story × PageRecord). PageDid y.0 y.1 end) (λ i. (same i, ap (λ (v : PageState). v.page) (sym is) i)) (page_closes t port.page end h)

pub done_closed : (s : Story) (left : List PageLine) (port closed : PageState) (side : Side) → left ≡ [] → closed ≡ with_page port (over_page port.page) → PageStands s left port.page side → PageDid s closed.page Done
done_closed s left port closed side none is h = subst (λ (r : PageRecord). PageDid s r Done) (ap (λ (v : PageState). v.page) (sym is)) (page_is_done s left port.page side none h)

pub next_at : (page : List PageLine) (i : ℕ) (d : PageLine) → i < length page → drop i page ≡ get_or page i d ∷ drop (i + 1) page
next_at page i d low = let n : suc i ≡ i + 1 = omega arith in drop-cons page i d low ∙ ap (λ (k : ℕ). get_or page i d ∷ drop k page) n

pub drop_all : (page : List PageLine) (i : ℕ) → length page ≤ i → drop i page ≡ []
drop_all [] zero h = refl
drop_all [] (suc i) h = refl
drop_all (x ∷ xs) zero h = absurd (omega arith)
drop_all (x ∷ xs) (suc i) h = drop_all xs i (omega arith)

-- the edit of the next line may be done
pub may_change : (s : Story) (left : List PageLine) (r : PageRecord) (side : Side) (line : PageLine) (e : Edit) → line ≡ Change e → PageStands s (line ∷ left) r side → MayBeDone side.live.document e
may_change s left r side line e is h = (subst (λ (l : PageLine). PageStands s (l ∷ left) r side) is h).accepted.0
