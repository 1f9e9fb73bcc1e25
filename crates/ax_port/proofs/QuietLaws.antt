-- Nothing changes in a quiet story.
use Rattle.std.proofs.Common.{◌≡◌, ℕ, zero, suc, ◌+◌, ◌≤◌, ◌<◌, List, [], ◌∷◌, ◌++◌, Bool, true, false, refl, sym, ap, ◌∙◌, subst, arith}
use Rattle.std.specs.Prelude.{Result, Ok, Err, OnOk, is_err}
use Rattle.ax_base.specs.Document.{Document, lineage_within}
use Rattle.ax_base.specs.Recursion.{from_below}
use Rattle.ax_base.specs.Characters.{tokens, flat}
use Rattle.ax_base.specs.Values.{trimmed}
use Rattle.ax_base.specs.Roles.{element_role, hides_element, is_ignored}
use Rattle.ax_base.specs.States.{value_shown, states_of, level_of, live_set_by}
use Rattle.std.specs.Fmt.{take_chars}
use Rattle.ax_dom.specs.Changes.{new_document}
use Rattle.ax_record.specs.Tree.{Tree}
use Rattle.ax_record.specs.Records.{tree}
use Rattle.ax_batch.specs.Batches.{batch_between}
use Rattle.ax_notice.specs.Notices.{notices_between, kind_notices}
use Rattle.change_log.specs.Logs.{entry_after}
use Rattle.story_check.specs.declared.story.PageLine.{PageLine}
use Rattle.story_check.specs.declared.story.PageLine.TheVariants.{Flush}
use Rattle.story_check.specs.Stories.{Story, cap}
use Rattle.story_check.specs.Moments.{after_edits, after_flushes, document_at, tree_at}
use Rattle.turn_word.specs.Views.{new_page}
use Rattle.ax_port.specs.States.{PortsState, PageState, with_page, published_more}
use Rattle.ax_port.specs.Quiet.{flush_lines, IsQuiet, IsAt, no_news}

-- one flush more
at_end : (n : ℕ) → flush_lines n ++ Flush ∷ [] ≡ flush_lines (suc n)
at_end zero = refl
at_end (suc n) = ap (λ l. Flush ∷ l) (at_end n)

pub one_more : (n : ℕ) → flush_lines n ++ Flush ∷ [] ≡ flush_lines (n + 1)
one_more n = let next : suc n ≡ n + 1 = omega arith in at_end n ∙ ap flush_lines next

cap_all : (n t : ℕ) → cap (flush_lines n) t ≡ n
cap_all zero t = refl
cap_all (suc n) t = let next : 1 + n ≡ suc n = omega arith in ap (λ m. 1 + m) (cap_all n t) ∙ next

-- all moments may be published at once
pub quiet_cap : (s : Story) (n t k p : ℕ) → IsQuiet s n → k < n → p ≡ k → p + 1 ≤ cap s.page t
quiet_cap s n t k p q h e = let is : cap s.page t ≡ n = ap (λ l. cap l t) q.page ∙ cap_all n t in omega arith

stays : (d : Document) (n k : ℕ) → after_flushes d (flush_lines n) k ≡ d
stays d n zero = refl
stays d zero (suc k) = refl
stays d (suc n) (suc k) = stays d n k

tree_stays : (s : Story) (n k : ℕ) → IsQuiet s n → tree_at s k ≡ tree new_document
unfolding tree_at document_at
tree_stays s n k q = ap tree (ap (λ es. after_flushes (after_edits new_document es) s.page k) q.base ∙ ap (λ l. after_flushes new_document l k) q.page ∙ stays new_document n k)

none_told : (j : ℕ) → (record { batch = batch_between (tree new_document) (tree new_document); notices = notices_between (tree new_document) (tree new_document) j }) ≡ no_news
unfolding from_below lineage_within kind_notices trimmed element_role hides_element is_ignored flat tokens take_chars value_shown states_of level_of live_set_by
none_told j = refl

-- so nothing is logged but that there is a moment
pub quiet_entry : (s : Story) (n k : ℕ) → IsQuiet s n → entry_after (tree_at s) k ≡ no_news
quiet_entry s n k q =
    (λ i. record { batch = batch_between (tree_stays s n k q i) (tree_stays s n (k + 1) q i); notices = notices_between (tree_stays s n k q i) (tree_stays s n (k + 1) q i) (k + 1) })
    ∙ none_told (k + 1)

-- the page's port of a lock that was opened for a quiet story
pub begins : (s : Story) (n : ℕ) (ports : PortsState) (p : PageState) → p.table ≡ ports.table → p.story ≡ s → p.page ≡ new_page → IsQuiet s n → IsAt ports n 0 p
begins s n ports p own of fresh q = record {
  own = own;
  quiet = subst (λ (x : Story). IsQuiet x n) (sym of) q;
  going = ap (λ r. r.over) fresh;
  so_far = ap (λ r. r.published) fresh;
}

-- one moment more
pub goes_on : (ports : PortsState) (n k : ℕ) (old new : PageState) → IsAt ports n k old → new ≡ with_page old (published_more old.page) → IsAt ports n (k + 1) new
goes_on ports n k old new at is = subst (IsAt ports n (k + 1)) (sym is) (record {
  own = at.own;
  quiet = at.quiet;
  going = at.going;
  so_far = ap (λ m. m + 1) at.so_far;
})

-- what holds at `Ok` of a result that is no error
pub ok_there : {T E P : Type 0} (r : Result T E) → OnOk r P → is_err r ≡ false → P
ok_there (Ok x) h e = h
ok_there (Err x) h e = cc
