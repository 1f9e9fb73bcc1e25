-- The lines of a page are done one after another, up to its last flush.
use Rattle.std.proofs.Common.{◌≡◌, ℕ, zero, suc, ◌+◌, ◌<◌, List, ◌∷◌, length, get_or, drop, refl, sym, ap, ◌∙◌, subst, arith}
use Rattle.std.proofs.Math.Seq.{drop-cons}
use Rattle.ax_base.specs.Document.{Document}
use Rattle.ax_dom.specs.declared.edit.Edit.{Edit}
use Rattle.ax_dom.specs.Changes.{edited}
use Rattle.story_check.specs.declared.story.PageLine.{PageLine}
use Rattle.story_check.specs.declared.story.PageLine.TheVariants.{Change, Flush, Until}
use Rattle.story_check.specs.Stories.{flushes}
use Rattle.story_check.specs.Moments.{after_flushes, AreLinesAccepted}

-- the next line, and those after it
pub next_line : (page : List PageLine) (i : ℕ) (x : PageLine) → i < length page → x ≡ get_or page i x → drop i page ≡ x ∷ drop (i + 1) page
next_line page i x low is = let n : suc i ≡ i + 1 = omega arith in drop-cons page i x low ∙ (λ j. (sym is) j ∷ drop (n j) page)

-- what is left to do: so many flushes of these lines, from this document, come to that one
pub record IsLeft (last d : Document) (xs : List PageLine) (k : ℕ) : Type 0 where
  pub rest : after_flushes d xs k ≡ last
  pub all : k ≡ flushes xs
  pub accepted : AreLinesAccepted d xs

pub change_same : (d : Document) (e : Edit) (xs : List PageLine) (k : ℕ) → 0 < k → after_flushes d (Change e ∷ xs) k ≡ after_flushes (edited d e) xs k
change_same d e xs zero h = absurd (omega arith)
change_same d e xs (suc k) h = refl

pub until_same : (d : Document) (m : ℕ) (xs : List PageLine) (k : ℕ) → 0 < k → after_flushes d (Until m ∷ xs) k ≡ after_flushes d xs k
until_same d m xs zero h = absurd (omega arith)
until_same d m xs (suc k) h = refl

pub flush_same : (d : Document) (xs : List PageLine) (k less : ℕ) → k ≡ suc less → after_flushes d (Flush ∷ xs) k ≡ after_flushes d xs less
flush_same d xs k less h = ap (after_flushes d (Flush ∷ xs)) h

pub past_change : (last d new : Document) (e : Edit) (xs : List PageLine) (k : ℕ) → 0 < k → new ≡ edited d e → IsLeft last d (Change e ∷ xs) k → IsLeft last new xs k
past_change last d new e xs k some is h = record {
  rest = ap (λ x. after_flushes x xs k) is ∙ sym (change_same d e xs k some) ∙ h.rest;
  all = h.all;
  accepted = subst (λ x. AreLinesAccepted x xs) (sym is) h.accepted.1;
}

pub past_flush : (last d : Document) (xs : List PageLine) (k less : ℕ) → k ≡ suc less → IsLeft last d (Flush ∷ xs) k → IsLeft last d xs less
past_flush last d xs k less is h = record {
  rest = sym (flush_same d xs k less is) ∙ h.rest;
  all = let a = h.all in omega arith;
  accepted = h.accepted;
}

pub past_until : (last d : Document) (m : ℕ) (xs : List PageLine) (k : ℕ) → 0 < k → IsLeft last d (Until m ∷ xs) k → IsLeft last d xs k
past_until last d m xs k some h = record {
  rest = sym (until_same d m xs k some) ∙ h.rest;
  all = h.all;
  accepted = h.accepted;
}
