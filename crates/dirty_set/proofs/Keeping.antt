-- Marks that cover go on to cover, after an edit.
use Rattle.std.proofs.Common.{◌≡◌, ◌≢◌, ℕ, true, None, sym, subst, ap, ◌∙◌}
use Rattle.ax_base.specs.Document.{Document, has, root}
use Rattle.ax_base.specs.Trees.{IsTree}
use Rattle.ax_dom.specs.declared.edit.Edit.{Edit}
use Rattle.ax_dom.specs.Changes.{edited}
use Rattle.ax_dom.specs.Refusals.{edit_cause}
use Rattle.ax_dom.specs.Used.{is_used}
use Rattle.ax_dom.specs.Among.{is_in}
use Rattle.dom_ids.specs.References.{is_text_in}
use Rattle.dirty_set.specs.Reach.{Marked, joined_marks}
use Rattle.dirty_set.specs.Marking.{marked}
use Rattle.dirty_set.specs.Covers.{Covers}
use Rattle.dirty_set.specs.Alike.{AreAlike}
use Rattle.dirty_set.proofs.Alike.{reached_alike}
use Rattle.dirty_set.proofs.Covering.{covers_on}
use Rattle.dirty_set.proofs.EveryEdit.{free_from, follows_edit}
use Rattle.dirty_set.proofs.Follows.{Follows}

pub covers_after : (old now : Document) (e : Edit) → IsTree old → IsTree now → ((n : ℕ) → has old n ≡ true → n ≢ root → is_used old n ≡ true) → edit_cause old e ≡ None → now ≡ edited old e
    → (flushed : Document) (earlier : Marked) → Covers flushed old earlier → Covers flushed now (joined_marks earlier (marked old now e))
covers_after old now e t u inserted free leads flushed earlier covers =
    let s : Follows old now (marked old now e) = subst (λ d. IsTree d → Follows old d (marked old d e)) (sym leads) (λ v. follows_edit old t inserted e (free_from old e free) v) u in
    covers_on old now (marked old now e) s earlier flushed covers

-- only what marks have counts, and not how
pub covers_alike : (flushed now : Document) (a b : Marked) → AreAlike a b → Covers flushed now a → Covers flushed now b
covers_alike flushed now a b alike covers n there off = covers n there (reached_alike now a b alike n ∙ off)

-- equal marks mean the same
pub alike_is : (a b : Marked) → a ≡ b → AreAlike a b
alike_is a b same = record { nodes = λ n. ap (λ (m : Marked). is_in m.nodes n) same; roots = λ n. ap (λ (m : Marked). is_in m.roots n) same; texts = λ x. ap (λ (m : Marked). is_text_in m.texts x) same }

pub covers_is : (flushed now : Document) (a b : Marked) → a ≡ b → Covers flushed now a → Covers flushed now b
covers_is flushed now a b same covers = subst (λ m. Covers flushed now m) same covers
