-- How an edit is refused.
use Rattle.std.proofs.Common.{◌≡◌, ℕ, Option, Some, refl, sym, subst}
use Rattle.std.specs.Option.{option_and_then}
use Rattle.ax_base.specs.Document.{Document}
use Rattle.ax_dom.specs.declared.cause.EditCause.{EditCause}
use Rattle.ax_dom.specs.declared.cause.EditCause.TheVariants.{NoNode, UsedId, BadPlace, NotElement, NotText, IntoItself, RootFixed, TooDeep, TooMany, BadRuns, TooLong, NoMemory}
use Rattle.ax_dom.specs.declared.edit.Edit.{Edit}
use Rattle.ax_dom.specs.Refusals.{edit_cause}
use Rattle.story_check.specs.declared.refusals.AcceptFail.{AcceptFail}
use Rattle.story_check.specs.Acceptance.{cause_of, edit_fail, unless, AcceptFails}

refused_edit : {A : Type 0} (n : ℕ) (cause : EditCause) (x : A) → AcceptFails (edit_fail n cause) (unless n (cause_of cause) x)
refused_edit n NoNode x = refl
refused_edit n UsedId x = refl
refused_edit n BadPlace x = refl
refused_edit n NotElement x = refl
refused_edit n NotText x = refl
refused_edit n IntoItself x = refl
refused_edit n RootFixed x = refl
refused_edit n TooDeep x = refl
refused_edit n TooMany x = refl
refused_edit n BadRuns x = refl
refused_edit n TooLong x = refl
refused_edit n NoMemory x = tt

-- the failure of an edit is that of its line
pub fails_change : {A : Type 0} (n : ℕ) (d : Document) (e : Edit) (cause : EditCause) (fail : AcceptFail) (x : A) → fail ≡ edit_fail n cause
    → edit_cause d e ≡ Some cause → AcceptFails fail (unless n (option_and_then cause_of (edit_cause d e)) x)
fails_change {A} n d e cause fail x f h =
    subst (λ (z : AcceptFail). AcceptFails z (unless n (option_and_then cause_of (edit_cause d e)) x)) (sym f)
    (subst (λ (o : Option EditCause). AcceptFails (edit_fail n cause) (unless n (option_and_then cause_of o) x)) (sym h)
    (refused_edit n cause x))
