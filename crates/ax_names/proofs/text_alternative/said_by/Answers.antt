use Rattle.std.proofs.Common.{◌∙◌, sym, ap}
use Rattle.std.proofs.lemmas.Result.{IfOk-weaker}
use Rattle.ax_base.specs.Said.{said_by}
use Rattle.ax_names.specs.OwnTexts.{element_shows}
use Rattle.ax_names.specs.Pieces.{piece_of}
use Rattle.ax_names.proofs.Showing.{shows_is}
use Rattle.ax_names.proofs.text_alternative.said_by.Goals as goal

pub returns-in-Element : goal.returns-in-Element
returns-in-Element c =
    let role = c.args.role in
    let attrs = c.in-Element.attrs in
    IfOk-weaker c.element_says.result _ _ (λ p e r b refers below.
    e r b refers below
    ∙ ap piece_of (
    ap (λ v. element_shows r role v attrs b) c.as_str-in-Element.ensures ∙ sym (shows_is r role c.in-Element.tag attrs c.in-Element.frame b) ∙ ap (λ v. said_by role r v b) (sym c.in-Element.is)
    )) c.element_says.ensures
