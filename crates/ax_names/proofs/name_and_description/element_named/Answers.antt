use Rattle.std.proofs.Common.{◌∙◌, [], codes, sym, ap}
use Rattle.std.proofs.lemmas.Result.{IfOk-weaker}
use Rattle.ax_base.specs.AccessibleNames.{host_label_of, content_text}
use Rattle.ax_base.specs.Values.{text_in}
use Rattle.ax_names.specs.Pieces.{piece_of}
use Rattle.ax_names.specs.Sessions.{referred_by}
use Rattle.ax_names.proofs.NamedBy.{settled_named}
use Rattle.ax_names.proofs.name_and_description.element_named.Goals as goal

pub returns-then-is_settled-clause-value : goal.returns-then-is_settled-clause-value
returns-then-is_settled-clause-value g c =
    let d = c.args.dom.now in
    let attrs = c.args.attrs.now in
    let said = referred_by d (text_in (codes "aria-labelledby") attrs) in
    let refers = c.in_ok-referred.ensures.value ∙ ap (λ t. piece_of (referred_by d t)) c.text.ensures in
    IfOk-weaker c.element_name.result _ _ (λ named made.
    made said [] [] refers c.empty-nothing.ensures c.empty-nothing.ensures
    ∙ settled_named c.args.role attrs said (host_label_of d c.args.id c.args.tag.now attrs) (content_text d c.args.id) (sym (c.is_settled.ensures said refers) ∙ c.if-is_settled.true)) c.element_name.ensures
