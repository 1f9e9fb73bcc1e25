use Rattle.std.proofs.Common.{◌∙◌, [], true, false, refl}
use Rattle.std.proofs.lemmas.Result.{IfOk-weaker}
use Rattle.ax_names.proofs.Turns.{tells_blank}
use Rattle.ax_names.proofs.NamedBy.{described_last}
use Rattle.ax_names.proofs.naming.element_description.Goals as goal

pub returns-then-by_title : goal.returns-then-by_title
returns-then-by_title c =
    IfOk-weaker c.flat_and_cut.result _ _ (λ t e r refers.
    let none = tells_blank c.pieces_tell.ensures.blank c.args.referred r refers c.is_blank.result true c.is_blank.ensures c.if-not-is_blank.false in
    e ∙ described_last c.args.attrs.now r [] c.args.by_title true none c.if-by_title.true refl) c.flat_and_cut.ensures

pub returns : goal.returns
returns c =
    IfOk-weaker c.flat_and_cut-2.result _ _ (λ t e r refers.
    let none = tells_blank c.pieces_tell.ensures.blank c.args.referred r refers c.is_blank.result true c.is_blank.ensures c.if-not-is_blank.false in
    e ∙ described_last c.args.attrs.now r c.title_said.result.now c.args.by_title false none c.if-by_title.false c.title_said.ensures) c.flat_and_cut-2.ensures
