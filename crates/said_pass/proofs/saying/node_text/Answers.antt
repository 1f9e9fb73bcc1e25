use Rattle.std.proofs.Common.{ap}
use Rattle.std.proofs.lemmas.Result.{IfOk-weaker}
use Rattle.ax_dom.specs.declared.cell.Cell.{Cell}
use Rattle.ax_names.proofs.Speaking.{cell_is}
use Rattle.said_pass.proofs.Speaking.{text_told}
use Rattle.said_pass.proofs.saying.node_text.Goals as goal

pub returns-in-Some-clause-value : goal.returns-in-Some-clause-value
returns-in-Some-clause-value g c =
    let d = c.args.dom.now in
    let cell = cell_is d c.args.id c.in-Some.cell.now c.in-Some.ensures.value in
    IfOk-weaker c.text_from.result _ _ (λ text made. text_told d c.requires.tree c.args.id c.in-Some.cell.now.body (ap (λ (x : Cell). x.body) cell) c.args.inside text c.requires.inside made) c.text_from.ensures
