use Rattle.std.proofs.Common.{◌∙◌, ap}
use Rattle.std.proofs.lemmas.Result.{IfOk-weaker}
use Rattle.ax_dom.specs.declared.cell.Cell.{Cell}
use Rattle.ax_names.proofs.Speaking.{cell_is, own_cell}
use Rattle.ax_names.proofs.name_from_content.said.Goals as goal

pub said_by_cell-requires : goal.said_by_cell-requires
said_by_cell-requires g c =
    let d = c.args.dom.now in
    let cell = cell_is d c.args.id c.in-Some.cell.now c.in-Some.ensures.value in
    record { tree = c.in-Some.ensures.tree; cell = own_cell d c.args.id c.in-Some.cell.now cell; kept = c.requires.kept }

pub returns-clause-value : goal.returns-clause-value
returns-clause-value g c =
    let d = c.args.dom.now in
    let cell = cell_is d c.args.id c.in-Some.cell.now c.in-Some.ensures.value in
    IfOk-weaker c.said_by_cell.result _ _ (λ p e. e ∙ ap (λ (x : Cell). g.G.Gather.of (g.S.Scope.says d x.id)) cell) c.said_by_cell.ensures.value
