use Rattle.std.proofs.Common.{ap, ◌∙◌}
use Rattle.ax_base.specs.Document.{Document, body}
use Rattle.ax_dom.specs.declared.cell.Cell.{Cell}
use Rattle.ax_names.proofs.Speaking.{cell_is}
use Rattle.said_pass.proofs.naming.name_node.Goals as goal

pub name_from-requires-clause-node : goal.name_from-requires-clause-node
name_from-requires-clause-node g c =
    ap (λ (x : Cell). x.body) (cell_is c.dom.result.now c.args.id c.in-Some.cell.now c.in-Some.ensures.value) ∙ ap (λ (x : Document). body x c.args.id) c.dom.ensures
