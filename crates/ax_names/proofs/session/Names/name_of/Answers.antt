use Rattle.std.proofs.Common.{ap}
use Rattle.ax_dom.specs.declared.cell.Cell.{Cell}
use Rattle.ax_names.proofs.Calling.{made_named}
use Rattle.ax_names.proofs.session.Names.name_of.Goals as goal

pub returns-in_ok-named-in-Element-clause-value : goal.returns-in_ok-named-in-Element-clause-value
returns-in_ok-named-in-Element-clause-value g c =
    made_named c.args.dom.now c.args.cell.now.id c.args.cell.now.body (ap (λ (x : Cell). x.body) c.requires.cell) c.args.role c.requires.role c.in-Element.tag c.in-Element.attrs c.in-Element.frame c.in-Element.is
    c.as_str-in-Element.result.now c.as_str-in-Element.ensures c.in_ok-named-in-Element.named c.in_ok-named-in-Element.ensures.value
