use Rattle.std.proofs.Common.{ap}
use Rattle.ax_dom.specs.declared.cell.Cell.{Cell}
use Rattle.ax_names.proofs.Calling.{words_described, made_named, made_described}
use Rattle.ax_names.proofs.session.Names.name_and_description.Goals as goal

pub returns-in_ok-name-in-Words-clause-description : goal.returns-in_ok-name-in-Words-clause-description
returns-in_ok-name-in-Words-clause-description g c =
    words_described c.args.dom.now c.args.cell.now.id c.args.cell.now.body (ap (λ (x : Cell). x.body) c.requires.cell) c.in-Words.chars c.in-Words.runs c.in-Words.is c.new.result c.new.ensures

pub returns-in_ok-description-in-Element-clause-name : goal.returns-in_ok-description-in-Element-clause-name
returns-in_ok-description-in-Element-clause-name g c =
    made_named c.args.dom.now c.args.cell.now.id c.args.cell.now.body (ap (λ (x : Cell). x.body) c.requires.cell) c.args.role c.requires.role c.in-Element.tag c.in-Element.attrs c.in-Element.frame c.in-Element.is
    c.as_str-in-Element.result.now c.as_str-in-Element.ensures c.in_ok-named-in-Element.named c.in_ok-named-in-Element.ensures.value

pub returns-in_ok-description-in-Element-clause-description : goal.returns-in_ok-description-in-Element-clause-description
returns-in_ok-description-in-Element-clause-description g c =
    made_described c.args.dom.now c.args.cell.now.id c.args.cell.now.body (ap (λ (x : Cell). x.body) c.requires.cell) c.args.role c.requires.role c.in-Element.tag c.in-Element.attrs c.in-Element.frame c.in-Element.is
    c.as_str-in-Element.result.now c.as_str-in-Element.ensures c.in_ok-named-in-Element.named c.in_ok-named-in-Element.ensures.value c.in_ok-description-in-Element.description c.in_ok-description-in-Element.ensures.value
