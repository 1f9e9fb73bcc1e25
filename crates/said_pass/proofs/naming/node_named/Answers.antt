use Rattle.std.proofs.lemmas.Result.{IfOk-weaker}
use Rattle.said_pass.proofs.Calling.{words_called, element_called, title_called}
use Rattle.said_pass.proofs.naming.node_named.Goals as goal

pub returns-in_ok-name-in-Words-clause-name : goal.returns-in_ok-name-in-Words-clause-name
returns-in_ok-name-in-Words-clause-name c =
    words_called c.args.sources.now c.args.id c.args.node.now c.requires.node c.in-Words.chars c.in-Words.runs c.in-Words.is c.as_str.result.now c.in_ok-name-in-Words.name c.as_str.ensures c.in_ok-name-in-Words.ensures

pub returns-in_ok-label-in-Element-clause-name : goal.returns-in_ok-label-in-Element-clause-name
returns-in_ok-label-in-Element-clause-name c =
    IfOk-weaker c.element_name.result _ _ (λ made told.
    element_called c.args.sources.now c.args.id c.args.node.now c.requires.node c.in-Element.tag c.in-Element.attrs c.in-Element.frame c.in-Element.is c.args.role c.requires.role _ c.as_str-in-Element.ensures
    c.args.referred.now c.in_ok-label-in-Element.label c.args.content.now c.requires.referred c.in_ok-label-in-Element.ensures c.requires.content made told) c.element_name.ensures

pub returns-in_ok-label-in-Element-clause-by_title : goal.returns-in_ok-label-in-Element-clause-by_title
returns-in_ok-label-in-Element-clause-by_title c =
    IfOk-weaker c.element_name.result _ _ (λ made told.
    title_called c.args.sources.now c.args.id c.args.node.now c.requires.node c.in-Element.tag c.in-Element.attrs c.in-Element.frame c.in-Element.is c.args.role c.requires.role _ c.as_str-in-Element.ensures
    c.args.referred.now c.in_ok-label-in-Element.label c.args.content.now c.requires.referred c.in_ok-label-in-Element.ensures c.requires.content made told) c.element_name.ensures
