use Rattle.std.proofs.Common.{ap, ◌∙◌}
use Rattle.std.proofs.lemmas.Result.{IfOk-weaker}
use Rattle.ax_names.proofs.Calling.{words_described}
use Rattle.ax_names.specs.Pieces.{piece_of}
use Rattle.ax_names.specs.Sessions.{referred_by}
use Rattle.said_pass.proofs.Calling.{element_described}
use Rattle.said_pass.proofs.naming.node_described.Goals as goal

pub returns-in-Words : goal.returns-in-Words
returns-in-Words c = words_described c.args.sources.now c.args.id c.args.node.now c.requires.node c.in-Words.chars c.in-Words.runs c.in-Words.is c.new.result c.new.ensures

pub returns-in_ok-referred-in-Element : goal.returns-in_ok-referred-in-Element
returns-in_ok-referred-in-Element c =
    IfOk-weaker c.element_description.result _ _ (λ t made.
    element_described c.args.sources.now c.args.id c.args.node.now c.requires.node c.in-Element.tag c.in-Element.attrs c.in-Element.frame c.in-Element.is c.args.by_title c.requires.by_title c.in_ok-referred-in-Element.referred t
    (c.in_ok-referred-in-Element.ensures ∙ ap (λ l. piece_of (referred_by c.args.sources.now l)) c.text.ensures) made) c.element_description.ensures
