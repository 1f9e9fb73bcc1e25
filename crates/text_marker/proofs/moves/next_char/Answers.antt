use Rattle.std.proofs.Common.{sym, ◌∙◌, arith}
use Rattle.text_marker.proofs.Moving.{next_here, next_behind, next_none}
use Rattle.text_marker.proofs.Texts.{text_fits}
use Rattle.text_marker.proofs.moves.next_char.Goals as goal

pub next_stop-requires : goal.next_stop-requires
next_stop-requires g c =
    let few = text_fits (g.T.TreeView.tree c.args.t.now) c.object_of.ensures.is_tree c.args.at.id c.in_ok-object.object.now c.text_of-text.result.now c.in_ok-object.ensures.known c.text_of-text.ensures c.text_of-text.utf8 in
    omega arith

pub returns-in-Some : goal.returns-in-Some
returns-in-Some g c =
    next_here (g.T.TreeView.tree c.args.t.now) c.object_of.ensures.is_tree c.args.at c.in_ok-object.object.now c.text_of-text.result.now c.in_ok-object.ensures.known c.in_ok-object.ensures.stands c.text_of-text.ensures
    c.in-Some.offset (sym c.in-Some.is ∙ c.next_stop.ensures)

pub returns-in-Some-next_text : goal.returns-in-Some-next_text
returns-in-Some-next_text g c =
    next_behind (g.T.TreeView.tree c.args.t.now) c.object_of.ensures.is_tree c.args.at c.in_ok-object.object.now c.text_of-text.result.now c.in_ok-object.ensures.known c.in_ok-object.ensures.stands c.text_of-text.ensures
    c.in-Some-next_text.id (sym c.in_default.is ∙ c.next_stop.ensures) c.in-Some-next_text.ensures.going

pub returns-in-None : goal.returns-in-None
returns-in-None g c =
    next_none (g.T.TreeView.tree c.args.t.now) c.object_of.ensures.is_tree c.args.at c.in_ok-object.object.now c.text_of-text.result.now c.in_ok-object.ensures.known c.in_ok-object.ensures.stands c.text_of-text.ensures
    (sym c.in_default.is ∙ c.next_stop.ensures) c.in-None.ensures.going
