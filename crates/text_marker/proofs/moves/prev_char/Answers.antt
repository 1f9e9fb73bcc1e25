use Rattle.std.proofs.Common.{sym, ◌∙◌, arith}
use Rattle.text_marker.proofs.Moving.{prev_here, prev_before, prev_none}
use Rattle.text_marker.proofs.Texts.{text_fits}
use Rattle.text_marker.proofs.moves.prev_char.Goals as goal

pub prior_stop-requires : goal.prior_stop-requires
prior_stop-requires g c =
    let few = text_fits (g.T.TreeView.tree c.args.t.now) c.object_of.ensures.is_tree c.args.at.id c.in_ok-object.object.now c.text_of-text.result.now c.in_ok-object.ensures.known c.text_of-text.ensures c.text_of-text.utf8 in
    omega arith

pub returns-in-Some : goal.returns-in-Some
returns-in-Some g c =
    prev_here (g.T.TreeView.tree c.args.t.now) c.object_of.ensures.is_tree c.args.at c.in_ok-object.object.now c.text_of-text.result.now c.in_ok-object.ensures.known c.in_ok-object.ensures.stands c.text_of-text.ensures
    c.in-Some.offset (sym c.in-Some.is ∙ c.prior_stop.ensures)

pub returns-in-Some-prior_text : goal.returns-in-Some-prior_text
returns-in-Some-prior_text g c =
    prev_before (g.T.TreeView.tree c.args.t.now) c.object_of.ensures.is_tree c.args.at c.in_ok-object.object.now c.text_of-text.result.now c.in_ok-object.ensures.known c.in_ok-object.ensures.stands c.text_of-text.ensures
    c.in-Some-prior_text.id c.end_of.result c.end_of.ensures.last.0 (sym c.in_default.is ∙ c.prior_stop.ensures) c.in-Some-prior_text.ensures.going c.end_of.ensures.last.1 c.end_of.ensures.own

pub returns-in-None : goal.returns-in-None
returns-in-None g c =
    prev_none (g.T.TreeView.tree c.args.t.now) c.object_of.ensures.is_tree c.args.at c.in_ok-object.object.now c.text_of-text.result.now c.in_ok-object.ensures.known c.in_ok-object.ensures.stands c.text_of-text.ensures
    (sym c.in_default.is ∙ c.prior_stop.ensures) c.in-None.ensures.going
