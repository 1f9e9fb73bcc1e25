use Rattle.std.proofs.Common.{sym, ◌∙◌, arith}
use Rattle.text_marker.proofs.Moving.{word_here, word_behind}
use Rattle.text_marker.proofs.Texts.{text_fits, offset_low}
use Rattle.text_marker.proofs.moves.next_word.Goals as goal

pub next_word_stop-requires : goal.next_word_stop-requires
next_word_stop-requires g c =
    let few = text_fits (g.T.TreeView.tree c.args.t.now) c.object_of.ensures.is_tree c.args.at.id c.in_ok-object.object.now c.text_of-text.result.now c.in_ok-object.ensures.known c.text_of-text.ensures c.text_of-text.utf8 in
    omega arith

pub overflow_add-offset : goal.overflow_add-offset
overflow_add-offset g c =
    let low = offset_low (g.T.TreeView.tree c.args.t.now) c.object_of.ensures.is_tree c.args.at c.in_ok-object.object.now c.in_ok-object.ensures.known c.in_ok-object.ensures.stands in
    omega arith

pub returns-in-Some : goal.returns-in-Some
returns-in-Some g c =
    word_here (g.T.TreeView.tree c.args.t.now) c.object_of.ensures.is_tree c.args.at c.in_ok-object.object.now c.text_of-text.result.now c.in_ok-object.ensures.known c.in_ok-object.ensures.stands c.text_of-text.ensures
    c.in-Some.offset (sym c.in-Some.is ∙ c.next_word_stop.ensures)

pub returns : goal.returns
returns g c =
    word_behind (g.T.TreeView.tree c.args.t.now) c.object_of.ensures.is_tree c.args.at c.in_ok-object.object.now c.text_of-text.result.now c.in_ok-object.ensures.known c.in_ok-object.ensures.stands c.text_of-text.ensures
    c.word_behind.result (sym c.in_default.is ∙ c.next_word_stop.ensures) c.word_behind.ensures
