use Rattle.std.proofs.Common.{sym, ◌∙◌, arith}
use Rattle.std.specs.Prelude.{Some, None}
use Rattle.text_marker.proofs.Moving.{word_found}
use Rattle.text_marker.proofs.Texts.{text_fits, text_is}
use Rattle.text_marker.proofs.moves.word_in.Goals as goal

pub next_word_stop-requires : goal.next_word_stop-requires
next_word_stop-requires g c =
    let few = text_fits (g.T.TreeView.tree c.args.t.now) c.in_ok-object.ensures.is_tree c.args.id c.in_ok-object.object.now c.text_of.result.now c.in_ok-object.ensures.value c.text_of.ensures c.text_of.utf8 in
    omega arith

pub returns-in-Some : goal.returns-in-Some
returns-in-Some g c =
    word_found (g.T.TreeView.tree c.args.t.now) c.args.id c.text_of.result.now (Some c.in-Some.offset) (text_is (g.T.TreeView.tree c.args.t.now) c.args.id c.in_ok-object.object.now c.text_of.result.now c.in_ok-object.ensures.value c.text_of.ensures)
    (sym c.in-Some.is ∙ c.next_word_stop.ensures)

pub returns-in-None : goal.returns-in-None
returns-in-None g c =
    word_found (g.T.TreeView.tree c.args.t.now) c.args.id c.text_of.result.now None (text_is (g.T.TreeView.tree c.args.t.now) c.args.id c.in_ok-object.object.now c.text_of.result.now c.in_ok-object.ensures.value c.text_of.ensures)
    (sym c.in-None.is ∙ c.next_word_stop.ensures)
