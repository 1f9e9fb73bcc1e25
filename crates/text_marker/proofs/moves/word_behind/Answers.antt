use Rattle.std.proofs.Common.{sym, ◌∙◌}
use Rattle.text_marker.proofs.Moving.{no_word_yet, word_there, no_word_left}
use Rattle.text_marker.proofs.moves.word_behind.Goals as goal

pub returns-in-Some-word_in : goal.returns-in-Some-word_in
returns-in-Some-word_in g c =
    word_there (g.T.TreeView.tree c.args.t.now) c.in-Some.next c.loop-next.at c.in-Some-word_in.found _ c.in-Some.ensures.going (sym c.in-Some-word_in.is ∙ c.word_in.ensures) c.loop-next.invariant.0

pub loop-next-preserved : goal.loop-next-preserved
loop-next-preserved g c = (
  no_word_yet (g.T.TreeView.tree c.args.t.now) c.in-Some.next c.loop-next.at _ c.in-Some.ensures.going (sym c.in_default-word_in.is ∙ c.word_in.ensures) c.loop-next.invariant.0,
  c.in-Some.ensures.known,
)

pub returns : goal.returns
returns g c = no_word_left (g.T.TreeView.tree c.args.t.now) c.loop-next.at _ c.in_default.ensures.going c.loop-next.invariant.0
