use Rattle.std.proofs.Common.{◌+◌, sym, ap, ◌∙◌, arith, nat_lt}
use Rattle.std.specs.Prelude.{find}
use Rattle.unicode_segmentation.specs.Iter.{graphemes_left}
use Rattle.text_marker.specs.Stops.{stops_from}
use Rattle.text_marker.proofs.Stopping.{stop_here, stop_later, passed, pieces_fit}
use Rattle.text_marker.proofs.stops.next_stop.Goals as goal

pub loop-piece-init : goal.loop-piece-init
loop-piece-init c = (
  tt,
  tt,
  ap (λ ps. find (λ stop. nat_lt c.args.offset stop) (stops_from 0 ps)) (sym c.graphemes-pieces.ensures.left),
  pieces_fit c.args.text.now c.utf8.text (graphemes_left c.graphemes-pieces.result) c.graphemes-pieces.ensures.left,
)

pub returns-then-offset-at : goal.returns-then-offset-at
returns-then-offset-at c = stop_here c.args.offset c.loop-piece.at (graphemes_left c.loop-piece.pieces) _ c.if-offset-at.true c.loop-piece.invariant.2

pub overflow_add-at : goal.overflow_add-at
overflow_add-at c =
    let fits = passed c.loop-piece.at c.in-Some.piece.now (graphemes_left c.loop-piece.pieces) _ _ c.count-at.result c.in-Some.ensures.steps c.count-at.ensures.value c.loop-piece.invariant.3 in
    omega (arith, fits, c.requires)

pub loop-piece-preserved : goal.loop-piece-preserved
loop-piece-preserved c = (
  tt,
  tt,
  stop_later c.args.offset c.loop-piece.at c.in-Some.piece.now (graphemes_left c.loop-piece.pieces) (graphemes_left c.next.new.self) _ c.if-offset-at.false c.in-Some.ensures.steps c.loop-piece.invariant.2
      ∙ ap (λ n. find (λ stop. nat_lt c.args.offset stop) (stops_from (c.loop-piece.at + n) (graphemes_left c.next.new.self))) (sym c.count-at.ensures.value),
  passed c.loop-piece.at c.in-Some.piece.now (graphemes_left c.loop-piece.pieces) (graphemes_left c.next.new.self) _ c.count-at.result c.in-Some.ensures.steps c.count-at.ensures.value c.loop-piece.invariant.3,
)
