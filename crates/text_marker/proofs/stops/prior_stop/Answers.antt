use Rattle.std.proofs.Common.{◌+◌, sym, ap, ◌∙◌, arith, nat_lt, reverse}
use Rattle.std.specs.Prelude.{find, Some}
use Rattle.std.specs.Option.{option_or}
use Rattle.unicode_segmentation.specs.Iter.{graphemes_left}
use Rattle.text_marker.specs.Stops.{stops_from}
use Rattle.text_marker.proofs.Stopping.{back_start, back_found, back_more, passed, pieces_fit}
use Rattle.text_marker.proofs.stops.prior_stop.Goals as goal

pub loop-piece-init : goal.loop-piece-init
loop-piece-init c = (
  tt,
  tt,
  back_start c.args.offset c.args.text.now (graphemes_left c.graphemes-pieces.result) c.graphemes-pieces.ensures.left,
  pieces_fit c.args.text.now c.utf8.text (graphemes_left c.graphemes-pieces.result) c.graphemes-pieces.ensures.left,
)

pub returns-then-offset-at : goal.returns-then-offset-at
returns-then-offset-at c = back_found c.args.offset c.loop-piece.at (graphemes_left c.loop-piece.pieces) _ c.loop-piece.below c.if-offset-at.true c.loop-piece.invariant.2

pub overflow_add-at : goal.overflow_add-at
overflow_add-at c =
    let fits = passed c.loop-piece.at c.in-Some.piece.now (graphemes_left c.loop-piece.pieces) _ _ c.count-at.result c.in-Some.ensures.steps c.count-at.ensures.value c.loop-piece.invariant.3 in
    omega (arith, fits, c.requires)

pub loop-piece-preserved : goal.loop-piece-preserved
loop-piece-preserved c = (
  tt,
  tt,
  back_more c.args.offset c.loop-piece.at c.in-Some.piece.now (graphemes_left c.loop-piece.pieces) (graphemes_left c.next.new.self) _ c.loop-piece.below (omega arith) c.in-Some.ensures.steps c.loop-piece.invariant.2
      ∙ ap (λ n. option_or (find (λ stop. nat_lt stop c.args.offset) (reverse (stops_from (c.loop-piece.at + n) (graphemes_left c.next.new.self)))) (Some c.loop-piece.at)) (sym c.count-at.ensures.value),
  passed c.loop-piece.at c.in-Some.piece.now (graphemes_left c.loop-piece.pieces) (graphemes_left c.next.new.self) _ c.count-at.result c.in-Some.ensures.steps c.count-at.ensures.value c.loop-piece.invariant.3,
)
