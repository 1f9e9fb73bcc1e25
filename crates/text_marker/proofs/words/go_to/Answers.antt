use Rattle.std.proofs.Common.{◌∙◌, arith}
use Rattle.unicode_segmentation.specs.Iter.{graphemes_left}
use Rattle.text_marker.proofs.Going.{go_step, go_fits}
use Rattle.text_marker.proofs.words.go_to.Goals as goal

pub overflow_add-at : goal.overflow_add-at
overflow_add-at c =
    let fits = go_fits c.loop-piece.at c.in-Some.piece.now (graphemes_left c.loop-piece.pieces) (graphemes_left c.next.new.self) c.count-at.result 4294967296 c.in-Some.ensures.steps c.count-at.ensures.value c.loop-piece.invariant.4 in
    omega (arith, fits)

pub returns-then-target-at-2 : goal.returns-then-target-at-2
returns-then-target-at-2 c = (
  c.if-target-at-2.true,
  omega (arith, c.loop-piece.invariant.3),
  go_fits c.loop-piece.at c.in-Some.piece.now (graphemes_left c.loop-piece.pieces) (graphemes_left c.next.new.self) c.count-at.result 4294967296 c.in-Some.ensures.steps c.count-at.ensures.value c.loop-piece.invariant.4,
  λ q fails. c.loop-piece.invariant.5 q fails
      ∙ go_step c.args.target c.loop-piece.at c.in-Some.piece.now (graphemes_left c.loop-piece.pieces) (graphemes_left c.next.new.self) c.count-at.result q fails c.loop-piece.invariant.2 c.in-Some.ensures.steps c.count-at.ensures.value,
)

pub loop-piece-preserved : goal.loop-piece-preserved
loop-piece-preserved c = (
  tt,
  tt,
  omega (arith, c.if-target-at-2.false),
  omega (arith, c.loop-piece.invariant.3),
  go_fits c.loop-piece.at c.in-Some.piece.now (graphemes_left c.loop-piece.pieces) (graphemes_left c.next.new.self) c.count-at.result 4294967296 c.in-Some.ensures.steps c.count-at.ensures.value c.loop-piece.invariant.4,
  λ q fails. c.loop-piece.invariant.5 q fails
      ∙ go_step c.args.target c.loop-piece.at c.in-Some.piece.now (graphemes_left c.loop-piece.pieces) (graphemes_left c.next.new.self) c.count-at.result q fails c.loop-piece.invariant.2 c.in-Some.ensures.steps c.count-at.ensures.value,
)
