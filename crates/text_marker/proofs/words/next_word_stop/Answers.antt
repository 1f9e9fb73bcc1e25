use Rattle.std.proofs.Common.{filter, sym, ap, ◌∙◌, arith}
use Rattle.unicode_segmentation.specs.Iter.{graphemes_left, word_bounds_left}
use Rattle.unicode_segmentation.specs.Segments.{has_alphanumeric}
use Rattle.text_marker.specs.Stops.{word_begins_from}
use Rattle.text_marker.proofs.Stopping.{pieces_fit}
use Rattle.text_marker.proofs.Wording.{begins, below_begin, begin_found, begin_missed, no_begin, words_start, bounds_fit}
use Rattle.text_marker.proofs.words.next_word_stop.Goals as goal

pub go_to-requires : goal.go_to-requires
go_to-requires c =
    let fits = pieces_fit c.args.text.now c.utf8.text (graphemes_left c.graphemes-pieces.result) c.graphemes-pieces.ensures.left in
    omega (arith, fits, c.requires)

pub loop-begin-init : goal.loop-begin-init
loop-begin-init c =
    let fits = bounds_fit c.args.text.now c.utf8.text (word_bounds_left c.split_word_bounds-bounds.result) c.split_word_bounds-bounds.ensures.left in (
      words_start c.args.from c.args.text.now (word_bounds_left c.split_word_bounds-bounds.result) (graphemes_left c.graphemes-pieces.result) (graphemes_left c.go_to.new.pieces) c.in_ok-stop.stop
          c.split_word_bounds-bounds.ensures.left c.graphemes-pieces.ensures.left c.in_ok-stop.ensures.3,
      c.in_ok-stop.ensures.0,
      c.in_ok-stop.ensures.2,
      omega (arith, fits, c.requires),
      ap (filter has_alphanumeric) c.split_word_bounds-bounds.ensures.left ∙ sym c.unicode_words-words.ensures.left,
    )

pub returns-in_err-stop-2 : goal.returns-in_err-stop-2
returns-in_err-stop-2 c =
    c.from_residual-in_err-stop-2.ensures ∙ sym (c.loop-begin.invariant.0 ∙ c.in_err-stop-2.ensures (begins c.args.from (word_begins_from c.loop-begin.at (word_bounds_left c.loop-begin.bounds)))
    (below_begin c.args.from c.in-Some.begin c.in-Some.past (word_bounds_left c.next_begin.new.bounds) (word_begins_from c.loop-begin.at (word_bounds_left c.loop-begin.bounds)) c.in-Some.ensures.0 c.in-Some.ensures.1))

pub returns-then-stop-begin : goal.returns-then-stop-begin
returns-then-stop-begin c =
    begin_found c.args.from c.in_ok-stop-2.stop c.in-Some.begin c.in-Some.past (word_bounds_left c.next_begin.new.bounds) (graphemes_left c.go_to-in-Some.new.pieces) (word_begins_from c.loop-begin.at (word_bounds_left c.loop-begin.bounds)) _
    c.in-Some.ensures.0 (omega (arith, c.loop-begin.invariant.1, c.in_ok-stop-2.ensures.1)) c.if-stop-begin.true
    (c.loop-begin.invariant.0 ∙ c.in_ok-stop-2.ensures.3 (begins c.args.from (word_begins_from c.loop-begin.at (word_bounds_left c.loop-begin.bounds)))
    (below_begin c.args.from c.in-Some.begin c.in-Some.past (word_bounds_left c.next_begin.new.bounds) (word_begins_from c.loop-begin.at (word_bounds_left c.loop-begin.bounds)) c.in-Some.ensures.0 c.in-Some.ensures.1))

pub loop-begin-preserved : goal.loop-begin-preserved
loop-begin-preserved c = (
  begin_missed c.args.from c.in_ok-stop-2.stop c.in-Some.begin c.in-Some.past (word_bounds_left c.next_begin.new.bounds) (graphemes_left c.go_to-in-Some.new.pieces) (word_begins_from c.loop-begin.at (word_bounds_left c.loop-begin.bounds)) _
      c.in-Some.ensures.0 c.in_ok-stop-2.ensures.0 c.if-stop-begin.false
      (c.loop-begin.invariant.0 ∙ c.in_ok-stop-2.ensures.3 (begins c.args.from (word_begins_from c.loop-begin.at (word_bounds_left c.loop-begin.bounds)))
      (below_begin c.args.from c.in-Some.begin c.in-Some.past (word_bounds_left c.next_begin.new.bounds) (word_begins_from c.loop-begin.at (word_bounds_left c.loop-begin.bounds)) c.in-Some.ensures.0 c.in-Some.ensures.1)),
  omega (arith, c.loop-begin.invariant.1, c.in_ok-stop-2.ensures.1),
  c.in_ok-stop-2.ensures.2,
  c.in-Some.ensures.2,
  c.in-Some.ensures.3,
)

pub returns : goal.returns
returns c =
    no_begin c.args.from c.loop-begin.stop (graphemes_left c.loop-begin.pieces) (word_begins_from c.loop-begin.at (word_bounds_left c.loop-begin.bounds)) _ c.in_default.ensures c.loop-begin.invariant.0
