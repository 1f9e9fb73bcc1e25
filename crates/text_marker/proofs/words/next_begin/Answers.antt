use Rattle.std.proofs.Common.{◌≡◌, ℕ, ◌+◌, ◌<◌, ◌≤◌, ◌^◌, [], ◌∷◌, length, filter, MatchOption, refl, sym, subst, ◌∙◌, arith}
use Rattle.std.specs.Prelude.{Option}
use Rattle.std.specs.List.{concat}
use Rattle.unicode_segmentation.specs.Segments.{has_alphanumeric}
use Rattle.text_marker.specs.Stops.{word_begins_from}
use Rattle.unicode_segmentation.specs.Iter.{word_bounds_left, unicode_words_left}
use Rattle.text_marker.proofs.Going.{go_fits}
use Rattle.text_marker.proofs.Wording.{no_begins, word_taken, bound_passed, told_same, told_apart}
use Rattle.text_marker.proofs.words.next_begin.Goals as goal

pub returns-in_err-word : goal.returns-in_err-word
returns-in_err-word c =
    subst (λ (o : Option (ℕ × ℕ)). MatchOption o (word_begins_from c.args.at (word_bounds_left c.args.bounds.now) ≡ [])
    (λ (next : ℕ × ℕ). (word_begins_from c.args.at (word_bounds_left c.args.bounds.now) ≡ next.0 ∷ word_begins_from next.1 (word_bounds_left c.args.bounds.now))
    × (next.0 ≤ next.1) × (next.1 + length (concat (word_bounds_left c.args.bounds.now)) < 2 ^ 32)
    × (filter has_alphanumeric (word_bounds_left c.args.bounds.now) ≡ unicode_words_left c.next.new.self)))
    (sym c.from_residual.ensures) (no_begins c.args.at (word_bounds_left c.args.bounds.now) (c.requires.same ∙ c.in_err-word.ensures.steps.0))

pub overflow_add-past : goal.overflow_add-past
overflow_add-past c =
    let fits = go_fits c.loop-bound.at c.in-Some.bound.now (word_bounds_left c.loop-bound.bounds) (word_bounds_left c.next-in-loop-bound.new.self) c.count.result 4294967296 c.in-Some.ensures.steps c.count.ensures.value c.loop-bound.invariant.3 in
    omega (arith, fits)

pub returns-then-eq : goal.returns-then-eq
returns-then-eq c =
    let step = word_taken c.loop-bound.at c.count.result (c.loop-bound.at + c.count.result) c.in-Some.bound.now c.in_ok-word.word.now (word_bounds_left c.loop-bound.bounds) (word_bounds_left c.next-in-loop-bound.new.self) (unicode_words_left c.next.new.self)
    c.in-Some.ensures.steps c.loop-bound.invariant.4 (told_same c.eq.result c.in-Some.bound.now c.in_ok-word.word.now c.eq.ensures c.if-eq.true) c.count.ensures.value refl in (
      c.loop-bound.invariant.2 ∙ step.0,
      omega arith,
      go_fits c.loop-bound.at c.in-Some.bound.now (word_bounds_left c.loop-bound.bounds) (word_bounds_left c.next-in-loop-bound.new.self) c.count.result 4294967296 c.in-Some.ensures.steps c.count.ensures.value c.loop-bound.invariant.3,
      step.1,
    )

pub loop-bound-preserved : goal.loop-bound-preserved
loop-bound-preserved c =
    let step = bound_passed c.loop-bound.at c.count.result (c.loop-bound.at + c.count.result) c.in-Some.bound.now c.in_ok-word.word.now (word_bounds_left c.loop-bound.bounds) (word_bounds_left c.next-in-loop-bound.new.self) (unicode_words_left c.next.new.self)
    c.in-Some.ensures.steps c.loop-bound.invariant.4 (told_apart c.eq.result c.in-Some.bound.now c.in_ok-word.word.now c.eq.ensures c.if-eq.false) c.count.ensures.value refl in (
      tt,
      tt,
      c.loop-bound.invariant.2 ∙ step.0,
      go_fits c.loop-bound.at c.in-Some.bound.now (word_bounds_left c.loop-bound.bounds) (word_bounds_left c.next-in-loop-bound.new.self) c.count.result 4294967296 c.in-Some.ensures.steps c.count.ensures.value c.loop-bound.invariant.3,
      step.1,
    )
