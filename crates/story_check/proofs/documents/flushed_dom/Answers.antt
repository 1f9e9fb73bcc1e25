use Rattle.std.proofs.Common.{◌+◌, ◌∷◌, drop, arith, ap, subst, sym, ◌∙◌}
use Rattle.ax_base.specs.Document.{Document}
use Rattle.story_check.specs.Moments.{after_flushes}
use Rattle.story_check.proofs.Flushed.{IsLeft, next_line, past_change, past_flush, past_until}
use Rattle.story_check.proofs.documents.flushed_dom.Goals as goal
use Rattle.story_check.proofs.documents.flushed_dom.Goals.{in-Change+in_ok-change-in-Change, in-Flush, in-Until}

pub loop-line-preserved : goal.loop-line-preserved
loop-line-preserved c =
    let left = drop (c.loop-line.line-index + 1) c.args.page.now in
    let last = after_flushes c.args.document c.args.page.now c.args.count in
    let d = c.loop-line.document in
    let here = next_line c.args.page.now c.loop-line.line-index c.line-item.result c.loop-line-test.true c.line-item.is in
    elim c.match-line.branch [
      | in-Change+in_ok-change-in-Change w ↦
          subst (λ k. IsLeft last c.match-line.document left k) (sym w.left-is)
          (past_change last d c.match-line.document w.in-Change.edit left c.loop-line.left (omega arith) (w.document-is ∙ w.in_ok-change-in-Change.ensures.ok)
          (subst (λ xs. IsLeft last d xs c.loop-line.left) (here ∙ ap (λ x. x ∷ left) w.in-Change.is) c.loop-line.invariant))
      | in-Flush w ↦
          subst (λ (x : Document). IsLeft last x left c.match-line.left) (sym w.document-is)
          (past_flush last d left c.loop-line.left c.match-line.left (omega arith)
          (subst (λ xs. IsLeft last d xs c.loop-line.left) (here ∙ ap (λ x. x ∷ left) w.in-Flush.is) c.loop-line.invariant))
      | in-Until w ↦
          subst (λ (x : Document). IsLeft last x left c.match-line.left) (sym w.document-is) (subst (λ k. IsLeft last d left k) (sym w.left-is)
          (past_until last d w.in-Until.field-0 left c.loop-line.left (omega arith)
          (subst (λ xs. IsLeft last d xs c.loop-line.left) (here ∙ ap (λ x. x ∷ left) w.in-Until.is) c.loop-line.invariant)))
    ]
