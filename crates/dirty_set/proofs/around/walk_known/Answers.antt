use Rattle.std.proofs.Common.{inl, inr, sym}
use Rattle.std.proofs.lemmas.Result.{on_ok_weaker}
use Rattle.dirty_set.proofs.Nearness.{down_again}
use Rattle.dirty_set.proofs.around.walk_known.Goals as goal

pub walk_below-requires-clause-closed : goal.walk_below-requires-clause-closed
walk_below-requires-clause-closed g c = λ t p k child on. inl (c.requires.closed p k child on)

pub returns-then-has-clause-closed : goal.returns-then-has-clause-closed
returns-then-has-clause-closed g c =
    on_ok_weaker c.walk_below.result (λ near. down_again c.args.dom.now c.requires.tree c.args.walked.now c.walk_below.new.walked c.args.root c.requires.closed c.walk_below.ensures.keeps c.walk_below.ensures.only near) c.walk_below.ensures.closed

pub returns-then-has-clause-only : goal.returns-then-has-clause-only
returns-then-has-clause-only g c = λ n on. elim (c.walk_below.ensures.only n on) [ inl was ↦ inl was | inr below ↦ inr (sym c.if-has.ensures, below) ]
