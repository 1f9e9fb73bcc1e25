use Rattle.std.proofs.Common.{inl, inr}
use Rattle.dirty_set.proofs.Reachings.{focus_is}
use Rattle.dirty_set.proofs.reach.climb_focus.Goals as goal

pub returns-in-Some-clause-only : goal.returns-in-Some-clause-only
returns-in-Some-clause-only g c = λ n on. elim (c.climb_known.ensures.only n on) [ inl was ↦ inl was | inr (there, inside) ↦ inr (c.in-Some.id, there, focus_is c.args.dom.now.focus c.in-Some.id c.in-Some.ensures, inside) ]
