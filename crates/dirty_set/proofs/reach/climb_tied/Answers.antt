use Rattle.std.proofs.Common.{arith}
use Rattle.dirty_set.proofs.Reachings.{tied_more, tied_only}
use Rattle.dirty_set.proofs.reach.climb_tied.Goals as goal

pub returns-in_err-climb_text-clause-only : goal.returns-in_err-climb_text-clause-only
returns-in_err-climb_text-clause-only g c = tied_only c.args.dom.now c.args.set.now c.loop-text.set c.args.steps.now c.loop-text.steps c.loop-text.text-index c.text-item.result c.args.texts.now (omega arith) c.text-item.is c.loop-text.invariant c.climb_text.new.set c.climb_text.new.steps c.climb_text.ensures.keeps c.climb_text.ensures.only c.climb_text.ensures.counted

pub loop-text-preserved : goal.loop-text-preserved
loop-text-preserved g c = tied_more c.args.dom.now c.args.set.now c.loop-text.set c.args.steps.now c.loop-text.steps c.loop-text.text-index c.text-item.result c.args.texts.now (omega arith) c.text-item.is c.loop-text.invariant c.climb_text.new.set c.climb_text.new.steps c.climb_text.ensures.keeps c.climb_text.ensures.only c.climb_text.ensures.counted c.in_ok-climb_text.ensures.closed c.in_ok-climb_text.ensures.all c.climb_text.ensures.rises
