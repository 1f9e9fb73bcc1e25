use Rattle.std.proofs.Common.{arith}
use Rattle.std.proofs.lemmas.Result.{on_ok_weaker}
use Rattle.tree_diff.proofs.Losing.{at_last, none_there, with_kids, there_gives, gone_gives}
use Rattle.tree_diff.proofs.places.+losing.Goals as goal

pub push_lost-returns-then-levels-eq0 : goal.push_lost-returns-then-levels-eq0
push_lost-returns-then-levels-eq0 g t c = at_last (g.T.TreeView.tree c.args.before.now) c.args.now.now c.args.levels c.args.id c.args.out.now c.if-levels-eq0.true

pub push_lost-returns-in_default : goal.push_lost-returns-in_default
push_lost-returns-in_default g t c = none_there (g.T.TreeView.tree c.args.before.now) c.args.now.now c.args.levels c.args.id c.args.out.now c.in_default.ensures.value

pub push_lost-returns : goal.push_lost-returns
push_lost-returns g t c =
    on_ok_weaker c.push_given_of.result (λ rest. with_kids (g.T.TreeView.tree c.args.before.now) c.args.now.now c.args.levels c.args.id c.in-Some.object.now c.args.out.now c.push_given_of.new.out c.as_slice.result.now
    c.in-Some.ensures.value (omega arith) c.as_slice.ensures rest) c.push_given_of.ensures

pub push_given-returns-then-has : goal.push_given-returns-then-has
push_given-returns-then-has g t c = there_gives (g.T.TreeView.tree c.args.before.now) c.args.now.now c.args.levels c.args.id c.args.out.now c.if-has.ensures

pub push_given-returns : goal.push_given-returns
push_given-returns g t c =
    on_ok_weaker c.push_lost.result (λ rest. gone_gives (g.T.TreeView.tree c.args.before.now) c.args.now.now c.args.levels c.args.id c.args.out.now c.push.new.self c.push_lost.new.out
    c.if-has.ensures c.in_ok-push.ensures.ok rest) c.push_lost.ensures
