use Rattle.std.proofs.Common.{◌≡◌, ◌∙◌, length, ap, sym, subst, arith}
use Rattle.std.specs.List.Sorted.{IsStrictlyIncreasing}
use Rattle.dirty_set.specs.Near.{ComesFrom, LiesBelow}
use Rattle.dirty_set.proofs.Turning.{none_rises}
use Rattle.dirty_set.proofs.Nearness.{from_nothing, above_node, below_root, both_near, few_near, near_is}
use Rattle.dirty_set.proofs.around.near.Goals as goal

pub returns-in_err-walk_all-clause-counted : goal.returns-in_err-walk_all-clause-counted
returns-in_err-walk_all-clause-counted g c =
    let few = few_near c.args.dom.now c.requires.tree c.args.nodes.now c.args.roots.now c.walk_all.new.walked c.walk_all.ensures.rises (λ n on. below_root c.args.dom.now c.requires.tree c.args.nodes.now c.args.roots.now n (from_nothing (LiesBelow c.args.dom.now c.args.roots.now) c.new-walked.result c.walk_all.new.walked c.new-walked.ensures c.walk_all.ensures.only n on)) in
    let walk = c.walk_all.ensures.counted in let none : length c.new-walked.result ≡ 0 = ap length c.new-walked.ensures in omega arith

pub returns-in_err-below-clause-counted : goal.returns-in_err-below-clause-counted
returns-in_err-below-clause-counted g c =
    let few = few_near c.args.dom.now c.requires.tree c.args.nodes.now c.args.roots.now c.walk_all.new.walked c.walk_all.ensures.rises (λ n on. below_root c.args.dom.now c.requires.tree c.args.nodes.now c.args.roots.now n (from_nothing (LiesBelow c.args.dom.now c.args.roots.now) c.new-walked.result c.walk_all.new.walked c.new-walked.ensures c.walk_all.ensures.only n on)) in
    let walk = c.walk_all.ensures.counted in let none : length c.new-walked.result ≡ 0 = ap length c.new-walked.ensures in omega arith

pub returns-in_err-climb_all-clause-counted : goal.returns-in_err-climb_all-clause-counted
returns-in_err-climb_all-clause-counted g c =
    let few = few_near c.args.dom.now c.requires.tree c.args.nodes.now c.args.roots.now c.walk_all.new.walked c.walk_all.ensures.rises (λ n on. below_root c.args.dom.now c.requires.tree c.args.nodes.now c.args.roots.now n (from_nothing (LiesBelow c.args.dom.now c.args.roots.now) c.new-walked.result c.walk_all.new.walked c.new-walked.ensures c.walk_all.ensures.only n on)) in
    let more = few_near c.args.dom.now c.requires.tree c.args.nodes.now c.args.roots.now c.climb_all.new.set c.climb_all.ensures.rises (λ n on. above_node c.args.dom.now c.requires.tree c.args.nodes.now c.args.roots.now n (from_nothing (ComesFrom c.args.dom.now c.args.nodes.now) c.new-set.result c.climb_all.new.set c.new-set.ensures c.climb_all.ensures.only n on)) in
    let walk = c.walk_all.ensures.counted in let none : length c.new-walked.result ≡ 0 = ap length c.new-walked.ensures in let climb = c.climb_all.ensures.counted in let empty : length c.new-set.result ≡ 0 = ap length c.new-set.ensures in omega arith

pub returns-in_err-climb_all-2-clause-counted : goal.returns-in_err-climb_all-2-clause-counted
returns-in_err-climb_all-2-clause-counted g c =
    let few = few_near c.args.dom.now c.requires.tree c.args.nodes.now c.args.roots.now c.walk_all.new.walked c.walk_all.ensures.rises (λ n on. below_root c.args.dom.now c.requires.tree c.args.nodes.now c.args.roots.now n (from_nothing (LiesBelow c.args.dom.now c.args.roots.now) c.new-walked.result c.walk_all.new.walked c.new-walked.ensures c.walk_all.ensures.only n on)) in
    let more = few_near c.args.dom.now c.requires.tree c.args.nodes.now c.args.roots.now c.climb_all-2.new.set c.climb_all-2.ensures.rises (λ n on. both_near c.args.dom.now c.requires.tree c.args.nodes.now c.args.roots.now c.climb_all.new.set c.climb_all-2.new.set c.walk_all.new.walked c.as_slice.result.now (c.as_slice.ensures ∙ c.in_ok-below.ensures) (from_nothing (LiesBelow c.args.dom.now c.args.roots.now) c.new-walked.result c.walk_all.new.walked c.new-walked.ensures c.walk_all.ensures.only) (from_nothing (ComesFrom c.args.dom.now c.args.nodes.now) c.new-set.result c.climb_all.new.set c.new-set.ensures c.climb_all.ensures.only) c.climb_all-2.ensures.only n on) in
    let last = c.climb_all-2.ensures.counted in
    let walk = c.walk_all.ensures.counted in let none : length c.new-walked.result ≡ 0 = ap length c.new-walked.ensures in let climb = c.climb_all.ensures.counted in let empty : length c.new-set.result ≡ 0 = ap length c.new-set.ensures in omega arith

pub returns-clause-value : goal.returns-clause-value
returns-clause-value g c =
    near_is c.args.dom.now c.requires.tree c.args.nodes.now c.args.roots.now c.walk_all.new.walked c.climb_all.new.set c.climb_all-2.new.set c.as_slice.result.now c.in_ok-walk_all.ensures.all c.in_ok-climb_all.ensures.all
    (c.as_slice.ensures ∙ c.in_ok-below.ensures) c.climb_all-2.ensures.keeps c.in_ok-climb_all-2.ensures.all c.in_ok-climb_all-2.ensures.closed c.climb_all-2.ensures.rises
    (λ n on. both_near c.args.dom.now c.requires.tree c.args.nodes.now c.args.roots.now c.climb_all.new.set c.climb_all-2.new.set c.walk_all.new.walked c.as_slice.result.now (c.as_slice.ensures ∙ c.in_ok-below.ensures) (from_nothing (LiesBelow c.args.dom.now c.args.roots.now) c.new-walked.result c.walk_all.new.walked c.new-walked.ensures c.walk_all.ensures.only) (from_nothing (ComesFrom c.args.dom.now c.args.nodes.now) c.new-set.result c.climb_all.new.set c.new-set.ensures c.climb_all.ensures.only) c.climb_all-2.ensures.only n on)

pub returns-clause-counted : goal.returns-clause-counted
returns-clause-counted g c =
    let few = few_near c.args.dom.now c.requires.tree c.args.nodes.now c.args.roots.now c.walk_all.new.walked c.walk_all.ensures.rises (λ n on. below_root c.args.dom.now c.requires.tree c.args.nodes.now c.args.roots.now n (from_nothing (LiesBelow c.args.dom.now c.args.roots.now) c.new-walked.result c.walk_all.new.walked c.new-walked.ensures c.walk_all.ensures.only n on)) in
    let more = few_near c.args.dom.now c.requires.tree c.args.nodes.now c.args.roots.now c.climb_all-2.new.set c.climb_all-2.ensures.rises (λ n on. both_near c.args.dom.now c.requires.tree c.args.nodes.now c.args.roots.now c.climb_all.new.set c.climb_all-2.new.set c.walk_all.new.walked c.as_slice.result.now (c.as_slice.ensures ∙ c.in_ok-below.ensures) (from_nothing (LiesBelow c.args.dom.now c.args.roots.now) c.new-walked.result c.walk_all.new.walked c.new-walked.ensures c.walk_all.ensures.only) (from_nothing (ComesFrom c.args.dom.now c.args.nodes.now) c.new-set.result c.climb_all.new.set c.new-set.ensures c.climb_all.ensures.only) c.climb_all-2.ensures.only n on) in
    let last = c.climb_all-2.ensures.counted in
    let walk = c.walk_all.ensures.counted in let none : length c.new-walked.result ≡ 0 = ap length c.new-walked.ensures in let climb = c.climb_all.ensures.counted in let empty : length c.new-set.result ≡ 0 = ap length c.new-set.ensures in omega arith

pub walk_all-requires-clause-rises : goal.walk_all-requires-clause-rises
walk_all-requires-clause-rises g c = subst IsStrictlyIncreasing (sym c.new-walked.ensures) none_rises

pub climb_all-requires-clause-rises : goal.climb_all-requires-clause-rises
climb_all-requires-clause-rises g c = subst IsStrictlyIncreasing (sym c.new-set.ensures) none_rises
