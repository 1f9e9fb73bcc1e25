use Rattle.std.proofs.Common.{ap, ◌∙◌}
use Rattle.dom_ids.specs.Index.{labels}
use Rattle.dirty_set.proofs.Reachings.{own_all, own_only}
use Rattle.dirty_set.proofs.reach.climb_own_labels.Goals as goal

pub returns-in_err-climb_all-clause-only : goal.returns-in_err-climb_all-clause-only
returns-in_err-climb_all-clause-only g c = own_only c.args.dom.now c.requires.tree c.args.member c.in-Some.cell.now c.in-Some.ensures.value c.in-Some-own_id.id.now c.in-Some-own_id.ensures c.labels.result.now (c.labels.ensures c.args.dom.now c.requires.index ∙ ap (labels c.args.dom.now) c.as_str.ensures) c.args.set.now c.climb_all.new.set c.climb_all.ensures.only

pub returns-clause-all : goal.returns-clause-all
returns-clause-all g c = own_all c.args.dom.now c.requires.tree c.args.member c.in-Some.cell.now c.in-Some.ensures.value c.in-Some-own_id.id.now c.in-Some-own_id.ensures c.labels.result.now (c.labels.ensures c.args.dom.now c.requires.index ∙ ap (labels c.args.dom.now) c.as_str.ensures) c.climb_all.new.set c.in_ok-climb_all.ensures.all

pub returns-clause-only : goal.returns-clause-only
returns-clause-only g c = own_only c.args.dom.now c.requires.tree c.args.member c.in-Some.cell.now c.in-Some.ensures.value c.in-Some-own_id.id.now c.in-Some-own_id.ensures c.labels.result.now (c.labels.ensures c.args.dom.now c.requires.index ∙ ap (labels c.args.dom.now) c.as_str.ensures) c.args.set.now c.climb_all.new.set c.climb_all.ensures.only
