use Rattle.std.proofs.Common.{sym}
use Rattle.ax_dom.proofs.Walks.{ascends}
use Rattle.dirty_set.proofs.Climbing.{climb_first, climb_more, end_closed, top_closed, more_added, more_rises, more_keeps, more_only, more_counted}
use Rattle.dirty_set.proofs.climb.NodeIds.climb.Goals as goal

pub up-init : goal.up-init
up-init g c = climb_first c.args.dom.now c.args.self.now c.args.id c.args.steps.now c.requires.known c.requires.closed c.requires.rises

pub returns-in_default-clause-closed : goal.returns-in_default-clause-closed
returns-in_default-clause-closed g c = top_closed c.args.dom.now c.requires.tree c.args.self.now c.up.self c.args.id c.up.at c.args.steps.now c.up.steps c.requires.known c.up.invariant c.up-test.ensures c.add.new.self c.in_ok-add.ensures.ok c.in_default.ensures.value

pub returns-in_default-clause-added : goal.returns-in_default-clause-added
returns-in_default-clause-added g c = more_added c.args.dom.now c.requires.tree c.args.self.now c.up.self c.args.id c.up.at c.args.steps.now c.up.steps c.requires.known c.up.invariant c.up-test.ensures c.add.new.self c.in_ok-add.ensures.ok

pub returns-in_default-clause-keeps : goal.returns-in_default-clause-keeps
returns-in_default-clause-keeps g c = more_keeps c.args.dom.now c.requires.tree c.args.self.now c.up.self c.args.id c.up.at c.args.steps.now c.up.steps c.requires.known c.up.invariant c.up-test.ensures c.add.new.self c.in_ok-add.ensures.ok

pub returns-in_default-clause-only : goal.returns-in_default-clause-only
returns-in_default-clause-only g c = more_only c.args.dom.now c.requires.tree c.args.self.now c.up.self c.args.id c.up.at c.args.steps.now c.up.steps c.requires.known c.up.invariant c.up-test.ensures c.add.new.self c.in_ok-add.ensures.ok

pub returns-in_default-clause-counted : goal.returns-in_default-clause-counted
returns-in_default-clause-counted g c = more_counted c.args.dom.now c.requires.tree c.args.self.now c.up.self c.args.id c.up.at c.args.steps.now c.up.steps c.requires.known c.up.invariant c.up-test.ensures c.add.new.self c.in_ok-add.ensures.ok c.parent.new.steps c.in_default.ensures.counted

pub returns-in_default-clause-rises : goal.returns-in_default-clause-rises
returns-in_default-clause-rises g c = more_rises c.args.dom.now c.requires.tree c.args.self.now c.up.self c.args.id c.up.at c.args.steps.now c.up.steps c.requires.known c.up.invariant c.up-test.ensures c.add.new.self c.in_ok-add.ensures.ok

pub up-smaller : goal.up-smaller
up-smaller g c = ascends c.args.dom.now c.requires.tree c.up.at c.in-Some.parent (sym c.in-Some.ensures.value)

pub up-preserved : goal.up-preserved
up-preserved g c = climb_more c.args.dom.now c.requires.tree c.args.self.now c.up.self c.args.id c.up.at c.args.steps.now c.up.steps c.requires.known c.up.invariant c.up-test.ensures c.add.new.self c.in_ok-add.ensures.ok c.in-Some.parent c.parent.new.steps c.in-Some.ensures.value c.in-Some.ensures.counted

pub returns-clause-closed : goal.returns-clause-closed
returns-clause-closed g c = end_closed c.args.dom.now c.requires.tree c.args.self.now c.up.self c.args.id c.up.at c.args.steps.now c.up.steps c.requires.known c.up.invariant c.up-test.ensures
