use Rattle.std.proofs.Common.{sym, arith}
use Rattle.ax_dom.proofs.Walks.{ascends}
use Rattle.dom_ids.proofs.Climbing.{climb_first, climb_more, end_closed, end_added, top_closed, more_added, more_keeps}
use Rattle.dom_ids.proofs.ways.NodeSet.climb.Goals as goal

pub up-init : goal.up-init
up-init g c = climb_first c.args.dom.now c.args.self.now c.args.id c.requires.closed

pub returns-in_default-clause-closed : goal.returns-in_default-clause-closed
returns-in_default-clause-closed g c = top_closed c.args.dom.now c.requires.tree c.args.self.now c.up.self c.args.id c.up.at c.up.invariant c.add.new.self c.in_ok-add.ensures.ok c.in_default.ensures.value

pub returns-in_default-clause-added : goal.returns-in_default-clause-added
returns-in_default-clause-added g c = more_added c.args.dom.now c.requires.tree c.args.self.now c.up.self c.args.id c.up.at c.up.invariant c.add.new.self c.in_ok-add.ensures.ok

pub returns-in_default-clause-keeps : goal.returns-in_default-clause-keeps
returns-in_default-clause-keeps g c = more_keeps c.args.dom.now c.requires.tree c.args.self.now c.up.self c.args.id c.up.at c.up.invariant c.add.new.self c.in_ok-add.ensures.ok

pub up-smaller : goal.up-smaller
up-smaller g c = ascends c.args.dom.now c.requires.tree c.up.at c.in-Some.parent (sym c.in-Some.ensures.value)

pub up-preserved : goal.up-preserved
up-preserved g c = climb_more c.args.dom.now c.requires.tree c.args.self.now c.up.self c.args.id c.up.at c.up.invariant c.add.new.self c.in_ok-add.ensures.ok c.in-Some.parent c.in-Some.ensures.value

pub returns-clause-closed : goal.returns-clause-closed
returns-clause-closed g c = end_closed c.args.dom.now c.requires.tree c.args.self.now c.up.self c.args.id c.up.at c.up.invariant c.up-test.ensures
