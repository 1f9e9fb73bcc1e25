use Rattle.text_order.proofs.Laters.{going, going_known}
use Rattle.text_order.proofs.steps.next_text.Goals as goal

pub returns-clause-going : goal.returns-clause-going
returns-clause-going g c = going (g.T.TreeView.tree c.args.t.now) c.first_after.ensures.is_tree c.args.id c.requires c.in-Ok.found c.in-Ok.ensures.found

pub returns-clause-known : goal.returns-clause-known
returns-clause-known g c = going_known (g.T.TreeView.tree c.args.t.now) c.args.id c.in-Ok.found c.in-Ok.ensures.found
