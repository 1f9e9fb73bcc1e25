use Rattle.text_order.proofs.Laters.{prior, prior_known}
use Rattle.text_order.proofs.steps.prior_text.Goals as goal

pub returns-clause-going : goal.returns-clause-going
returns-clause-going g c = prior (g.T.TreeView.tree c.args.t.now) c.last_before.ensures.is_tree c.args.id c.requires c.in-Ok.found c.in-Ok.ensures.found

pub returns-clause-known : goal.returns-clause-known
returns-clause-known g c = prior_known (g.T.TreeView.tree c.args.t.now) c.args.id c.in-Ok.found c.in-Ok.ensures.found
