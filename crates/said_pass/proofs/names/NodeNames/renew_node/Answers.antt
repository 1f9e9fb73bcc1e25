use Rattle.std.proofs.Common.{ap, ◌∙◌}
use Rattle.std.specs.Ordering.{nat_cmp}
use Rattle.std.specs.BTreeMap.{insert_entry}
use Rattle.ctx_pass.proofs.Putting.{put_here, put_keeps}
use Rattle.said_pass.specs.Saids.{node_name}
use Rattle.said_pass.proofs.names.NodeNames.renew_node.Goals as goal

pub returns-clause-here : goal.returns-clause-here
returns-clause-here g c = put_here (node_name c.args.sources.now) c.self.inside.kept c.put.new.self c.args.id c.in_ok-name.name c.in_ok-name.ensures.value c.in_ok-put.ensures.ok

pub returns-clause-stays : goal.returns-clause-stays
returns-clause-stays g c =
    put_keeps (node_name c.args.sources.now) c.args.self.now c.put.new.self c.args.id c.in_ok-name.name c.in_ok-name.ensures.value (c.in_ok-put.ensures.ok ∙ ap (λ l. insert_entry nat_cmp l c.args.id c.in_ok-name.name) c.self.view_is)
