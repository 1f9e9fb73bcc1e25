use Rattle.std.proofs.Common.{ap, ◌∙◌}
use Rattle.std.specs.Ordering.{nat_cmp}
use Rattle.std.specs.BTreeMap.{insert_entry}
use Rattle.ctx_pass.proofs.Putting.{put_here, put_keeps}
use Rattle.said_pass.specs.Saids.{node_text}
use Rattle.said_pass.proofs.texts.NodeTexts.renew_node.Goals as goal

pub returns-clause-here : goal.returns-clause-here
returns-clause-here g c = put_here (node_text c.args.dom.now) c.self.inside.kept c.put.new.self c.args.id c.in_ok-text.text c.in_ok-text.ensures.value c.in_ok-put.ensures.ok

pub returns-clause-stays : goal.returns-clause-stays
returns-clause-stays g c =
    put_keeps (node_text c.args.dom.now) c.args.self.now c.put.new.self c.args.id c.in_ok-text.text c.in_ok-text.ensures.value (c.in_ok-put.ensures.ok ∙ ap (λ l. insert_entry nat_cmp l c.args.id c.in_ok-text.text) c.self.view_is)
