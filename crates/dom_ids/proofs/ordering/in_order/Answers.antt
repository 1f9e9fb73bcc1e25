use Rattle.std.proofs.Common.{ap, ◌++◌, ◌∙◌, sym}
use Rattle.ax_dom.specs.Among.{is_in}
use Rattle.std.specs.Prelude.{filter}
use Rattle.ax_base.specs.Document.{order}
use Rattle.dom_ids.proofs.Gathering.{ordered_same, ways_same}
use Rattle.dom_ids.proofs.ordering.in_order.Goals as goal

pub gather-requires : goal.gather-requires
gather-requires g c = record { tree = c.requires.tree; ways = ways_same c.args.dom.now c.args.nodes.now c.in_ok-wanted.wanted c.in_ok-ways.ways c.in_ok-wanted.ensures c.in_ok-ways.ensures }

pub returns : goal.returns
returns g c = c.in_ok-gather.ensures ∙ ap (λ l. l ++ filter (is_in c.in_ok-wanted.wanted) (order c.args.dom.now)) c.new-ids.ensures ∙ ordered_same c.args.dom.now c.in_ok-wanted.wanted c.args.nodes.now c.in_ok-wanted.ensures
