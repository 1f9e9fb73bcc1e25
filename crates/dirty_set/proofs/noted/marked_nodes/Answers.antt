use Rattle.std.proofs.Common.{ap, ◌∙◌, ◌++◌}
use Rattle.dom_ids.specs.References.{listed}
use Rattle.dirty_set.specs.Marking.{key_of, into_of, left}
use Rattle.dirty_set.proofs.Noting.{nodes_are}
use Rattle.dirty_set.proofs.noted.marked_nodes.Goals as goal

pub returns : goal.returns
returns g c =
    nodes_are (listed (key_of c.args.e.now)) (listed (into_of c.args.e.now)) (left c.args.old.now c.args.e.now) (listed c.args.old.now.focus) (listed c.args.now.now.focus)
    c.new-nodes.result c.add_some.new.ids c.add_some-2.new.ids c.add_some-3.new.ids c.add_some-4.new.ids c.add_some-5.new.ids
    c.new-nodes.ensures
    (c.in_ok-add_some.ensures ∙ ap (λ o. c.new-nodes.result ++ listed o) c.key_of.ensures)
    (c.in_ok-add_some-2.ensures ∙ ap (λ o. c.add_some.new.ids ++ listed o) c.into_of.ensures)
    (c.in_ok-add_some-3.ensures ∙ ap (λ l. c.add_some-2.new.ids ++ l) c.left_by-left.ensures)
    (c.in_ok-add_some-4.ensures ∙ ap (λ o. c.add_some-3.new.ids ++ listed o) c.focus.ensures)
    (c.in_ok-add_some-5.ensures ∙ ap (λ o. c.add_some-4.new.ids ++ listed o) c.focus-2.ensures)
