use Rattle.std.proofs.Common.{ap, ◌∙◌, ◌++◌}
use Rattle.dom_ids.specs.References.{listed}
use Rattle.dirty_set.specs.Marking.{turned}
use Rattle.dirty_set.proofs.noted.marked_roots.Goals as goal

pub returns : goal.returns
returns g c =
    c.in_ok-add_some-2.ensures
    ∙ ap (λ l. c.add_some.new.ids ++ l) c.turned_by-turned.ensures
    ∙ ap (λ l. l ++ turned c.args.old.now c.args.now.now) (c.in_ok-add_some.ensures ∙ (λ i. c.new-roots.ensures i ++ listed (c.put_by.ensures i)))
