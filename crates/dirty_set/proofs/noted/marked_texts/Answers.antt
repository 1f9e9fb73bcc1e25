use Rattle.std.proofs.Common.{◌∙◌, ◌++◌}
use Rattle.dom_ids.specs.References.{listed}
use Rattle.dirty_set.specs.Marking.{carried_near}
use Rattle.dirty_set.proofs.noted.marked_texts.Goals as goal

pub returns : goal.returns
returns g c =
    let nodes = c.as_slice.ensures ∙ c.requires.nodes in
    let around = c.as_slice-2.ensures ∙ c.in_ok-add_some.ensures ∙ (λ i. (c.in_ok-around.ensures ∙ c.requires.roots) i ++ listed (c.taken_by.ensures i)) in
    let nodes_too = c.as_slice-3.ensures ∙ c.requires.nodes in
    let around_too = c.as_slice-4.ensures ∙ c.in_ok-add_some.ensures ∙ (λ i. (c.in_ok-around.ensures ∙ c.requires.roots) i ++ listed (c.taken_by.ensures i)) in
    c.in_ok-add_carried_near-2.ensures
    ∙ (λ i. (c.in_ok-add_carried_near.ensures ∙ (λ j. c.new-texts.ensures.items j ++ carried_near (nodes j) (around j) c.args.old.now)) i ++ carried_near (nodes_too i) (around_too i) c.args.now.now)
