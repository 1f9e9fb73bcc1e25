use Rattle.std.proofs.Common.{◌≡◌, ◌∙◌, length, ap, arith}
use Rattle.dirty_set.specs.Reach.{marks_of, nodes_near}
use Rattle.dirty_set.proofs.Arriving.{near_closed, near_rises, few_near, few_focus, few_texts, few_labels, all_reached, reach_is}
use Rattle.dirty_set.proofs.reach.reached.Goals as goal

pub climb_focus-requires-clause-closed : goal.climb_focus-requires-clause-closed
climb_focus-requires-clause-closed g c = near_closed c.args.dom.now c.requires.tree (marks_of c.args.nodes.now c.args.roots.now c.args.texts.now) c.in_ok-set.set c.in_ok-set.ensures.value

pub climb_focus-requires-clause-rises : goal.climb_focus-requires-clause-rises
climb_focus-requires-clause-rises g c = near_rises c.args.dom.now c.requires.tree (marks_of c.args.nodes.now c.args.roots.now c.args.texts.now) c.in_ok-set.set c.in_ok-set.ensures.value

pub returns-in_err-set-clause-counted : goal.returns-in_err-set-clause-counted
returns-in_err-set-clause-counted g c =
    let near = few_near c.args.dom.now c.requires.tree (marks_of c.args.nodes.now c.args.roots.now c.args.texts.now) in let first = c.near.ensures.counted in
    omega arith

pub returns-in_err-climb_focus-clause-counted : goal.returns-in_err-climb_focus-clause-counted
returns-in_err-climb_focus-clause-counted g c =
    let near = few_near c.args.dom.now c.requires.tree (marks_of c.args.nodes.now c.args.roots.now c.args.texts.now) in let same : length c.in_ok-set.set ≡ length (nodes_near c.args.nodes.now c.args.roots.now c.args.dom.now) = ap length c.in_ok-set.ensures.value in let first = c.near.ensures.counted in
    let focus = few_focus c.args.dom.now c.requires.tree (marks_of c.args.nodes.now c.args.roots.now c.args.texts.now) c.in_ok-set.set c.climb_focus.new.set c.climb_focus.new.set c.in_ok-set.ensures.value c.climb_focus.ensures.only c.climb_focus.ensures.rises in let second = c.climb_focus.ensures.counted in
    omega arith

pub returns-in_err-climb_tied-clause-counted : goal.returns-in_err-climb_tied-clause-counted
returns-in_err-climb_tied-clause-counted g c =
    let near = few_near c.args.dom.now c.requires.tree (marks_of c.args.nodes.now c.args.roots.now c.args.texts.now) in let same : length c.in_ok-set.set ≡ length (nodes_near c.args.nodes.now c.args.roots.now c.args.dom.now) = ap length c.in_ok-set.ensures.value in let first = c.near.ensures.counted in
    let focus = few_focus c.args.dom.now c.requires.tree (marks_of c.args.nodes.now c.args.roots.now c.args.texts.now) c.in_ok-set.set c.climb_focus.new.set c.climb_focus.new.set c.in_ok-set.ensures.value c.climb_focus.ensures.only c.climb_focus.ensures.rises in let second = c.climb_focus.ensures.counted in
    let text = few_texts c.args.dom.now c.requires.tree (marks_of c.args.nodes.now c.args.roots.now c.args.texts.now) c.in_ok-set.set c.climb_focus.new.set c.climb_tied.new.set c.in_ok-set.ensures.value c.climb_focus.ensures.only c.climb_tied.ensures.only c.climb_tied.ensures.rises in let third = c.climb_tied.ensures.counted in
    omega arith

pub returns-in_err-members-clause-counted : goal.returns-in_err-members-clause-counted
returns-in_err-members-clause-counted g c =
    let near = few_near c.args.dom.now c.requires.tree (marks_of c.args.nodes.now c.args.roots.now c.args.texts.now) in let same : length c.in_ok-set.set ≡ length (nodes_near c.args.nodes.now c.args.roots.now c.args.dom.now) = ap length c.in_ok-set.ensures.value in let first = c.near.ensures.counted in
    let focus = few_focus c.args.dom.now c.requires.tree (marks_of c.args.nodes.now c.args.roots.now c.args.texts.now) c.in_ok-set.set c.climb_focus.new.set c.climb_focus.new.set c.in_ok-set.ensures.value c.climb_focus.ensures.only c.climb_focus.ensures.rises in let second = c.climb_focus.ensures.counted in
    let text = few_texts c.args.dom.now c.requires.tree (marks_of c.args.nodes.now c.args.roots.now c.args.texts.now) c.in_ok-set.set c.climb_focus.new.set c.climb_tied.new.set c.in_ok-set.ensures.value c.climb_focus.ensures.only c.climb_tied.ensures.only c.climb_tied.ensures.rises in let third = c.climb_tied.ensures.counted in
    omega arith

pub returns-in_err-climb_labels-clause-counted : goal.returns-in_err-climb_labels-clause-counted
returns-in_err-climb_labels-clause-counted g c =
    let near = few_near c.args.dom.now c.requires.tree (marks_of c.args.nodes.now c.args.roots.now c.args.texts.now) in let same : length c.in_ok-set.set ≡ length (nodes_near c.args.nodes.now c.args.roots.now c.args.dom.now) = ap length c.in_ok-set.ensures.value in let first = c.near.ensures.counted in
    let focus = few_focus c.args.dom.now c.requires.tree (marks_of c.args.nodes.now c.args.roots.now c.args.texts.now) c.in_ok-set.set c.climb_focus.new.set c.climb_focus.new.set c.in_ok-set.ensures.value c.climb_focus.ensures.only c.climb_focus.ensures.rises in let second = c.climb_focus.ensures.counted in
    let text = few_texts c.args.dom.now c.requires.tree (marks_of c.args.nodes.now c.args.roots.now c.args.texts.now) c.in_ok-set.set c.climb_focus.new.set c.climb_tied.new.set c.in_ok-set.ensures.value c.climb_focus.ensures.only c.climb_tied.ensures.only c.climb_tied.ensures.rises in let third = c.climb_tied.ensures.counted in
    let all = few_labels c.args.dom.now c.requires.tree (marks_of c.args.nodes.now c.args.roots.now c.args.texts.now) c.in_ok-set.set c.climb_focus.new.set c.climb_tied.new.set c.in_ok-set.ensures.value c.climb_focus.ensures.only c.as_slice.result.now c.climb_labels.new.set c.climb_tied.ensures.only (c.as_slice.ensures ∙ c.in_ok-members.ensures) c.climb_labels.ensures.only c.climb_labels.ensures.rises in let fourth = c.climb_labels.ensures.counted in let listed : length c.as_slice.result.now ≡ length c.climb_tied.new.set = ap length (c.as_slice.ensures ∙ c.in_ok-members.ensures) in
    omega arith

pub returns-in_err-found-clause-counted : goal.returns-in_err-found-clause-counted
returns-in_err-found-clause-counted g c =
    let near = few_near c.args.dom.now c.requires.tree (marks_of c.args.nodes.now c.args.roots.now c.args.texts.now) in let same : length c.in_ok-set.set ≡ length (nodes_near c.args.nodes.now c.args.roots.now c.args.dom.now) = ap length c.in_ok-set.ensures.value in let first = c.near.ensures.counted in
    let focus = few_focus c.args.dom.now c.requires.tree (marks_of c.args.nodes.now c.args.roots.now c.args.texts.now) c.in_ok-set.set c.climb_focus.new.set c.climb_focus.new.set c.in_ok-set.ensures.value c.climb_focus.ensures.only c.climb_focus.ensures.rises in let second = c.climb_focus.ensures.counted in
    let text = few_texts c.args.dom.now c.requires.tree (marks_of c.args.nodes.now c.args.roots.now c.args.texts.now) c.in_ok-set.set c.climb_focus.new.set c.climb_tied.new.set c.in_ok-set.ensures.value c.climb_focus.ensures.only c.climb_tied.ensures.only c.climb_tied.ensures.rises in let third = c.climb_tied.ensures.counted in
    let all = few_labels c.args.dom.now c.requires.tree (marks_of c.args.nodes.now c.args.roots.now c.args.texts.now) c.in_ok-set.set c.climb_focus.new.set c.climb_tied.new.set c.in_ok-set.ensures.value c.climb_focus.ensures.only c.as_slice.result.now c.climb_labels.new.set c.climb_tied.ensures.only (c.as_slice.ensures ∙ c.in_ok-members.ensures) c.climb_labels.ensures.only c.climb_labels.ensures.rises in let fourth = c.climb_labels.ensures.counted in let listed : length c.as_slice.result.now ≡ length c.climb_tied.new.set = ap length (c.as_slice.ensures ∙ c.in_ok-members.ensures) in
    omega arith

pub returns-clause-counted : goal.returns-clause-counted
returns-clause-counted g c =
    let near = few_near c.args.dom.now c.requires.tree (marks_of c.args.nodes.now c.args.roots.now c.args.texts.now) in let same : length c.in_ok-set.set ≡ length (nodes_near c.args.nodes.now c.args.roots.now c.args.dom.now) = ap length c.in_ok-set.ensures.value in let first = c.near.ensures.counted in
    let focus = few_focus c.args.dom.now c.requires.tree (marks_of c.args.nodes.now c.args.roots.now c.args.texts.now) c.in_ok-set.set c.climb_focus.new.set c.climb_focus.new.set c.in_ok-set.ensures.value c.climb_focus.ensures.only c.climb_focus.ensures.rises in let second = c.climb_focus.ensures.counted in
    let text = few_texts c.args.dom.now c.requires.tree (marks_of c.args.nodes.now c.args.roots.now c.args.texts.now) c.in_ok-set.set c.climb_focus.new.set c.climb_tied.new.set c.in_ok-set.ensures.value c.climb_focus.ensures.only c.climb_tied.ensures.only c.climb_tied.ensures.rises in let third = c.climb_tied.ensures.counted in
    let all = few_labels c.args.dom.now c.requires.tree (marks_of c.args.nodes.now c.args.roots.now c.args.texts.now) c.in_ok-set.set c.climb_focus.new.set c.climb_tied.new.set c.in_ok-set.ensures.value c.climb_focus.ensures.only c.as_slice.result.now c.climb_labels.new.set c.climb_tied.ensures.only (c.as_slice.ensures ∙ c.in_ok-members.ensures) c.climb_labels.ensures.only c.climb_labels.ensures.rises in let fourth = c.climb_labels.ensures.counted in let listed : length c.as_slice.result.now ≡ length c.climb_tied.new.set = ap length (c.as_slice.ensures ∙ c.in_ok-members.ensures) in
    omega arith

pub returns-clause-value : goal.returns-clause-value
returns-clause-value g c =
    c.in_ok-found.ensures ∙ reach_is c.args.dom.now c.requires.tree (marks_of c.args.nodes.now c.args.roots.now c.args.texts.now) c.in_ok-set.set c.climb_focus.new.set c.climb_tied.new.set c.as_slice.result.now c.climb_labels.new.set c.in_ok-set.ensures.value c.in_ok-climb_focus.ensures.all c.climb_focus.ensures.keeps c.in_ok-climb_tied.ensures.closed c.in_ok-climb_tied.ensures.all c.climb_tied.ensures.keeps
    (c.as_slice.ensures ∙ c.in_ok-members.ensures) c.in_ok-climb_labels.ensures.closed c.in_ok-climb_labels.ensures.all c.climb_labels.ensures.keeps c.climb_labels.ensures.rises
    (all_reached c.args.dom.now c.requires.tree (marks_of c.args.nodes.now c.args.roots.now c.args.texts.now) c.in_ok-set.set c.climb_focus.new.set c.climb_tied.new.set c.in_ok-set.ensures.value c.climb_focus.ensures.only c.as_slice.result.now c.climb_labels.new.set c.climb_tied.ensures.only (c.as_slice.ensures ∙ c.in_ok-members.ensures) c.climb_labels.ensures.only)
