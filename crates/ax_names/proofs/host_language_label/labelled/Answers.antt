use Rattle.std.proofs.Common.{◌≡◌, ◌∙◌, [], true, rules, sym}
use Rattle.std.specs.Prelude.{◌==◌}
use Rattle.ax_names.proofs.Known.{label_known}
use Rattle.ax_names.proofs.Calling.{labelled_is}
use Rattle.ax_names.proofs.host_language_label.labelled.Goals as goal

pub push_node-requires-clause-known : goal.push_node-requires-clause-known
push_node-requires-clause-known g c = label_known c.args.dom.now c.args.text.now c.in-Some-labels.label (sym (sym c.in-Some-labels.is ∙ c.in_ok-labels.ensures.value))

pub returns-clause-value : goal.returns-clause-value
returns-clause-value g c =
    let same : (c.in-Some.first == c.args.id) ≡ true = search rules in
    labelled_is c.args.dom.now c.args.text.now c.args.id c.in-Some.first c.in-Some-labels.label c.push_node.new.into (sym c.in-Some.is ∙ c.in_ok-found.ensures.value) same (sym c.in-Some-labels.is ∙ c.in_ok-labels.ensures.value)
    (c.in_ok-push_node.ensures.value [] c.empty-said.ensures)
