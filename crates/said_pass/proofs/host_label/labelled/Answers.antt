use Rattle.std.proofs.Common.{ap, sym, ◌≡◌, ◌==◌, true, false, rules, ◌∙◌}
use Rattle.ax_names.specs.Pieces.{piece_of}
use Rattle.ax_names.proofs.Known.{label_known}
use Rattle.said_pass.proofs.Referring.{none_named, other_named, no_label, labelled_is}
use Rattle.said_pass.proofs.host_label.labelled.Goals as goal

pub returns-in_default : goal.returns-in_default
returns-in_default c = c.empty-said.ensures ∙ ap piece_of (none_named c.args.sources.now c.args.text.now c.args.id c.in_default.ensures)

pub returns-then-ne : goal.returns-then-ne
returns-then-ne c =
    let off : (c.in-Some.first == c.args.id) ≡ false = search rules in
    c.empty-said.ensures ∙ ap piece_of (other_named c.args.sources.now c.args.text.now c.args.id c.in-Some.first c.in-Some.ensures off)

pub returns-in_default-label : goal.returns-in_default-label
returns-in_default-label c =
    let on : (c.in-Some.first == c.args.id) ≡ true = search rules in
    c.empty-said.ensures ∙ ap piece_of (no_label c.args.sources.now c.args.text.now c.args.id c.in-Some.first c.in-Some.ensures on c.in_default-label.ensures)

pub add_said-requires : goal.add_said-requires
add_said-requires c = record { known = label_known c.args.sources.now c.args.text.now c.in-Some-label.label (sym c.in-Some-label.ensures) }

pub returns : goal.returns
returns c =
    let on : (c.in-Some.first == c.args.id) ≡ true = search rules in
    labelled_is c.args.sources.now c.args.text.now c.args.id c.in-Some.first c.in-Some.ensures c.in-Some-label.label c.empty-said.result c.add_said.new.into c.flatten.new.self on c.in-Some-label.ensures c.empty-said.ensures c.in_ok-add_said.ensures c.flatten.ensures
