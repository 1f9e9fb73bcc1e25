use Rattle.std.proofs.Common.{false, ap, ◌∙◌}
use Rattle.kids_pass.specs.Kids.{is_object_or, kids_at}
use Rattle.kids_pass.proofs.children.Kids.is_object.Goals as goal

pub returns : goal.returns
returns c d are there = c.is_object.ensures ∙ ap (λ kept. is_object_or false (kids_at kept c.args.id)) c.self.view_is ∙ ap (is_object_or false) (are c.args.id there)
