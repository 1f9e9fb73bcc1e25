use Rattle.std.proofs.Common.{ap, ◌∙◌}
use Rattle.kids_pass.specs.Kids.{kids_at}
use Rattle.kids_pass.proofs.Given.{plain_gives}
use Rattle.kids_pass.proofs.kept.KeptKids.gives_objects.Goals as goal

pub returns-in-Included : goal.returns-in-Included
returns-in-Included c = λ on. plain_gives c.args.self.now c.in-Some.kept.now c.args.child (c.in-Some.ensures ∙ ap (λ l. kids_at l c.args.child) c.self.view_is) c.in-Included.is
