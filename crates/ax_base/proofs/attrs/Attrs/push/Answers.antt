use Rattle.std.proofs.Common.{◌∙◌, ap}
use Rattle.ax_base.specs.Attributes.{value_of}
use Rattle.ax_base.proofs.AttributeNames.{distinct-push}
use Rattle.ax_base.proofs.attrs.Attrs.push.Goals as goal

pub invariant_of-self-2 : goal.invariant_of-self-2
invariant_of-self-2 c = rw c.in_ok-push.ensures.items (distinct-push _ _ c.self.invariant (ap (value_of c.args.attr.name) c.self.view_is ∙ c.requires))
