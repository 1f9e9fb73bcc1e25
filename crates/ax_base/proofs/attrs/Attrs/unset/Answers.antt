use Rattle.std.proofs.Common.{◌∙◌}
use Rattle.ax_base.proofs.AttributeNames.{no_value, without_name-none, name_removed, distinct_removed}
use Rattle.ax_base.proofs.attrs.Attrs.unset.Goals as goal

pub invariant_of-self : goal.invariant_of-self
invariant_of-self c = rw c.remove.ensures.items (distinct_removed _ _ _ c.self.view_is c.self.invariant c.in-Some.place c.remove.result c.in-Some.ensures.place)

pub returns-in-Some : goal.returns-in-Some
returns-in-Some c = c.remove.ensures.items ∙ name_removed _ _ _ c.self.view_is c.self.invariant c.in-Some.place c.remove.result c.in-Some.ensures.place

pub returns-in_default : goal.returns-in_default
returns-in_default c = without_name-none c.args.name.now c.args.self.now (no_value c.args.name.now c.args.self.now c.in_default.ensures.place)
