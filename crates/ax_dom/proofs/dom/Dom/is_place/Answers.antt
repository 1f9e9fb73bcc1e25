use Rattle.std.proofs.Common.{◌∙◌, ap, sym, false}
use Rattle.std.specs.Prelude.{nat_eq}
use Rattle.std.specs.Option.{option_map_or}
use Rattle.ax_dom.specs.Refusals.{is_place}
use Rattle.ax_dom.proofs.Kept.{child_by_parent}
use Rattle.ax_dom.proofs.dom.Dom.is_place.Goals as goal

pub returns-in-Some : goal.returns-in-Some
returns-in-Some c =
    c.is_same.ensures ∙ ap (λ o. option_map_or (nat_eq c.args.into) o false) c.parent_of.ensures.value
    ∙ child_by_parent c.args.self.now c.parent_of.ensures.tree c.args.into c.in-Some.b
    ∙ ap (is_place c.args.self.now c.args.into) (sym c.in-Some.is)
