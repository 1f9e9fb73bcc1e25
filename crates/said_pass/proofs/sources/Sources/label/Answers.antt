use Rattle.std.proofs.Common.{ap, ◌∙◌}
use Rattle.ax_base.specs.AccessibleNames.{first_label}
use Rattle.dom_ids.specs.Ordering.{first_in}
use Rattle.said_pass.proofs.Referring.{first_label_is}
use Rattle.said_pass.proofs.sources.Sources.label.Goals as goal

pub returns : goal.returns
returns c =
    let d = c.self.inside.dom.now in
    c.first_of.ensures ∙ ap first_in (c.labels.ensures d c.self.invariant.is_index) ∙ first_label_is d c.args.id.now ∙ ap (λ v. first_label v c.args.id.now) c.self.view_is
