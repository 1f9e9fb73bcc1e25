use Rattle.std.proofs.Common.{◌≡◌, ◌∙◌, false, sym, ap}
use Rattle.ax_base.specs.Characters.{flat, cut}
use Rattle.ax_base.specs.NamedRoles.{name_prohibited}
use Rattle.ax_names.proofs.NamedBy.{named_before, named_last}
use Rattle.ax_names.proofs.naming.element_name.Goals as goal

pub returns-in-Some : goal.returns-in-Some
returns-in-Some c r l b refers labels inside =
    let may : name_prohibited c.args.role ≡ false = sym c.name_prohibited.ensures ∙ c.if-name_prohibited.false in
    named_before c.args.role c.args.attrs.now r l b may c.in-Some.name (sym c.in-Some.is ∙ c.in_ok-name.ensures r l b refers labels inside)

pub returns : goal.returns
returns c r l b refers labels inside =
    let may : name_prohibited c.args.role ≡ false = sym c.name_prohibited.ensures ∙ c.if-name_prohibited.false in
    named_last c.args.role c.args.attrs.now r l b may c.in_ok-flat_and_cut-2.field-0 (sym c.in_default.is ∙ c.in_ok-name.ensures r l b refers labels inside)
    (c.in_ok-flat_and_cut-2.ensures ∙ ap (λ t. cut (flat t)) c.title_said.ensures)
