use Rattle.std.proofs.Common.{◌≡◌, ◌∙◌, true, false, sym}
use Rattle.ax_base.specs.Document.{spot}
use Rattle.ax_base.specs.Roles.{hides}
use Rattle.ax_names.proofs.Above.{parent_known, parent_higher, hidden_above, hidden_top, hidden_here}
use Rattle.ax_names.proofs.hidden.is_hidden.Goals as goal

pub returns-in_default : goal.returns-in_default
returns-in_default g c =
    let d = c.args.dom.now in
    let off : hides (spot d c.up.at) ≡ false = sym c.node_hides.ensures.hides ∙ c.up-test.true in
    sym (hidden_top d c.up.at (sym c.in_default.ensures.value) off) ∙ c.up.invariant.1

pub up-smaller : goal.up-smaller
up-smaller g c = parent_higher c.args.dom.now c.node_hides.ensures.tree c.up.at c.in-Some.parent (sym c.in-Some.ensures.value)

pub up-preserved : goal.up-preserved
up-preserved g c =
    let d = c.args.dom.now in
    let t = c.node_hides.ensures.tree in
    let off : hides (spot d c.up.at) ≡ false = sym c.node_hides.ensures.hides ∙ c.up-test.true in
    let above = sym c.in-Some.ensures.value in
    (parent_known d t c.up.at c.in-Some.parent above, sym (hidden_above d t c.up.at c.in-Some.parent above off) ∙ c.up.invariant.1)

pub returns : goal.returns
returns g c =
    let d = c.args.dom.now in
    let on : hides (spot d c.up.at) ≡ true = sym c.node_hides.ensures.hides ∙ c.up-test.false in
    sym (hidden_here d c.up.at on) ∙ c.up.invariant.1
