use Rattle.std.proofs.Common.{◌∙◌, sym, ap}
use Rattle.std.specs.Map.{set_value}
use Rattle.std.specs.BTreeMap.{is_at}
use Rattle.std.specs.Ordering.{nat_cmp}
use Rattle.std.proofs.lemmas.Result.{err_from_is_err_and}
use Rattle.std.proofs.lemmas.Map.Steps.{set_value_same}
use Rattle.ax_dom.proofs.node_map.NodeMap.amend.Goals as goal

pub returns-in_err-amend_body-clause-err : goal.returns-in_err-amend_body-clause-err
returns-in_err-amend_body-clause-err c =
    let p = err_from_is_err_and c.from_residual.result c.from_residual.ensures.1 in
    let h = c.get_mut.follows.holds (record c.in-Some.entry.now { cell = record c.in-Some.entry.now.cell { body = c.amend_body.new.body } }) in
    rw p.1 (h ∙ ap (λ b. set_value (is_at (nat_cmp c.args.id)) c.self.inside.map (record c.in-Some.entry.now { cell = record c.in-Some.entry.now.cell { body = b } })) c.in_err-amend_body.ensures.err
    ∙ set_value_same (is_at (nat_cmp c.args.id)) c.self.inside.map c.in-Some.entry.now (sym c.in-Some.ensures.value) ∙ c.self.view_is)
