use Rattle.std.proofs.Common.{◌∙◌, sym, ap}
use Rattle.std.specs.Map.{set_value}
use Rattle.std.specs.BTreeMap.{is_at}
use Rattle.std.specs.Ordering.{nat_cmp}
use Rattle.std.proofs.lemmas.Result.{err_from_is_err_and}
use Rattle.std.proofs.lemmas.Map.Steps.{set_value_same}
use Rattle.ax_dom.proofs.node_map.NodeMap.link_child.Goals as goal

pub returns-in_err-place_among-clause-err : goal.returns-in_err-place_among-clause-err
returns-in_err-place_among-clause-err c =
    let p = err_from_is_err_and c.from_residual.result c.from_residual.ensures.1 in
    let h = c.get_mut.follows.holds (record { cell = c.in-Some.entry.now.cell; children = c.place_among.new.ids }) in
    rw p.1 (h ∙ ap (λ cs. set_value (is_at (nat_cmp c.args.into)) c.self.inside.map (record { cell = c.in-Some.entry.now.cell; children = cs })) c.in_err-place_among.ensures.err
    ∙ set_value_same (is_at (nat_cmp c.args.into)) c.self.inside.map c.in-Some.entry.now (sym c.in-Some.ensures.value) ∙ c.self.view_is)
