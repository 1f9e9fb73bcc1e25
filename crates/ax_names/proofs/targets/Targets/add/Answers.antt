use Rattle.std.proofs.Common.{bytes_eq, false, ap}
use Rattle.std.specs.Option.{option_map_or}
use Rattle.std.proofs.lemmas.Result.{on_ok_weaker}
use Rattle.ax_dom.specs.declared.cell.Cell.{Cell}
use Rattle.ax_names.proofs.Speaking.{cell_is}
use Rattle.ax_names.proofs.Firsts.{unknown_more, known_more}
use Rattle.ax_names.proofs.targets.Targets.add.Goals as goal

pub returns-in_default : goal.returns-in_default
returns-in_default g c = λ before first. unknown_more c.args.dom.now c.args.node before c.args.self.now first c.in_default.ensures.value

pub returns : goal.returns
returns g c =
    let d = c.args.dom.now in
    let cell = cell_is d c.args.node c.in-Some.cell.now c.in-Some.ensures.value in
    on_ok_weaker c.keep_first-2.result (λ labels before first.
    known_more d c.args.node before c.args.self.now first c.in-Some.cell.now.body (ap (λ (x : Cell). x.body) cell) _
    (λ x. option_map_or (λ w. bytes_eq x w.now) c.own_id.result false) (λ x. option_map_or (λ w. bytes_eq x w.now) c.labelled_id.result false)
    c.own_id.ensures c.labelled_id.ensures c.in_ok-keep_first.ensures labels) c.keep_first-2.ensures
