use Rattle.std.proofs.Common.{◌∙◌, arith}
use Rattle.std.proofs.lemmas.Result.{err_from_is_err_and}
use Rattle.ax_base.proofs.Marked.{put-marked, same-marked}
use Rattle.ax_base.proofs.id_set.Marks.add.Goals as goal

pub returns-in_err-grow-clause-err : goal.returns-in_err-grow-clause-err
returns-in_err-grow-clause-err c =
    let p = err_from_is_err_and c.from_residual.result c.from_residual.ensures.1 in
    rw p.1 (same-marked c.self.inside.items.items c.grow.new.items.items c.grow.ensures.same ∙ c.self.view_is)

pub returns-clause-ok : goal.returns-clause-ok
returns-clause-ok c =
    let new = c.grow.new.items in
    rw c.self.view_is at (put-marked c.self.inside.items.items new.items c.args.id c.grow.ensures.same (omega (arith, c.in_ok-grow.ensures.room, new.ok.0)))
