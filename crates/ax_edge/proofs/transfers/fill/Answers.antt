use Rattle.std.proofs.Common.{rules, take}
use Rattle.ax_edge.proofs.Moved.{front_then, on_err_of}
use Rattle.ax_edge.proofs.transfers.fill.Goals as goal

pub returns-in_err-extend_from_slice-clause-err : goal.returns-in_err-extend_from_slice-clause-err
returns-in_err-extend_from_slice-clause-err g c =
    on_err_of c.from_residual.result (front_then c.args.most _ _ _ c.reading.input.items (take c.in-Ok.count c.read.new.buf) c.reading.invariant.taken c.in-Ok.ensures.bytes.0 (search rules))
