use Rattle.std.proofs.lemmas.Result.{on_ok_weaker}
use Rattle.ax_names.proofs.Putting.{ink_then}
use Rattle.ax_names.proofs.front.Front.put_ink.Goals as goal

pub returns : goal.returns
returns c = on_ok_weaker c.put.result (λ e. ink_then c.args.self.now c.put_gap.new.self _ c.args.white c.args.c c.in_ok-put_gap.ensures e) c.put.ensures
