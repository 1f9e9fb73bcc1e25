use Rattle.std.proofs.lemmas.Result.{on_ok_weaker}
use Rattle.ax_names.proofs.Evenly.{even_then}
use Rattle.ax_names.proofs.front.Front.put_even.Goals as goal

pub returns : goal.returns
returns c = on_ok_weaker c.put_ascii.result (λ e. even_then c.args.self.now c.put_gap.new.self _ c.args.text.now c.args.white c.requires c.in_ok-put_gap.ensures e) c.put_ascii.ensures
