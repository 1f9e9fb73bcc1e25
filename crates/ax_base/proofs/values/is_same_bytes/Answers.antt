use Rattle.std.proofs.lemmas.Bool.Decides.{same_from_decides}
use Rattle.std.proofs.lemmas.Slice.Eq.{bytes_eq-Decides}
use Rattle.ax_base.specs.Values.{lowered}
use Rattle.ax_base.proofs.values.is_same_bytes.Goals as goal

pub returns : goal.returns
returns c = same_from_decides c.eq_ignore_ascii_case.result _ c.eq_ignore_ascii_case.ensures.test (bytes_eq-Decides (lowered c.args.a.now) (lowered c.args.b.now))
