use Rattle.std.proofs.Common.{arith}
use Rattle.std.proofs.lemmas.Int.{ints}
use Rattle.ax_base.proofs.Rectangles.{made}
use Rattle.ax_base.proofs.rect.between.Goals as goal

pub returns-clause-value : goal.returns-clause-value
returns-clause-value c = made c.args.left c.args.top c.args.right c.args.bottom _ _ _ _ (omega (arith, ints)) (omega (arith, ints)) (omega (arith, ints)) (omega (arith, ints))
