use Rattle.std.proofs.Common.{arith}
use Rattle.std.proofs.lemmas.Map.Text.{text_keys}
use Rattle.ax_names.proofs.targets.keep_first.Goals as goal

-- the word is kept by the node, and by it nothing was
pub returns : goal.returns
returns c = grind (arith, text_keys)
