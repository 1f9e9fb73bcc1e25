use Rattle.std.proofs.Common.{arith}
use Rattle.std.proofs.lemmas.Map.Text.{text_keys}
use Rattle.dom_ids.proofs.index.IdIndex.take.Goals as goal

pub returns-in-Some-clause-others : goal.returns-in-Some-clause-others
returns-in-Some-clause-others c = grind (arith, text_keys)

pub returns-in-None-clause-others : goal.returns-in-None-clause-others
returns-in-None-clause-others c = grind (arith, text_keys)
