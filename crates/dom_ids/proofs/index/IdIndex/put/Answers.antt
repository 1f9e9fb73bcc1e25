use Rattle.std.proofs.Common.{refl, arith}
use Rattle.std.proofs.lemmas.Map.Text.{text_keys}
use Rattle.dom_ids.proofs.index.IdIndex.put.Goals as goal

pub returns-then-is_empty : goal.returns-then-is_empty
returns-then-is_empty c =
    let nothing = c.if-is_empty.ensures refl in
    grind (arith, text_keys)

pub returns : goal.returns
returns c = grind (arith, text_keys)
