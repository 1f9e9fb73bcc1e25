use Rattle.std.proofs.Common.{◌∙◌, ap, is_some}
use Rattle.memchr.proofs.lemmas.ValueLemmas.{FindsNeedle-value}
use Rattle.ax_search.specs.Folding.{holds}
use Rattle.ax_search.proofs.sought.contains.Goals as goal

pub returns : goal.returns
returns c =
    c.is_some.ensures ∙ ap is_some (FindsNeedle-value c.as_bytes.result.now c.as_bytes-2.result.now c.find.result c.find.ensures)
    ∙ (λ i. holds (c.as_bytes.ensures.value i) (c.as_bytes-2.ensures.value i))
