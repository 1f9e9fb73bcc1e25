use Rattle.std.proofs.Common.{◌∙◌, sym, ap}
use Rattle.ax_names.specs.Pieces.{ends_white}
use Rattle.ax_names.proofs.Joining.{ends_at}
use Rattle.ax_names.proofs.pieces.ends_white.Goals as goal

pub returns-in-Some : goal.returns-in-Some
returns-in-Some c = c.is_ascii_whitespace.ensures.value ∙ ends_at c.as_bytes.result.now c.in-Some.b.now (sym c.in-Some.ensures.value) ∙ ap ends_white c.as_bytes.ensures.value
