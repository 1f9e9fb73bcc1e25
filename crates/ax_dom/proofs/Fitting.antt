-- Texts that are not too long.
use Rattle.std.proofs.Common.{◌≡◌, false, [], length, arith}
use Rattle.std.specs.Str.{chars}
use Rattle.std.proofs.lemmas.Bool.{ltb-false}
use Rattle.ax_base.specs.Characters.{Chars}
use Rattle.ax_base.specs.declared.body.Body.TheVariants.{Words}
use Rattle.ax_base.specs.Texts.{IsFitting}
use Rattle.ax_dom.specs.Refusals.{is_long_text}

pub text_fits : (t : Chars) → is_long_text t ≡ false → IsFitting (Words t [])
text_fits t short = ltb-false 65536 (length (chars t)) short

-- the empty text
pub nothing_fits : IsFitting (Words [] [])
unfolding chars
nothing_fits = omega arith
