-- How long a text may be.
use Rattle.std.specs.Prelude.{◌≤◌, length}
use Rattle.std.specs.Str.{chars}
use Rattle.ax_base.specs.declared.body.Body.{Body}
use Rattle.ax_base.specs.declared.body.Body.TheVariants.{Element, Words}
use Rattle.ax_base.specs.declared.limits.TheConstants.{MAX_TEXT_CHARACTERS}

-- a text has at most as many characters as it may
abbrev pub IsFitting : Body → Type 0
IsFitting (Words text runs) = length (chars text) ≤ MAX_TEXT_CHARACTERS
IsFitting (Element tag attrs frame) = Unit {0}
