use Rattle.std.proofs.Common.{◌≡◌, length}
use denote.Shadow.{shadow}
use denote.Text.{Utf8}
use Rattle.ax_base.specs.Characters.{tokens}
use Rattle.ax_base.specs.KnownRoles.{first_known}
use Rattle.ax_roles.proofs.role_attribute.first_known.Given as goal

-- the tokens that are left name the same role as all of them, and what is left is text
abbrev pub invariant-loop-token : goal.invariant-loop-token
invariant-loop-token l = (first_known (tokens l.rest) ≡ first_known (tokens l.text)) × shadow (Utf8 l.rest)

abbrev pub decreases-loop-token : goal.decreases-loop-token
decreases-loop-token l = length l.rest
