-- The first role that is named among tokens.
use Rattle.std.specs.Prelude.{◌≡◌, true, false, List, ◌∷◌, Option, Some, None, is_some}
use Rattle.std.specs.Option.{option_or}
use Rattle.std.proofs.Common.{sym, ap, ◌∙◌, refl}
use Rattle.ax_base.specs.declared.role.Role.{Role}
use Rattle.ax_base.specs.Characters.{Chars}
use Rattle.ax_base.specs.KnownRoles.{known_role, first_known}

no_first : (r other : Option Role) → is_some r ≡ false → option_or r other ≡ other
no_first None other none = refl
no_first (Some x) other none = cc

one_first : (r other : Option Role) → is_some r ≡ true → option_or r other ≡ r
one_first None other some = cc
one_first (Some x) other some = refl

-- a token that names no role is passed over
pub passed_over : (all rest : List Chars) (token : Chars) (r : Option Role) → all ≡ token ∷ rest → r ≡ known_role token → is_some r ≡ false → first_known all ≡ first_known rest
passed_over all rest token r is named none =
    ap first_known is ∙ ap (λ o. option_or o (first_known rest)) (sym named) ∙ no_first r (first_known rest) none

-- a token that names a role is the first
pub comes_first : (all rest : List Chars) (token : Chars) (r : Option Role) → all ≡ token ∷ rest → r ≡ known_role token → is_some r ≡ true → r ≡ first_known all
comes_first all rest token r is named some =
    sym (ap first_known is ∙ ap (λ o. option_or o (first_known rest)) (sym named) ∙ one_first r (first_known rest) some)
