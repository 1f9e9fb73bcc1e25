-- The roles that `role` may name.
use Rattle.std.specs.Prelude.{List, [], ◌∷◌, Bool, true, false, ◌&&◌, Option, Some, None, find, filter, if◌then◌else◌, codes}
use Rattle.std.specs.Option.{option_or}
use Rattle.ax_base.specs.declared.role.Role.{Role}
use Rattle.ax_base.specs.declared.role.Role.TheVariants.{NoRole, Text}
use Rattle.ax_base.specs.declared.role.TheConstants.Role.{ALL}
use Rattle.ax_base.specs.Characters.{Chars}
use Rattle.ax_base.specs.Values.{is_same_word}
use Rattle.ax_base.specs.RoleWords.{role_word}

-- whether `role` may name a role: every one but that of a text
abbrev pub is_known : Role → Bool
is_known Text = false
is_known _ = true

-- the known roles (WAI-ARIA 1.2, section 5.4: the roles that are not abstract; which of them are known is this project's profile)
abbrev pub known_roles : List Role
known_roles = filter is_known ALL

-- whether a token is the word of a role that may be named
abbrev pub is_named_by : Chars → Role → Bool
is_named_by token r = is_known r && is_same_word token (role_word r)

-- the role that a token names: `presentation` is another word for none, and any other role is named by its own word
unfoldable pub known_role : Chars → Option Role
known_role token = if is_same_word token (codes "presentation") then Some NoRole else find (is_named_by token) ALL

-- the first role that is named among tokens (WAI-ARIA 1.2, section 8.1: the first token that names a known role)
abbrev pub first_known : List Chars → Option Role
first_known [] = None
first_known (t ∷ ts) = option_or (known_role t) (first_known ts)
