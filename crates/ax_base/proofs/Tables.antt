-- The tables of roles, tested as a whole.
use Rattle.std.specs.Prelude.{◌≡◌, true, bytes_eq, refl, length}
use Rattle.std.specs.List.{list_all}
use Rattle.ax_base.specs.RoleWords.{role_word}
use Rattle.ax_base.specs.Values.{lowered}
use Rattle.ax_base.specs.KnownRoles.{known_roles}

-- there are 81 known roles
known_count : length known_roles ≡ 81
known_count = refl

-- the word of each known role is in lower case, so that to compare it without case is to compare it with what is in lower case
known_lower : list_all (λ r. bytes_eq (lowered (role_word r)) (role_word r)) known_roles ≡ true
known_lower = refl
