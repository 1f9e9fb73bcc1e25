use Rattle.std.proofs.Common.{◌≡◌, drop}
use Rattle.std.specs.Prelude.{find}
use Rattle.ax_base.specs.KnownRoles.{is_named_by}
use Rattle.ax_roles.proofs.role_attribute.role_named.Given as goal

-- the token names none of the roles so far
abbrev pub invariant-loop-role : goal.invariant-loop-role
invariant-loop-role l = find (is_named_by l.token) (drop l.role-index l.roles) ≡ find (is_named_by l.token) l.roles
