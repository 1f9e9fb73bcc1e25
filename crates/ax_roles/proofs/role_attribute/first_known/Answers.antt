use Rattle.std.proofs.Common.{rules, sym, ap, ◌∙◌}
use Rattle.ax_base.specs.KnownRoles.{known_role}
use Rattle.ax_roles.proofs.Named.{passed_over, comes_first}
use Rattle.ax_roles.proofs.role_attribute.first_known.Goals as goal

pub loop-token-preserved : goal.loop-token-preserved
loop-token-preserved c = (sym (passed_over _ _ c.in-Some.token.now c.known_role-role.result c.in-Some.ensures.tokens (c.known_role-role.ensures ∙ ap known_role c.as_bytes.ensures.value) (sym c.is_some.ensures ∙ c.if-is_some.false)) ∙ c.loop-token.invariant.0, search rules)

pub returns-then-is_some : goal.returns-then-is_some
returns-then-is_some c =
    comes_first _ _ c.in-Some.token.now c.known_role-role.result c.in-Some.ensures.tokens (c.known_role-role.ensures ∙ ap known_role c.as_bytes.ensures.value) (sym c.is_some.ensures ∙ c.if-is_some.true) ∙ c.loop-token.invariant.0
