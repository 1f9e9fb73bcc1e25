use Rattle.std.proofs.Common.{◌≡◌, [], false}
use Rattle.std.specs.Prelude.{string_bytes}
use Rattle.ax_base.proofs.Flattening.{flattered}
use Rattle.ax_base.proofs.white.flat.Given as goal

-- the characters so far are out, flattened
abbrev pub invariant-loop-c : goal.invariant-loop-c
invariant-loop-c l = (string_bytes l.out, l.apart) ≡ flattered ([], false) l.yielded
