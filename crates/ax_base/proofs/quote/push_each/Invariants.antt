use Rattle.std.proofs.Common.{◌≡◌, ◌++◌, string_bytes}
use Rattle.std.specs.List.{flat_map}
use Rattle.ax_base.specs.Quoting.{quoted_char}
use Rattle.ax_base.proofs.quote.push_each.Given as goal

-- the characters so far are out
abbrev pub invariant-loop-c : goal.invariant-loop-c
invariant-loop-c l = string_bytes l.out ≡ string_bytes l.fn.out ++ flat_map quoted_char l.yielded
