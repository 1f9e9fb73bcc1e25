use Rattle.std.proofs.Common.{◌≡◌}
use Rattle.std.specs.Prelude.{string_bytes}
use lib.Utf8.{encodes}
use Rattle.ax_base.proofs.text.first_characters.Given as goal

-- the characters so far have been copied
abbrev pub invariant-loop-c : goal.invariant-loop-c
invariant-loop-c l = string_bytes l.front ≡ encodes l.yielded
