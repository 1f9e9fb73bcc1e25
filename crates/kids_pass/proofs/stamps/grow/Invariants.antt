use Rattle.std.proofs.Common.{◌≡◌, ◌+◌, ◌-◌, ℕ}
use Rattle.std.specs.Prelude.{vec_len, slice_index_or}
use Rattle.kids_pass.proofs.stamps.grow.Given as goal

-- each id has the number that it had
abbrev pub invariant-grow : goal.invariant-grow
invariant-grow l = (n : ℕ) → slice_index_or l.given.items n 0 ≡ slice_index_or l.initial.given.items n 0

abbrev pub decreases-grow : goal.decreases-grow
decreases-grow l = l.at + 1 - vec_len l.given
