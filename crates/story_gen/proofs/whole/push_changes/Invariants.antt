use Rattle.std.proofs.Common.{◌≡◌, ◌++◌, string_bytes}
use Rattle.story_gen.specs.Generated.{up_to, change_lines}
use Rattle.story_gen.proofs.whole.push_changes.Given as goal

-- the lines of the items so far are out
abbrev pub invariant-loop-done : goal.invariant-loop-done
invariant-loop-done l = string_bytes l.out ≡ string_bytes l.fn.out ++ up_to (change_lines l.count) l.done
