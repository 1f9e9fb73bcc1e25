use Rattle.std.proofs.Common.{◌≡◌, ◌++◌, ◌+◌, length, string_bytes, encode_utf8_all}
use Rattle.text_marker.proofs.contents.push_cut.Given as goal

-- the characters so far have been added, and so many may still be added
abbrev pub invariant-loop-c : goal.invariant-loop-c
invariant-loop-c l = (string_bytes l.out ≡ string_bytes l.fn.out ++ encode_utf8_all l.yielded) × (l.left + length l.yielded ≡ l.fn.left)
