use Rattle.std.proofs.Common.{◌≡◌, ◌++◌, string_bytes, take}
use Rattle.ax_ask.specs.Numbers.{all_spaced}
use Rattle.ax_ask.proofs.numbers.push_ids.Given as goal

abbrev pub invariant-loop-id : goal.invariant-loop-id
invariant-loop-id l = string_bytes l.out ≡ string_bytes l.fn.out ++ all_spaced (take l.id-index l.ids)
