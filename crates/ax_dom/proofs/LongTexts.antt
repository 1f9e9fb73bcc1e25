-- A text has no more characters than bytes.
use Rattle.std.proofs.Common.{◌≡◌, ℕ, ◌≤◌, List, length, false, ap, arith}
use Rattle.std.specs.Str.{chars, IsUtf8}
use Rattle.std.proofs.lemmas.Bool.Decides.{nat_tests}
use Rattle.std.proofs.lemmas.Str.{encodes-chars, length-le-encodes}
use Rattle.ax_dom.specs.Refusals.{is_long_text}

pub short_text : (bytes : List ℕ) → IsUtf8 bytes → length bytes ≤ 65536 → false ≡ is_long_text bytes
short_text bytes valid short =
    let few = length-le-encodes (chars bytes) in
    let same = ap length (encodes-chars bytes valid) in
    grind (arith, nat_tests)
