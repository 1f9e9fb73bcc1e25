-- Going over the stops before a target.
use Rattle.std.proofs.Common.{◌≡◌, ℕ, ◌+◌, ◌<◌, List, [], ◌∷◌, length, Bool, false, cond, sym, ap, ◌∙◌, arith, length-append, chars}
use Rattle.std.specs.Prelude.{find, Some, None}
use Rattle.std.specs.List.{concat}
use Rattle.text_marker.specs.Stops.{stops_from}
use Rattle.text_marker.proofs.Sizes.{chars_at_most}

-- one more piece is passed
pub go_step : (target at : ℕ) (p : List ℕ) (pieces ps : List (List ℕ)) (count : ℕ) (q : ℕ → Bool) → ((s : ℕ) → s < target → q s ≡ false) → at < target → pieces ≡ p ∷ ps → count ≡ length (chars p)
    → find q (stops_from at pieces) ≡ find q (stops_from (at + count) ps)
go_step target at p pieces ps count q fails low is e =
    ap (λ l. find q (stops_from at l)) is ∙ ap (λ b. cond b (Some at) (find q (stops_from (at + length (chars p)) ps))) (fails at low) ∙ ap (λ n. find q (stops_from (at + n) ps)) (sym e)

-- no piece is left
pub go_end : (target at : ℕ) (pieces : List (List ℕ)) (q : ℕ → Bool) → ((s : ℕ) → s < target → q s ≡ false) → at < target → pieces ≡ [] → find q (stops_from at pieces) ≡ None
go_end target at pieces q fails low is = ap (λ l. find q (stops_from at l)) is ∙ ap (λ b. cond b (Some at) None) (fails at low)

-- what is passed, with one more piece, still fits
pub go_fits : (at : ℕ) (p : List ℕ) (pieces ps : List (List ℕ)) (count most : ℕ) → pieces ≡ p ∷ ps → count ≡ length (chars p) → at + length (concat pieces) < most → (at + count) + length (concat ps) < most
go_fits at p pieces ps count most is e fits =
    let all = ap (λ l. length (concat l)) is ∙ length-append p (concat ps) in
    let few = chars_at_most p in
    omega arith

pub piece_fits : (at : ℕ) (p : List ℕ) (pieces ps : List (List ℕ)) (most : ℕ) → pieces ≡ p ∷ ps → at + length (concat pieces) < most → length p < most
piece_fits at p pieces ps most is fits =
    let all = ap (λ l. length (concat l)) is ∙ length-append p (concat ps) in
    omega arith
