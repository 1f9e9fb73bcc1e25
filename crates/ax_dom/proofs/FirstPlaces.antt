-- Where an id stands first.
use Rattle.std.proofs.Common.{◌≡◌, ℕ, zero, suc, ◌<◌, ◌≤◌, ◌==◌, List, [], ◌∷◌, false, cond, length, take, refl, sym, ap, ◌∙◌, arith, eqb}
use Rattle.std.specs.Prelude.{slice_index}
use Rattle.std.specs.List.{list_any, insert}
use Rattle.std.proofs.lemmas.Bool.{eq-eqb, or_parts}
use Rattle.ax_dom.specs.Places.{placed_before}

-- at the first place of b, or at the end where it is not there, an id is put before b
pub put_before : (b id : ℕ) (xs : List ℕ) (i : ℕ) → i ≤ length xs → list_any (λ x. x == b) (take i xs) ≡ false → (i < length xs → slice_index xs i ≡ b) → insert xs i id ≡ placed_before b id xs
put_before b id [] zero low none here = refl
put_before b id [] (suc i) low none here = absurd (omega arith)
put_before b id (x ∷ xs) zero low none here = sym (ap (λ t. cond t (id ∷ x ∷ xs) (x ∷ placed_before b id xs)) (eq-eqb x b (here (omega arith))))
put_before b id (x ∷ xs) (suc i) low none here =
    let parts = or_parts (eqb x b) (list_any (λ x. x == b) (take i xs)) none in
    ap (λ l. x ∷ l) (put_before b id xs i (omega arith) parts.1 (λ less. here (omega arith))) ∙ sym (ap (λ t. cond t (id ∷ x ∷ xs) (x ∷ placed_before b id xs)) parts.0)
