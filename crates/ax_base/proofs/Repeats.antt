-- Lists in which nothing stands twice.
use Rattle.std.proofs.Common.{◌≡◌, ℕ, zero, suc, List, [], ◌∷◌, Contains, refl, sym, ap, ◌∙◌, arith}
use Rattle.std.proofs.lemmas.List.{get_or_default}
use Rattle.ax_base.specs.Trees.{HasNoRepeats}

pub no_repeats-nil : HasNoRepeats []
no_repeats-nil i j low high same = absurd (omega arith)

-- the head is not among the others
pub head_apart : (x : ℕ) (xs : List ℕ) → HasNoRepeats (x ∷ xs) → Contains xs x → ⊥
head_apart x xs once (k, low, is) =
    let wrong : zero ≡ suc k = once zero (suc k) (omega arith) (omega arith) (sym is ∙ get_or_default xs k x 0 low) in
    omega arith

pub tail_no_repeats : (x : ℕ) (xs : List ℕ) → HasNoRepeats (x ∷ xs) → HasNoRepeats xs
tail_no_repeats x xs once i j low high same =
    let next : suc i ≡ suc j = once (suc i) (suc j) (omega arith) (omega arith) same in
    omega arith

pub no_repeats-cons : (x : ℕ) (xs : List ℕ) → (Contains xs x → ⊥) → HasNoRepeats xs → HasNoRepeats (x ∷ xs)
no_repeats-cons x xs apart once zero zero low high same = refl
no_repeats-cons x xs apart once zero (suc j) low high same = absurd (apart (j, omega arith, get_or_default xs j x 0 (omega arith) ∙ sym same))
no_repeats-cons x xs apart once (suc i) zero low high same = absurd (apart (i, omega arith, get_or_default xs i x 0 (omega arith) ∙ same))
no_repeats-cons x xs apart once (suc i) (suc j) low high same = ap suc (once i j (omega arith) (omega arith) same)
