-- What is written one piece after another.
use Rattle.std.proofs.Common.{◌≡◌, ℕ, List, ◌++◌, ap, ◌∙◌, append_assoc}

-- one more piece after those that were written
pub one_more : (old mid new written piece : List ℕ) → mid ≡ old ++ written → new ≡ mid ++ piece → new ≡ old ++ (written ++ piece)
one_more old mid new written piece e f = f ∙ ap (λ l. l ++ piece) e ∙ append_assoc old written piece

-- two pieces with a gap, after a label
pub with_gap : (old mid new label first gap second : List ℕ) → mid ≡ old ++ (label ++ first) → new ≡ mid ++ (gap ++ second)
    → new ≡ old ++ (label ++ (first ++ gap ++ second))
with_gap old mid new label first gap second e f = f ∙ ap (λ l. l ++ (gap ++ second)) e ∙ simp append_assoc
