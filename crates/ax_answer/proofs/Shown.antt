-- The children that are told.
use Rattle.std.proofs.Common.{◌≡◌, ℕ, ◌-◌, ◌≤◌, min, List, length, take, drop, Bool, true, false, refl, sym, ap, ◌∙◌, arith}
use Rattle.std.specs.Prelude.{nat_le}
use Rattle.std.proofs.lemmas.List.{take_all, drop_min, length-drop}
use Rattle.std.proofs.lemmas.Bool.Decides.{nat_tests}

-- no more than there are
take_most : (n : ℕ) (xs : List ℕ) → take (min (length xs) n) xs ≡ take n xs
take_most n xs = through (nat_le n (length xs)) refl
  where
    through : (b : Bool) → nat_le n (length xs) ≡ b → take (min (length xs) n) xs ≡ take n xs
    through true e = let h : n ≤ length xs = grind (arith, nat_tests) in let f : min (length xs) n ≡ n = omega arith in ap (λ k. take k xs) f
    through false e = let h : length xs ≤ n = grind (arith, nat_tests) in let f : min (length xs) n ≡ length xs = omega arith in ap (λ k. take k xs) f ∙ (take_all (length xs) xs (omega arith) ∙ sym (take_all n xs h))

-- from a place on, and then so many
pub shown_from : (xs : List ℕ) (from start n shown : ℕ) → start ≡ min (length xs) from → shown ≡ min (length (take (length xs - start) (drop start xs))) n → take shown (take (length xs - start) (drop start xs)) ≡ take n (drop from xs)
shown_from xs from start n shown e g =
    let c : min (length xs) from ≡ min from (length xs) = omega arith in
    let all = take_all (length xs - start) (drop start xs) (let h = length-drop start xs in omega arith) in
    let whole = all ∙ (ap (λ k. drop k xs) (e ∙ c) ∙ drop_min from xs) in
    ap (λ k. take k (take (length xs - start) (drop start xs))) g ∙ (take_most n _ ∙ ap (take n) whole)
