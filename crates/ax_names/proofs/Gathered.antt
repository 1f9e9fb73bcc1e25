-- What is gathered of what tokens refer to, one after another.
use Rattle.std.proofs.Common.{◌≡◌, ℕ, zero, suc, ◌+◌, ◌-◌, ◌<◌, ◌≤◌, List, [], ◌∷◌, ◌++◌, take, map, sym, ap, refl, ◌∙◌, arith, append_assoc, append-nil}
use Rattle.ax_base.specs.Characters.{Chars, tokens}
use Rattle.ax_names.specs.Pieces.{all_apart}

-- what so many of some tokens say, each behind a space
abbrev pub apart : (Chars → Chars) → ℕ → List Chars → Chars
apart say most ts = all_apart (map say (take most ts))

-- what is gathered is that of the tokens so far, and those that are left make it whole
pub record IsGatheredSoFar {G : Type 0} (of : Chars → G) (say : Chars → Chars) (text rest : Chars) (k : ℕ) (kept : G) : Type 0 where
  pub done : Chars
  pub same : kept ≡ of done
  pub whole : done ++ apart say (8 - k) (tokens rest) ≡ apart say 8 (tokens text)

pub nothing_yet : {G : Type 0} (of : Chars → G) (say : Chars → Chars) (text : Chars) (kept : G) → kept ≡ of [] → IsGatheredSoFar of say text text 0 kept
nothing_yet of say text kept is = record { done = []; same = is; whole = refl }

-- where no token is left, nor where eight were read, all is done
none_left : {G : Type 0} (of : Chars → G) (say : Chars → Chars) (text rest : Chars) (k : ℕ) (kept : G) → IsGatheredSoFar of say text rest k kept → apart say (8 - k) (tokens rest) ≡ []
    → kept ≡ of (apart say 8 (tokens text))
none_left of say text rest k kept so_far out = so_far.same ∙ ap of (sym (ap (λ l. so_far.done ++ l) out ∙ append-nil so_far.done) ∙ so_far.whole)

take_none : (say : Chars → Chars) (n : ℕ) → apart say n [] ≡ []
take_none say zero = refl
take_none say (suc m) = refl

pub all_gathered : {G : Type 0} (of : Chars → G) (say : Chars → Chars) (text rest : Chars) (k : ℕ) (kept : G) → IsGatheredSoFar of say text rest k kept → tokens rest ≡ []
    → kept ≡ of (apart say 8 (tokens text))
all_gathered of say text rest k kept so_far out = none_left of say text rest k kept so_far (ap (apart say (8 - k)) out ∙ take_none say (8 - k))

pub eight_gathered : {G : Type 0} (of : Chars → G) (say : Chars → Chars) (text rest : Chars) (k : ℕ) (kept : G) → IsGatheredSoFar of say text rest k kept → 8 ≤ k → kept ≡ of (apart say 8 (tokens text))
eight_gathered of say text rest k kept so_far many = let none : 8 - k ≡ 0 = omega arith in none_left of say text rest k kept so_far (ap (λ n. apart say n (tokens rest)) none)

-- one more token
pub one_gathered : {G : Type 0} (of : Chars → G) (say : Chars → Chars) (text rest token after : Chars) (k : ℕ) (old new : G) → IsGatheredSoFar of say text rest k old → k < 8 → tokens rest ≡ token ∷ tokens after
    → ((before : Chars) → old ≡ of before → new ≡ of (before ++ 32 ∷ say token)) → IsGatheredSoFar of say text after (k + 1) new
one_gathered of say text rest token after k old new so_far low is added =
    let more : Chars = 32 ∷ say token in
    let rest_is : 8 - k ≡ suc (8 - (k + 1)) = omega arith in
    let given : apart say (8 - k) (tokens rest) ≡ more ++ apart say (8 - (k + 1)) (tokens after) = (λ i. apart say (rest_is i) (is i)) in
    record {
      done = so_far.done ++ more;
      same = added so_far.done so_far.same;
      whole = append_assoc so_far.done more (apart say (8 - (k + 1)) (tokens after)) ∙ ap (λ l. so_far.done ++ l) (sym given) ∙ so_far.whole;
    }
