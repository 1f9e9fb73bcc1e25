-- Numbers of up to four digits.
use Rattle.std.proofs.Common.{◌≡◌, ℕ, ◌+◌, ◌*◌, ◌-◌, ◌<◌, ◌≤◌, ◌==◌, List, [], ◌∷◌, length, Bool, true, false, cond, ◌&&◌, not, refl, sym, ap, ◌∙◌, rules, arith}
use Rattle.std.specs.Prelude.{Result, Ok, Err, Some, None, nat_le, IfSome}
use Rattle.std.proofs.lemmas.Bool.Decides.{nat_tests}
use Rattle.std.specs.List.{list_all}
use Rattle.std.specs.Char.{is_ascii_digit}
use Rattle.std.specs.Str.Parse.{ParsesUnsigned}
use Rattle.std.proofs.lemmas.Str.Parse.{IsNumeralModel, numerals_by_fold, digits_value_short, parse_gives}
use Rattle.ax_base.specs.Characters.{Chars}
use Rattle.ax_base.specs.Values.{are_digits, number_after, number}
use Rattle.ax_session.specs.Command.{has_zero_in_front, at_most_thousand, count_of}

own : IsNumeralModel (λ ds. list_all is_ascii_digit ds ≡ true) (number_after 0)
own = numerals_by_fold _ (search rules) number_after (search rules)

and_parts : (x y : Bool) → (x && y) ≡ true → (x ≡ true) × (y ≡ true)
and_parts true y e = (refl, e)
and_parts false y e = cc

-- what is known of 1 to 4 digits
record Short (t : Chars) : Type 0 where
  digits : list_all is_ascii_digit t ≡ true
  some : 0 < length t
  few : length t ≤ 4

short : (t : Chars) → are_digits 4 t ≡ true → Short t
short t e =
    let first = and_parts (not (length t == 0)) (nat_le (length t) 4 && list_all is_ascii_digit t) e in
    let rest = and_parts (nat_le (length t) 4) (list_all is_ascii_digit t) first.1 in
    let there : not (length t == 0) ≡ true = first.0 in
    let low : nat_le (length t) 4 ≡ true = rest.0 in
    record { digits = rest.1; some = grind (arith, nat_tests, there); few = grind (arith, nat_tests, low) }

reads : {E : Type 0} (t : Chars) (r : Result ℕ E) → ParsesUnsigned 16 10 t r → are_digits 4 t ≡ true → r ≡ Ok (number t)
reads t r h e = let s = short t e in parse_gives own 16 t r h s.digits s.some (omega (arith, digits_value_short own t 4 s.digits s.few))

same_number : {E : Type 0} (r : Result ℕ E) (m n : ℕ) → r ≡ Ok m → r ≡ Ok n → m ≡ n
same_number r m n is same = cc

-- digits are always read
pub always_read : {E : Type 0} (t : Chars) (r : Result ℕ E) (x : E) → ParsesUnsigned 16 10 t r → are_digits 4 t ≡ true → r ≡ Err x → ⊥
always_read t r x h e bad = let is = reads t r h e in cc

-- a number does not fall as digits are read
rises : (cs : Chars) (n : ℕ) → n ≤ number_after n cs
rises [] n = omega arith
rises (c ∷ cs) n = let up = rises cs (n * 10 + (c - 48)) in omega arith

-- digits without a zero in front are a number from 1
positive : (t : Chars) → list_all is_ascii_digit t ≡ true → 0 < length t → has_zero_in_front t ≡ false → 1 ≤ number t
positive [] digits some front = absurd (omega arith)
positive (c ∷ cs) digits some front =
    let low : is_ascii_digit c ≡ true = (and_parts (is_ascii_digit c) (list_all is_ascii_digit cs) digits).0 in
    let up = rises cs (0 * 10 + (c - 48)) in
    let high : 49 ≤ c = grind (arith, nat_tests, low, front) in
    omega arith

-- the count that was read
pub count_read : {E : Type 0} (t : Chars) (r : Result ℕ E) (n : ℕ) → ParsesUnsigned 16 10 t r → are_digits 4 t ≡ true → has_zero_in_front t ≡ false → r ≡ Ok n → at_most_thousand n ≡ count_of t
count_read t r n h e front is =
    let both : (are_digits 4 t && not (has_zero_in_front t)) ≡ true = ap (λ x. x && not (has_zero_in_front t)) e ∙ ap not front in
    ap at_most_thousand (same_number r n (number t) is (reads t r h e)) ∙ sym (ap (λ x. cond x (at_most_thousand (number t)) None) both)

-- and it is from 1 to 1,000
pub in_range : {E : Type 0} (t : Chars) (r : Result ℕ E) (n : ℕ) → ParsesUnsigned 16 10 t r → are_digits 4 t ≡ true → has_zero_in_front t ≡ false → r ≡ Ok n → 1 ≤ n
in_range t r n h e front is =
    let s = short t e in
    let low = positive t s.digits s.some front in
    let same = same_number r n (number t) is (reads t r h e) in
    omega arith

pub bounded : (n : ℕ) → 1 ≤ n → IfSome (at_most_thousand n) (λ m. (1 ≤ m) × (m ≤ 1000))
bounded n low = through (nat_le n 1000) refl
  where
    through : (b : Bool) → nat_le n 1000 ≡ b → IfSome (cond b (Some n) None) (λ m. (1 ≤ m) × (m ≤ 1000))
    through true e = (low, grind (arith, nat_tests, e))
    through false e = tt
