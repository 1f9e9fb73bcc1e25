-- Numbers of up to three digits.
use Rattle.std.proofs.Common.{◌≡◌, ℕ, ◌<◌, ◌≤◌, ◌==◌, length, Bool, true, false, cond, ◌&&◌, not, refl, sym, ap, ◌∙◌, rules, arith}
use Rattle.std.specs.Prelude.{Result, Ok, Err, None, nat_le}
use Rattle.std.proofs.lemmas.Bool.Decides.{nat_tests}
use Rattle.std.specs.List.{list_all}
use Rattle.std.specs.Char.{is_ascii_digit}
use Rattle.std.specs.Str.Parse.{ParsesUnsigned}
use Rattle.std.proofs.lemmas.Str.Parse.{IsNumeralModel, numerals_by_fold, digits_value_short, parse_gives}
use Rattle.ax_base.specs.Characters.{Chars}
use Rattle.ax_base.specs.Values.{are_digits, number_after, number}
use Rattle.ax_base.specs.States.{at_least_one, level_number}

own : IsNumeralModel (λ ds. list_all is_ascii_digit ds ≡ true) (number_after 0)
own = numerals_by_fold _ (search rules) number_after (search rules)

-- what a number of up to three digits is read as
pub read_as : {E : Type 0} (t : Chars) (r : Result ℕ E) → ParsesUnsigned 16 10 t r → list_all is_ascii_digit t ≡ true → 0 < length t → length t ≤ 3 → r ≡ Ok (number t)
read_as t r h digits some few = parse_gives own 16 t r h digits some (omega (arith, digits_value_short own t 3 digits few))

and_parts : (x y : Bool) → (x && y) ≡ true → (x ≡ true) × (y ≡ true)
and_parts true y e = (refl, e)
and_parts false y e = cc

-- what is known of 1 to 3 digits
record Short (t : Chars) : Type 0 where
  digits : list_all is_ascii_digit t ≡ true
  some : 0 < length t
  few : length t ≤ 3

short : (t : Chars) → are_digits 3 t ≡ true → Short t
short t e =
    let first = and_parts (not (length t == 0)) (nat_le (length t) 3 && list_all is_ascii_digit t) e in
    let rest = and_parts (nat_le (length t) 3) (list_all is_ascii_digit t) first.1 in
    let there : not (length t == 0) ≡ true = first.0 in
    let low : nat_le (length t) 3 ≡ true = rest.0 in
    record { digits = rest.1; some = grind (arith, nat_tests, there); few = grind (arith, nat_tests, low) }

reads : {E : Type 0} (t : Chars) (r : Result ℕ E) → ParsesUnsigned 16 10 t r → are_digits 3 t ≡ true → r ≡ Ok (number t)
reads t r h e = let s = short t e in read_as t r h s.digits s.some s.few

same_number : {E : Type 0} (r : Result ℕ E) (m n : ℕ) → r ≡ Ok m → r ≡ Ok n → m ≡ n
same_number r m n is same = cc

-- the level that was read
pub level_read : {E : Type 0} (t : Chars) (r : Result ℕ E) (n : ℕ) → ParsesUnsigned 16 10 t r → are_digits 3 t ≡ true → r ≡ Ok n → at_least_one n ≡ level_number t
level_read t r n h e is =
    ap at_least_one (same_number r n (number t) is (reads t r h e)) ∙ sym (ap (λ x. cond x (at_least_one (number t)) None) e)

no_error : {E : Type 0} (r : Result ℕ E) (n : ℕ) (x : E) → r ≡ Ok n → r ≡ Err x → ⊥
no_error r n x is bad = cc

-- digits are always read
pub always_read : {E : Type 0} (t : Chars) (r : Result ℕ E) (x : E) → ParsesUnsigned 16 10 t r → are_digits 3 t ≡ true → r ≡ Err x → ⊥
always_read t r x h e bad = no_error r (number t) x (reads t r h e) bad
