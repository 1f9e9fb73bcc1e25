use Rattle.std.proofs.Common.{◌≡◌, true, ◌∙◌, sym, ap, rules}
use Rattle.ax_base.specs.Values.{are_digits}
use Rattle.ax_states.proofs.Numbers.{level_read, always_read}
use Rattle.ax_states.proofs.levels.level_number.Goals as goal

pub returns-in-Ok : goal.returns-in-Ok
returns-in-Ok c =
    let held : c.are_digits.result ≡ true = search rules in
    let digits : are_digits 3 c.args.text.now ≡ true = ap (are_digits 3) (sym c.as_bytes.ensures.value) ∙ sym c.are_digits.ensures ∙ held in
    c.at_least_one.ensures ∙ level_read c.args.text.now c.parse.result c.in-Ok.level c.parse.ensures.value.0 digits c.in-Ok.is

pub returns-in-Err : goal.returns-in-Err
returns-in-Err c =
    let held : c.are_digits.result ≡ true = search rules in
    let digits : are_digits 3 c.args.text.now ≡ true = ap (are_digits 3) (sym c.as_bytes.ensures.value) ∙ sym c.are_digits.ensures ∙ held in
    absurd (always_read c.args.text.now c.parse.result c.in-Err.field-0 c.parse.ensures.value.0 digits c.in-Err.is)
