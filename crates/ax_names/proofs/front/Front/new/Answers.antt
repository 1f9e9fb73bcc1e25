use Rattle.std.proofs.Common.{◌∙◌, ◌≡◌, [], string_bytes, false, ap, arith}
use Rattle.std.specs.Fmt.{char_count}
use Rattle.ax_base.specs.Characters.{Chars}
use Rattle.ax_names.proofs.Openings.{with_words, count_nil, opening_nil}
use Rattle.ax_names.proofs.front.Front.new.Goals as goal

pub invariant_of-result : goal.invariant_of-result
invariant_of-result c = let none : string_bytes c.new.result ≡ [] = cc in (ap char_count none ∙ count_nil, omega arith)

pub returns : goal.returns
returns c = let none : string_bytes c.new.result ≡ [] = cc in ap (λ (w : Chars). with_words w false) none ∙ opening_nil
