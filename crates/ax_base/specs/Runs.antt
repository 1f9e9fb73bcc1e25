-- The runs of a text: its pieces on lines, in order.
use Rattle.std.specs.Prelude.{◌≡◌, ℕ, Bool, true, ◌&&◌, ◌==◌, nat_lt, nat_le, List, [], ◌∷◌, length}
use Rattle.std.specs.Str.{chars}
use Rattle.ax_base.specs.declared.body.Body.{Body}
use Rattle.ax_base.specs.declared.body.Body.TheVariants.{Element, Words}
use Rattle.ax_base.specs.declared.rect.Run.{Run}

-- whether runs go on from a character and a line to the end of a text: each begins where the one before it ends,
-- has a character at least, and stands on no earlier line; the last ends at the end
abbrev pub go_on : ℕ → ℕ → ℕ → List Run → Bool
go_on end from line [] = from == end
go_on end from line (r ∷ rs) = (r.first == from && nat_lt r.first r.past && nat_le line r.line) && go_on end r.past r.line rs

-- whether a text of so many characters may have these runs: none, or runs from its start to its end
abbrev pub may_have_runs : ℕ → List Run → Bool
may_have_runs end [] = true
may_have_runs end (r ∷ rs) = go_on end 0 0 (r ∷ rs)

-- a text has runs that it may have
abbrev pub KeepsRuns : Body → Type 0
KeepsRuns (Words text runs) = may_have_runs (length (chars text)) runs ≡ true
KeepsRuns (Element tag attrs frame) = Unit {0}
