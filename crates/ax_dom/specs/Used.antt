-- The ids that were ever inserted.
use Rattle.std.specs.Prelude.{ℕ, Bool}
use Rattle.std.specs.List.{list_any}
use Rattle.std.specs.Ordering.{nat_cmp}
use Rattle.std.specs.BTreeMap.{is_at}
use Rattle.ax_base.specs.Document.{Document}

-- whether an id was ever inserted
abbrev pub is_used : Document → ℕ → Bool
is_used d n = list_any (is_at (nat_cmp n)) d.used
