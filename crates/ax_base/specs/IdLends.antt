-- What values by ids end as, where a reference to one of them is lent.
use Rattle.std.specs.Prelude.{◌≡◌, ℕ, List, Option}
use Rattle.std.specs.Borrow.{Fml, RattleType, MutBor, LendsSo}
use Rattle.std.specs.Ordering.{nat_cmp}
use Rattle.std.specs.Map.{set_value}
use Rattle.std.specs.BTreeMap.{is_at}
use Rattle.ax_base.specs.contracts.dense.Dense.{the_row as dense_row}
use Rattle.ax_base.specs.contracts.id_map.IdMap.{the_row}

module _ (V : RattleType) (s : MutBor (List (ℕ × V.Denot))) (id : ℕ) (r : Option (MutBor V.Denot)) where
  -- the id has the last value written through r, and at `None` nothing changes
  abbrev pub lends_dense : Fml
  lends_dense = LendsSo (dense_row V) V s r (λ n w. n ≡ set_value (is_at (nat_cmp id)) s.now w) (λ n. n ≡ s.now)

  -- the same
  abbrev pub lends_value : Fml
  lends_value = LendsSo (the_row V) V s r (λ n w. n ≡ set_value (is_at (nat_cmp id)) s.now w) (λ n. n ≡ s.now)
