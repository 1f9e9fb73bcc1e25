-- Ids of which something may be told.
use Rattle.std.specs.Prelude.{◌≡◌, ◌⊎◌, ℕ, true, List, Contains}
use Rattle.ax_record.specs.Tree.{Tree, record_at, has_object, IsKid}
use Rattle.std.specs.List.Sorted.{IsStrictlyIncreasing}

-- The ids rise, have each object of the second tree whose record is not the one that it had, and with each object the one that it hangs on.
pub record AreCandidates (a b : Tree) (ns : List ℕ) : Type 0 where
  pub rising : IsStrictlyIncreasing ns
  -- an object that is not among them has the record that it had
  pub differ : (n : ℕ) → has_object b n ≡ true → Contains ns n ⊎ (record_at a n ≡ record_at b n)
  -- what such an object hangs on is among them too
  pub up : (p k : ℕ) → IsKid b p k → Contains ns k → Contains ns p
