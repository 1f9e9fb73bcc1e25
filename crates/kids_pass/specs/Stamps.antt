-- Stamps: numbers by id, which are compared with a current one.
use Rattle.std.specs.Prelude.{◌≡◌, ◌≤◌, ◌<◌, ℕ, List, slice_index_or}

-- the stamps by id, and the current one
pub record Stamps : Type 0 where
  pub given : List ℕ
  pub current : ℕ

-- a node has the current stamp
abbrev pub IsCurrent : Stamps → ℕ → Type 0
IsCurrent s n = slice_index_or s.given n 0 ≡ s.current

-- no stamp is above the current one, and 0, which stands for none, is below it
pub record AreStampsRight (given : List ℕ) (current : ℕ) : Type 0 where
  pub some : 0 < current
  pub most : (n : ℕ) → slice_index_or given n 0 ≤ current
