-- Where two lists differ.
use Rattle.std.specs.Prelude.{◌≡◌, ℕ, ◌≤◌, List, length, take, drop, Contains}

-- The elements of a list before one place are the first of another list, and those from another place on are in it too.
pub record AreSharedBut (start end : ℕ) (ids others : List ℕ) : Type 0 where
  pub order : start ≤ end
  pub within : end ≤ length ids
  pub front : take start ids ≡ take start others
  pub after : (n : ℕ) → Contains (drop end ids) n → Contains others n
