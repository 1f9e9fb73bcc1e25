-- Sets of ids: the small ones by marks, and the others behind them.
use Rattle.std.specs.Prelude.{◌≡◌, ℕ, ◌<◌, ◌≤◌, Bool, true, false, List, map, Option, Some, None, slice_index_or}
use Rattle.std.specs.List.{AllByRecursion}
use Rattle.std.specs.Map.{keys_of}
use Rattle.ax_base.specs.IdMaps.{filled_from}
use Rattle.ax_base.specs.declared.limits.TheConstants.{NEAR_IDS}

-- what stands at a place with a mark, and at one without
abbrev pub mark_of : Bool → Option (Unit {0})
mark_of true = Some tt
mark_of false = None

-- the ids that are marked, where the first mark is that of the id 0
abbrev pub marked : List Bool → List ℕ
marked marks = keys_of (filled_from 0 (map mark_of marks))

-- each id has the same mark
abbrev pub SameMarks : List Bool → List Bool → Type 0
SameMarks old new = (q : ℕ) → slice_index_or (map mark_of new) q None ≡ slice_index_or (map mark_of old) q None

-- the first ids are small, and the others are not
pub record AreApart (near far : List ℕ) : Type 0 where
  pub below : AllByRecursion (λ k. k < NEAR_IDS) near
  pub above : AllByRecursion (λ k. NEAR_IDS ≤ k) far
