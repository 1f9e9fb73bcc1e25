-- Values by ids: those of small ids in a list of places, and the others behind them.
use Rattle.std.specs.Prelude.{◌≡◌, ℕ, ◌+◌, ◌<◌, ◌≤◌, List, [], ◌∷◌, map, Option, Some, None, slice_index_or}
use Rattle.std.specs.Borrow.{Fml, RattleType, MutBor, LendsIf}
use Rattle.std.specs.Box.{with_value}
use Rattle.std.specs.List.{AllByRecursion}
use Rattle.std.specs.Map.{keys_of}
use Rattle.ax_base.specs.declared.dense.Place.{Place}
use Rattle.ax_base.specs.declared.dense.Place.TheVariants.{Empty, Full}
use Rattle.ax_base.specs.contracts.dense.Place.{the_row}
use Rattle.ax_base.specs.declared.limits.TheConstants.{NEAR_IDS}

module _ {V : Type 0} where
  -- the value of a place
  abbrev pub value_of : Place V → Option V
  value_of Empty = None
  value_of (Full value) = Some value.value

  -- the values of some places with their ids, where the first place is that of the id k
  abbrev pub filled_from : ℕ → List (Option V) → List (ℕ × V)
  filled_from k [] = []
  filled_from k (None ∷ rest) = filled_from (k + 1) rest
  filled_from k (Some v ∷ rest) = (k, v) ∷ filled_from (k + 1) rest

  -- at each id is the same
  abbrev pub SamePlaces : List (Place V) → List (Place V) → Type 0
  SamePlaces old new = (q : ℕ) → slice_index_or (map value_of new) q None ≡ slice_index_or (map value_of old) q None

  -- the ids of the first entries are small, and no others are
  pub record IsSplit (near far : List (ℕ × V)) : Type 0 where
    pub below : AllByRecursion (λ k. k < NEAR_IDS) (keys_of near)
    pub above : AllByRecursion (λ k. NEAR_IDS ≤ k) (keys_of far)

-- a place with w as its value, if it has one
abbrev pub written : {V : Type 0} → Place V → V → Place V
written Empty w = Empty
written (Full value) w = Full (with_value value w)

-- a place has the last value written through r
abbrev pub LendsPlace : (V : RattleType) → MutBor (Place V.Denot) → Option (MutBor V.Denot) → Fml
LendsPlace V s r = LendsIf (the_row V) V s r (written s.now) s.now
