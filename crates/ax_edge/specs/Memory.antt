-- What sources and sinks in memory are seen as, and what their calls do.
use Rattle.std.specs.Prelude.{◌≡◌, ℕ, ◌-◌, List, Result, MatchResult, length, take, ◌++◌, min}
use Rattle.ax_edge.specs.Causes.{one_more}

-- what is left, and the most bytes that a read gives
pub record Stream : Type 0 where
  pub left : List ℕ
  pub piece : ℕ

-- what is left, the most bytes that a read gives, the numbers of the reads that fail, the reads so far, the faults so far
pub record Feed : Type 0 where
  pub left : List ℕ
  pub piece : ℕ
  pub failing : List ℕ
  pub reads : ℕ
  pub faults : ℕ

-- what went out, how many bytes more there is room for, and the faults so far
pub record Tray : Type 0 where
  pub gone : List ℕ
  pub room : ℕ
  pub faults : ℕ

-- how many bytes a read gives: as many as are left, as a piece has, and as the buffer holds
abbrev pub given_count : List ℕ → ℕ → List ℕ → ℕ
given_count left piece buf = min (min (length left) piece) (length buf)

-- a write takes as much of the piece as there is room for; one that fails is counted, and all else stays
abbrev pub TakesPiece : {E : Type 0} → Tray → Tray → Result ℕ E → List ℕ → Type 0
TakesPiece old new result piece = MatchResult result
    (λ n. (n ≡ min (length piece) old.room)
    × (new ≡ record { gone = old.gone ++ take n piece; room = old.room - n; faults = old.faults }))
    (λ _. new ≡ record { gone = old.gone; room = old.room; faults = one_more old.faults })
