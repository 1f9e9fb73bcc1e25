-- The objects that are gone, found by going down what hung on an object.
use Rattle.std.specs.Prelude.{ℕ, Bool, if◌then◌else◌, List, [], ◌∷◌, flat_map}
use Rattle.ax_base.specs.Recursion.{from_below}
use Rattle.ax_base.specs.Document.{Document, has}
use Rattle.ax_record.specs.Tree.{Tree, kids_of}

-- an object, and whether the document still has its node
pub record Still : Type 0 where
  pub id : ℕ
  pub there : Bool

abbrev pub still : Document → ℕ → Still
still now n = record { id = n; there = has now n }

-- a kid that is there gives nothing, one that is gone gives itself and what it gives
abbrev pub lost_from : Still → List (Still × List ℕ) → List ℕ
lost_from n below = flat_map (λ (c : Still × List ℕ). if c.0.there then [] else c.0.id ∷ c.1) below

-- the objects that are gone and hung on an object, or on others that are gone and did, at most so many levels down
abbrev pub lost_within : Tree → Document → ℕ → ℕ → List ℕ
lost_within before now levels n = from_below lost_from (still now) (kids_of before) levels n

-- the objects that are gone and hung on an object, or on others that are gone and did; no object is deeper than 128 levels
abbrev pub lost : Tree → Document → ℕ → List ℕ
lost before now n = lost_within before now 128 n

-- what a kid gives: nothing where its node is there, else itself and what it gives
abbrev pub given_within : Tree → Document → ℕ → ℕ → List ℕ
given_within before now levels k = if has now k then [] else k ∷ lost_within before now levels k
