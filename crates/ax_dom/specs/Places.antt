-- Where a child is put (DOM, section 4.2.3: insert).
use Rattle.std.specs.Prelude.{ℕ, not, ◌==◌, if◌then◌else◌, filter, List, [], ◌∷◌, ◌++◌, Option, Some, None}

-- a list with an id before the first that is b, or at the end
abbrev pub placed_before : ℕ → ℕ → List ℕ → List ℕ
placed_before b id [] = id ∷ []
placed_before b id (x ∷ xs) = if x == b then id ∷ x ∷ xs else x ∷ placed_before b id xs

-- a list with an id before another, or at the end where none is given
abbrev pub placed : Option ℕ → ℕ → List ℕ → List ℕ
placed None id xs = xs ++ id ∷ []
placed (Some b) id xs = placed_before b id xs

-- a list without an id
abbrev pub without : ℕ → List ℕ → List ℕ
without n xs = filter (λ x. not (x == n)) xs
