-- Objects in preorder (DOM, section 1.1: tree order), and what comes before and after one.
use Rattle.std.specs.Prelude.{ℕ, zero, suc, Bool, false, if◌then◌else◌, ◌==◌, List, [], ◌∷◌, reverse}
use Rattle.std.specs.List.{flat_map}
use Rattle.std.specs.Option.{option_map_or}
use Rattle.ax_record.specs.declared.record.Record.{Record}
use Rattle.ax_record.specs.Tree.{Tree, record_at, objects_within}

-- whether the object of an id is wanted; none of an unknown id is
abbrev pub wanted_at : Tree → (Record → Bool) → ℕ → Bool
wanted_at t wants n = option_map_or wants (record_at t n) false

-- what comes after x in a list; nothing where the list lacks it
abbrev pub after : ℕ → List ℕ → List ℕ
after x [] = []
after x (y ∷ ys) = if y == x then ys else after x ys

-- what comes before x in a list; all of it where the list lacks it
abbrev pub before : ℕ → List ℕ → List ℕ
before x [] = []
before x (y ∷ ys) = if y == x then [] else y ∷ before x ys

-- an object and those at most so many levels below it, in the reverse of the preorder
abbrev pub back_within : Tree → ℕ → ℕ → List ℕ
back_within t levels n = reverse (objects_within t levels n)

-- some objects and those below them, where so many levels are left for both, in the reverse of the preorder
abbrev pub back_below : Tree → ℕ → List ℕ → List ℕ
back_below t zero ks = []
back_below t (suc levels) ks = flat_map (back_within t levels) (reverse ks)
