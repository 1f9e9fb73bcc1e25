-- What comes after what is below an object.
use Rattle.std.specs.Prelude.{ℕ, List, length, drop}
use Rattle.std.specs.List.{flat_map}
use Rattle.ax_record.specs.Tree.{Tree, kids_of, preorder, objects_within}
use Rattle.ax_record.specs.Orders.{after}

-- the objects after an object in preorder that are not below it
abbrev pub past : Tree → ℕ → List ℕ
past t n = drop (length (flat_map (objects_within t 128) (kids_of t n))) (after n (preorder t))
