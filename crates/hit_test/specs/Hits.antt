-- The object at a point (this project's own; CSSOM View Module, section 5: elementFromPoint, without layers).
use Rattle.std.specs.Prelude.{ℕ, ℤ, find, Option, reverse}
use Rattle.ax_base.specs.Rects.{holds_point}
use Rattle.ax_record.specs.Tree.{Tree, preorder}
use Rattle.ax_record.specs.Orders.{wanted_at}

-- the last object in preorder whose frame holds the point
abbrev pub hit : Tree → ℤ → ℤ → Option ℕ
hit t x y = find (wanted_at t (λ r. holds_point r.frame x y)) (reverse (preorder t))
