-- What is above an object (DOM, section 1.1: ancestors).
use Rattle.std.specs.Prelude.{ℕ, zero, suc}
use Rattle.std.specs.Option.{option_map_or}
use Rattle.ax_record.specs.Tree.{Tree, parent_of}

-- the object so many levels above one; the last one there is where there are fewer
abbrev pub ancestor : Tree → ℕ → ℕ → ℕ
ancestor t zero n = n
ancestor t (suc levels) n = option_map_or (ancestor t levels) (parent_of t n) n

-- how many of the so many levels above an object have one
unfoldable pub depth_within : Tree → ℕ → ℕ → ℕ
depth_within t zero n = 0
depth_within t (suc levels) n = option_map_or (λ p. suc (depth_within t levels p)) (parent_of t n) 0

-- how many ancestors an object has, of which at most 128 are counted
abbrev pub depth : Tree → ℕ → ℕ
depth t n = depth_within t 128 n
