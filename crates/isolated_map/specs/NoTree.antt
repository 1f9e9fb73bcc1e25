-- The tree that has nothing.
use Rattle.std.specs.Prelude.{[], None}
use Rattle.ax_record.specs.Tree.{Tree}

-- no objects
abbrev pub no_tree : Tree
no_tree = record { entries = []; focus = None }
