use Rattle.std.proofs.Common.{◌≡◌, ◌+◌, ◌*◌, ◌++◌, take, string_bytes}
use Rattle.std.specs.List.{flat_map}
use Rattle.ax_session.specs.Texts.{lines_within}
use Rattle.ax_session.proofs.tree_text.+walk.Given as goal

abbrev pub decreases-push_object : goal.decreases-push_object
decreases-push_object l = 2 * l.levels

abbrev pub decreases-push_kids : goal.decreases-push_kids
decreases-push_kids l = 2 * l.levels + 1

-- the lines of the kids so far are out
abbrev pub invariant-push_kids-loop-kid : goal.invariant-push_kids-loop-kid
invariant-push_kids-loop-kid l = string_bytes l.out ≡ string_bytes l.fn.out ++ flat_map (lines_within l.tree l.levels) (take l.kid-index l.kids)
