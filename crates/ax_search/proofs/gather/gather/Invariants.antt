use Rattle.std.proofs.Common.{◌≡◌, ◌++◌, ◌-◌, IsTrue}
use Rattle.std.specs.Prelude.{IfSome}
use Rattle.ax_record.specs.Tree.{has_object}
use Rattle.ax_record.specs.Orders.{wanted_at}
use Rattle.ax_search.specs.Searches.{candidates, found_among}
use Rattle.ax_search.proofs.gather.gather.Given as goal

-- what is found, and what is found from there on within what is left of the limit, is the whole
abbrev pub invariant-loop : goal.invariant-loop
invariant-loop g l =
    (l.found ++ found_among (wanted_at (g.T.TreeView.tree l.t) (g.W.Wanted.wants l.wanted)) (candidates (g.T.TreeView.tree l.t) l.at l.backward) (l.limit - l.counter)
    ≡ found_among (wanted_at (g.T.TreeView.tree l.t) (g.W.Wanted.wants l.wanted)) (candidates (g.T.TreeView.tree l.t) l.fn.origin l.backward) l.limit)
    × IfSome l.at (λ n. IsTrue (has_object (g.T.TreeView.tree l.t) n))
