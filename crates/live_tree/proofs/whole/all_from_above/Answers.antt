use Rattle.std.proofs.Common.{◌≡◌, ap, ◌++◌, ◌∙◌}
use Rattle.ax_base.specs.Document.{order, root}
use Rattle.ax_dom.specs.Subtrees.{subtree}
use Rattle.live_tree.proofs.Everywhere.{all_there, all_known, all_closed}
use Rattle.live_tree.proofs.whole.all_from_above.Goals as goal

pub from_above-requires : goal.from_above-requires
from_above-requires g c =
    let d = c.args.dom.now in
    let is : c.as_slice.result.now ≡ order d = c.as_slice.ensures ∙ c.in_ok-push_below.ensures ∙ ap (λ l. l ++ subtree d root) c.new-all.ensures in
    record {
      tree = c.keeps_tree.ensures.tree;
      known = all_known d c.keeps_tree.ensures.tree c.as_slice.result.now is;
      closed = all_closed d c.keeps_tree.ensures.tree c.as_slice.result.now is;
    }

pub returns-clause-all : goal.returns-clause-all
returns-clause-all g c n there =
    let d = c.args.dom.now in
    let is : c.as_slice.result.now ≡ order d = c.as_slice.ensures ∙ c.in_ok-push_below.ensures ∙ ap (λ l. l ++ subtree d root) c.new-all.ensures in
    c.in_ok-down.ensures.same n ∙ all_there d c.keeps_tree.ensures.tree c.as_slice.result.now is n there
