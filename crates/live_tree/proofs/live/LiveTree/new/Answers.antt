use Rattle.std.proofs.Common.{◌∙◌, ap, subst, sym}
use Rattle.ax_base.specs.Trees.{IsTree}
use Rattle.ax_record.specs.Records.{tree}
use Rattle.live_tree.specs.Living.{ArePassesOf}
use Rattle.live_tree.proofs.Flushing.{begins}
use Rattle.live_tree.proofs.live.LiveTree.new.Goals as goal

pub invariant_of-result : goal.invariant_of-result
invariant_of-result c =
    begins c.in_ok-flushed.flushed c.into_marked.result c.in_ok-passes.passes c.in_ok-dom.dom (subst IsTree c.document-2.ensures c.keeps_tree.ensures.tree)
    (c.in_ok-flushed.ensures ∙ c.in_ok-tree_of.ensures ∙ ap tree (sym c.in_ok-dom.ensures)) c.into_marked.ensures (subst (λ d. ArePassesOf d c.in_ok-passes.passes) c.document.ensures c.in_ok-passes.ensures)
