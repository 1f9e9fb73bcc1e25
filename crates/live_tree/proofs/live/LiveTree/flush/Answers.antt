use Rattle.std.proofs.Common.{subst}
use Rattle.ax_base.specs.Trees.{IsTree}
use Rattle.live_tree.proofs.Flushing.{right_but, flush_read}
use Rattle.live_tree.proofs.live.LiveTree.flush.Goals as goal

pub renewed-requires : goal.renewed-requires
renewed-requires g c = record {
  right = right_but c.self.inside.flushed c.self.inside.dom c.self.inside.passes c.self.invariant c.in_ok-dom.dom c.in_ok-dom.ensures.document (subst IsTree c.document.ensures c.keeps_tree.ensures.tree) c.in_ok-dom.reach
      c.in_ok-dom.ensures.reach;
}

pub returns-in_err-flushed-clause-counted : goal.returns-in_err-flushed-clause-counted
returns-in_err-flushed-clause-counted g c =
    flush_read c.self.inside.dom c.args.self c.self.inside.flushed c.self.view_is c.in_ok-dom.reach c.in_ok-dom.ensures.reach _ _ _ c.in_ok-dom.ensures.counted c.in_err-flushed.ensures.counted

pub returns-clause-counted : goal.returns-clause-counted
returns-clause-counted g c =
    flush_read c.self.inside.dom c.args.self c.self.inside.flushed c.self.view_is c.in_ok-dom.reach c.in_ok-dom.ensures.reach _ _ _ c.in_ok-dom.ensures.counted c.in_ok-flushed.ensures.counted
