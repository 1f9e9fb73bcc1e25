use Rattle.std.proofs.Common.{subst, sym, ap, ◌∙◌}
use Rattle.ax_batch.specs.Batches.{batch_between}
use Rattle.ax_record.specs.Records.{tree}
use Rattle.dom_ids.specs.Index.{IsIndexOf}
use Rattle.live_tree.specs.Living.{IsRightBut}
use Rattle.live_tree.proofs.Flushing.{listed_known, listed_closed, others_but, in_order, is_present, was_but, order_read, passes_read, all_read}
use Rattle.live_tree.proofs.Turning.{at_both}
use Rattle.live_tree.proofs.live.renewed.Goals as goal

pub from_above-requires : goal.from_above-requires
from_above-requires g c =
    let right = subst (λ d. IsRightBut c.args.kept d c.args.passes c.args.reach.now) (sym c.document-now.ensures) c.requires.right in
    record {
      tree = c.keeps_tree.ensures.tree;
      known = listed_known c.args.kept c.document-now.result.now c.args.passes c.args.reach.now right c.as_slice-nodes.result.now c.as_slice-nodes.ensures;
      closed = listed_closed c.args.kept c.document-now.result.now c.args.passes c.args.reach.now right c.as_slice-nodes.result.now c.as_slice-nodes.ensures;
    }

pub returns-in_err-order-clause-counted : goal.returns-in_err-order-clause-counted
returns-in_err-order-clause-counted g c = order_read c.args.reach.now c.as_slice-nodes.result.now _ _ c.as_slice-nodes.ensures c.in_err-order.ensures.counted

pub renew-requires : goal.renew-requires
renew-requires g c =
    let right = subst (λ d. IsRightBut c.args.kept d c.args.passes c.args.reach.now) (sym c.document-now.ensures) c.requires.right in
    let ordered = in_order c.args.kept c.document-now.result.now c.args.passes c.args.reach.now right c.as_slice-nodes.result.now c.as_slice-nodes.ensures c.in_ok-order.order c.as_slice-down.result.now c.as_slice-down.ensures c.in_ok-order.ensures.same c.in_ok-order.ensures.order c.in_ok-order.ensures.few in
    record {
      ids = subst (λ d. IsIndexOf d c.index.result.now) (sym c.document-now.ensures) c.index.ensures;
      order = ordered.order;
      others = others_but c.args.kept c.document-now.result.now c.args.passes c.args.reach.now right c.as_slice-nodes.result.now c.as_slice-nodes.ensures c.in_ok-order.order c.as_slice-down.result.now c.as_slice-down.ensures c.in_ok-order.ensures.same;
    }

pub returns-in_err-passes-clause-counted : goal.returns-in_err-passes-clause-counted
returns-in_err-passes-clause-counted g c =
    passes_read c.args.reach.now c.as_slice-nodes.result.now c.in_ok-order.order c.as_slice-down.result.now _ _ _ c.as_slice-nodes.ensures c.as_slice-down.ensures c.in_ok-order.ensures.few c.in_ok-order.ensures.counted c.in_err-passes.ensures.counted

pub renewed_tree-requires : goal.renewed_tree-requires
renewed_tree-requires g c =
    let right = subst (λ d. IsRightBut c.args.kept d c.args.passes c.args.reach.now) (sym c.document-now.ensures) c.requires.right in
    record {
      present = is_present c.args.kept c.document-now.result.now c.args.passes c.args.reach.now right c.as_slice-nodes.result.now c.as_slice-nodes.ensures c.keeps_tree.ensures.tree c.in_ok-passes.passes c.in_ok-passes.ensures.value;
      order = in_order c.args.kept c.document-now.result.now c.args.passes c.args.reach.now right c.as_slice-nodes.result.now c.as_slice-nodes.ensures c.in_ok-order.order c.as_slice-down.result.now c.as_slice-down.ensures c.in_ok-order.ensures.same c.in_ok-order.ensures.order c.in_ok-order.ensures.few;
      was = was_but c.args.kept c.document-now.result.now c.args.passes c.args.reach.now right c.as_slice-nodes.result.now c.as_slice-nodes.ensures;
    }

pub returns-in_err-tree-clause-counted : goal.returns-in_err-tree-clause-counted
returns-in_err-tree-clause-counted g c =
    all_read c.args.reach.now c.as_slice-nodes.result.now c.in_ok-order.order c.as_slice-down.result.now _ _ _ _ c.as_slice-nodes.ensures c.as_slice-down.ensures c.in_ok-order.ensures.few c.in_ok-order.ensures.counted c.in_ok-passes.ensures.counted c.in_err-tree.ensures.counted

pub returns-in_err-sent-clause-counted : goal.returns-in_err-sent-clause-counted
returns-in_err-sent-clause-counted g c =
    all_read c.args.reach.now c.as_slice-nodes.result.now c.in_ok-order.order c.as_slice-down.result.now _ _ _ _ c.as_slice-nodes.ensures c.as_slice-down.ensures c.in_ok-order.ensures.few c.in_ok-order.ensures.counted c.in_ok-passes.ensures.counted c.in_ok-tree.ensures.counted

pub returns-in_err-settled-clause-counted : goal.returns-in_err-settled-clause-counted
returns-in_err-settled-clause-counted g c =
    all_read c.args.reach.now c.as_slice-nodes.result.now c.in_ok-order.order c.as_slice-down.result.now _ _ _ _ c.as_slice-nodes.ensures c.as_slice-down.ensures c.in_ok-order.ensures.few c.in_ok-order.ensures.counted c.in_ok-passes.ensures.counted c.in_ok-tree.ensures.counted

pub returns-clause-counted : goal.returns-clause-counted
returns-clause-counted g c =
    all_read c.args.reach.now c.as_slice-nodes.result.now c.in_ok-order.order c.as_slice-down.result.now _ _ _ _ c.as_slice-nodes.ensures c.as_slice-down.ensures c.in_ok-order.ensures.few c.in_ok-order.ensures.counted c.in_ok-passes.ensures.counted c.in_ok-tree.ensures.counted

pub returns-clause-batch : goal.returns-clause-batch
returns-clause-batch g c =
    at_both batch_between c.in_ok-sent.sent.batch c.in_ok-tree.field-0.tree.before c.in_ok-tree.field-0.tree.after c.args.kept (tree c.args.dom.now) c.in_ok-sent.ensures.batch c.in_ok-tree.ensures.before (c.in_ok-tree.ensures.after ∙ ap tree c.document-now.ensures)
