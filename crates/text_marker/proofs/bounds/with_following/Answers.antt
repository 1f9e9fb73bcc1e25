use Rattle.std.proofs.Common.{sym, ◌∙◌}
use Rattle.text_order.specs.Texts.{later_texts}
use Rattle.text_marker.proofs.Widening.{widened_last, widened_more, widened_none}
use Rattle.text_marker.proofs.bounds.with_following.Goals as goal

pub returns-then-eq : goal.returns-then-eq
returns-then-eq g c = widened_last (g.T.TreeView.tree c.args.t.now) c.args.range.now.low c.args.range.now.high c.in-Some.next (later_texts (g.T.TreeView.tree c.args.t.now) c.loop-next.at) (later_texts (g.T.TreeView.tree c.args.t.now) c.in-Some.next) c.in-Some.ensures.going
    c.loop-next.bounds c.with_text-bounds.result _ c.with_text-bounds.ensures.all c.loop-next.invariant.0 (sym c.eq.ensures ∙ c.if-eq.true)

pub loop-next-preserved : goal.loop-next-preserved
loop-next-preserved g c = (
  widened_more (g.T.TreeView.tree c.args.t.now) c.args.range.now.low c.args.range.now.high c.in-Some.next (later_texts (g.T.TreeView.tree c.args.t.now) c.loop-next.at) (later_texts (g.T.TreeView.tree c.args.t.now) c.in-Some.next) c.in-Some.ensures.going
      c.loop-next.bounds c.with_text-bounds.result _ c.with_text-bounds.ensures.all c.loop-next.invariant.0 (sym c.eq.ensures ∙ c.if-eq.false),
  c.with_text-bounds.ensures.within,
  c.in-Some.ensures.known,
)

pub returns : goal.returns
returns g c = widened_none (g.T.TreeView.tree c.args.t.now) c.args.range.now.low c.args.range.now.high (later_texts (g.T.TreeView.tree c.args.t.now) c.loop-next.at) c.loop-next.bounds _ c.in_default.ensures.going c.loop-next.invariant.0
