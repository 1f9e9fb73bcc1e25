use Rattle.std.proofs.Common.{sym, ◌∙◌, string_bytes, Ok}
use Rattle.text_order.specs.Texts.{later_texts}
use Rattle.text_marker.proofs.Pushing.{follow_last, follow_more, follow_none}
use Rattle.text_marker.proofs.contents.push_following.Goals as goal

pub returns-then-eq : goal.returns-then-eq
returns-then-eq g c =
    c.loop-next.invariant.0 (Ok c.in_ok-left.left) (string_bytes c.push_next.new.out)
    (follow_last (g.T.TreeView.tree c.args.t.now) c.args.range.now.low c.args.range.now.high c.loop-next.at c.in-Some.next (later_texts (g.T.TreeView.tree c.args.t.now) c.loop-next.at) (later_texts (g.T.TreeView.tree c.args.t.now) c.in-Some.next) c.in-Some.ensures.going
    c.loop-next.left (string_bytes c.loop-next.out) (string_bytes c.push_next.new.out) c.in_ok-left.left (sym c.eq.ensures ∙ c.if-eq.true) c.in_ok-left.ensures)

pub loop-next-preserved : goal.loop-next-preserved
loop-next-preserved g c = (
  λ r new more. c.loop-next.invariant.0 r new
      (follow_more (g.T.TreeView.tree c.args.t.now) c.args.range.now.low c.args.range.now.high c.loop-next.at c.in-Some.next (later_texts (g.T.TreeView.tree c.args.t.now) c.loop-next.at) (later_texts (g.T.TreeView.tree c.args.t.now) c.in-Some.next) c.in-Some.ensures.going
      c.loop-next.left (string_bytes c.loop-next.out) (string_bytes c.push_next.new.out) c.in_ok-left.left new r (sym c.eq.ensures ∙ c.if-eq.false) c.in_ok-left.ensures more),
  c.in-Some.ensures.known,
)

pub returns : goal.returns
returns g c =
    c.loop-next.invariant.0 (Ok c.loop-next.left) (string_bytes c.loop-next.out)
    (follow_none (g.T.TreeView.tree c.args.t.now) c.args.range.now.low c.args.range.now.high c.loop-next.at (later_texts (g.T.TreeView.tree c.args.t.now) c.loop-next.at) c.loop-next.left (string_bytes c.loop-next.out) c.in_default.ensures.going)
