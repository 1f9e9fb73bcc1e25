use Rattle.std.proofs.Common.{sym, ◌∙◌, string_bytes}
use Rattle.text_marker.proofs.Pushing.{range_one, range_more}
use Rattle.text_marker.proofs.contents.push_range.Goals as goal

pub returns-then-eq : goal.returns-then-eq
returns-then-eq g c =
    range_one (g.T.TreeView.tree c.args.t.now) c.args.range.now.low c.args.range.now.high c.args.left c.in_ok-left.left (string_bytes c.args.out.now) (string_bytes c.push_part.new.out) c.in_ok-left.ensures (sym c.eq.ensures ∙ c.if-eq.true)

pub returns : goal.returns
returns g c =
    range_more (g.T.TreeView.tree c.args.t.now) c.args.range.now.low c.args.range.now.high c.args.left c.in_ok-left.left (string_bytes c.args.out.now) (string_bytes c.push_part.new.out) c.in_ok-left.ensures
    (string_bytes c.push_following.new.out) c.push_following.result (sym c.eq.ensures ∙ c.if-eq.false) c.push_following.ensures
