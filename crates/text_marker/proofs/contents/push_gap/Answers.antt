use Rattle.std.proofs.Common.{string_bytes}
use Rattle.text_marker.proofs.Pushing.{gap_pushed}
use Rattle.text_marker.proofs.contents.push_gap.Goals as goal

pub returns : goal.returns
returns g c =
    gap_pushed (g.T.TreeView.tree c.args.t.now) c.args.at c.args.next c.args.left c.is_joined.result (string_bytes c.args.out.now) (string_bytes c.push_cut.new.out) c.push_cut.result
    c.is_joined.ensures c.if-is_joined.false c.push_cut.ensures
