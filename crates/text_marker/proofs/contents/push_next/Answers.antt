use Rattle.std.proofs.Common.{string_bytes}
use Rattle.text_marker.specs.Ranges.{gap, part}
use Rattle.text_marker.proofs.Pushing.{pushed_then}
use Rattle.text_marker.proofs.contents.push_next.Goals as goal

pub returns : goal.returns
returns g c =
    pushed_then c.args.left c.in_ok-left.left (gap (g.T.TreeView.tree c.args.t.now) c.args.at c.args.next) (part (g.T.TreeView.tree c.args.t.now) c.args.range.now.low c.args.range.now.high c.args.next)
    (string_bytes c.args.out.now) (string_bytes c.push_gap.new.out) (string_bytes c.push_part.new.out) c.push_part.result c.in_ok-left.ensures c.push_part.ensures
