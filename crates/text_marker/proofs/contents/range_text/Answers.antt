use Rattle.std.proofs.Common.{string_bytes}
use Rattle.text_marker.proofs.Pushing.{range_refused}
use Rattle.text_marker.proofs.contents.range_text.Goals as goal

pub returns-in-Err-clause-refused : goal.returns-in-Err-clause-refused
returns-in-Err-clause-refused g c =
    range_refused (g.T.TreeView.tree c.args.t.now) c.args.a c.args.b c.in_ok-range.ensures.stand c.in_ok-range.range.low c.in_ok-range.range.high (string_bytes c.new-out.result) (string_bytes c.push_range.new.out) c.in-Err.e c.in_ok-range.ensures.low c.in_ok-range.ensures.high c.in-Err.ensures
