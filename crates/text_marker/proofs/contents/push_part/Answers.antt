use Rattle.std.proofs.Common.{string_bytes, arith}
use Rattle.text_marker.proofs.Pushing.{part_pushed}
use Rattle.text_marker.proofs.Texts.{text_fits, text_is}
use Rattle.text_marker.proofs.contents.push_part.Goals as goal

pub count-requires : goal.count-requires
count-requires g c =
    let few = text_fits (g.T.TreeView.tree c.args.t.now) c.in-Some.ensures.is_tree c.args.id c.in-Some.object.now c.text_of-text.result.now c.in-Some.ensures.value c.text_of-text.ensures c.text_of-text.utf8 in
    omega arith

pub returns : goal.returns
returns g c =
    part_pushed (g.T.TreeView.tree c.args.t.now) c.args.range.now.low c.args.range.now.high c.args.id c.args.left c.low_in-low.result c.high_in-high.result c.count.result c.text_of-text.result.now (string_bytes c.args.out.now) (string_bytes c.push_cut.new.out) c.push_cut.result
    (text_is (g.T.TreeView.tree c.args.t.now) c.args.id c.in-Some.object.now c.text_of-text.result.now c.in-Some.ensures.value c.text_of-text.ensures) c.count.ensures.value c.low_in-low.ensures c.high_in-high.ensures c.push_cut.ensures
