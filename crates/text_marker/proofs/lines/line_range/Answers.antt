use Rattle.std.proofs.Common.{◌+◌, ◌-◌, length, arith}
use Rattle.text_marker.proofs.Stretches.{line_none, line_at}
use Rattle.text_marker.proofs.Texts.{text_fits}
use Rattle.text_marker.proofs.lines.line_range.Goals as goal

pub count-count-requires : goal.count-count-requires
count-count-requires g c =
    let few = text_fits (g.T.TreeView.tree c.args.t.now) c.object_of.ensures.is_tree c.args.at.id c.in_ok-object.object.now c.text_of-text.result.now c.in_ok-object.ensures.known c.text_of-text.ensures c.text_of-text.utf8 in
    omega arith

pub returns-in_default : goal.returns-in_default
returns-in_default g c =
    line_none (g.T.TreeView.tree c.args.t.now) c.object_of.ensures.is_tree c.args.at c.in_ok-object.object.now c.text_of-text.result.now c.in_ok-object.ensures.known c.in_ok-object.ensures.stands c.text_of-text.ensures
    c.as_slice-runs.result.now c.as_slice-runs.ensures c.count-count.result c.count-count.ensures.value c.in_default.ensures

pub returns : goal.returns
returns g c =
    line_at (g.T.TreeView.tree c.args.t.now) c.object_of.ensures.is_tree c.args.at c.in_ok-object.object.now c.text_of-text.result.now c.in_ok-object.ensures.known c.in_ok-object.ensures.stands c.text_of-text.ensures
    c.as_slice-runs.result.now c.as_slice-runs.ensures c.count-count.result c.count-count.ensures.value c.in-Some.own (c.in-Some.own + 1) (length c.as_slice-runs.result.now - (c.in-Some.own + 1)) _ c.line_start-start.result c.line_end-end.result
    c.in-Some.ensures.0 (omega arith) (omega (arith, c.in-Some.ensures.0)) c.in-Some.ensures.1 c.in-Some.ensures.2 c.line_start-start.ensures c.line_end-end.ensures
