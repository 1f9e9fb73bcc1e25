use Rattle.std.proofs.Common.{sym, subst, arith}
use Rattle.ax_base.specs.Rects.{AreRunsWithin}
use Rattle.text_marker.proofs.Widening.{text_widened}
use Rattle.text_marker.proofs.Texts.{text_fits}
use Rattle.text_marker.proofs.bounds.with_text.Goals as goal

pub count-requires : goal.count-requires
count-requires g c =
    let few = text_fits (g.T.TreeView.tree c.args.t.now) c.in-Some.ensures.is_tree c.args.id c.in-Some.object.now c.text_of.result.now c.in-Some.ensures.value c.text_of.ensures c.text_of.utf8 in
    omega arith

pub with_runs-requires-clause-runs : goal.with_runs-requires-clause-runs
with_runs-requires-clause-runs g c = subst AreRunsWithin (sym c.as_slice.ensures) (c.in-Some.ensures.is_tree.within c.args.id c.in-Some.object.now (sym c.in-Some.ensures.value)).1

pub returns-clause-all : goal.returns-clause-all
returns-clause-all g c =
    text_widened (g.T.TreeView.tree c.args.t.now) c.args.range.now.low c.args.range.now.high c.args.id c.low_in-low.result c.high_in-high.result c.count.result c.in-Some.object.now c.text_of.result.now c.as_slice.result.now c.args.bounds c.with_runs.result
    c.in-Some.ensures.value c.text_of.ensures c.as_slice.ensures c.count.ensures.value c.low_in-low.ensures c.high_in-high.ensures c.with_runs.ensures.all
