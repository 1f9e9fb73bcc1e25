use Rattle.std.proofs.Common.{◌∷◌, map, reverse, sym, ap, ◌∙◌, arith}
use Rattle.text_marker.specs.Stops.{stops_of}
use Rattle.text_marker.specs.Markers.{mark, text_at}
use Rattle.text_marker.proofs.Finding.{reverse-map}
use Rattle.text_marker.proofs.Stopping.{last_stop}
use Rattle.text_marker.proofs.Texts.{text_fits, text_is}
use Rattle.text_marker.proofs.moves.end_of.Goals as goal

pub count-requires : goal.count-requires
count-requires g c =
    let few = text_fits (g.T.TreeView.tree c.args.t.now) c.in-Some.ensures.is_tree c.args.id c.in-Some.object.now c.text_of.result.now c.in-Some.ensures.value c.text_of.ensures c.text_of.utf8 in
    omega arith

pub returns-in-Some-clause-last : goal.returns-in-Some-clause-last
returns-in-Some-clause-last g c =
    let last = last_stop c.text_of.result.now c.text_of.utf8 in
    let same = text_is (g.T.TreeView.tree c.args.t.now) c.args.id c.in-Some.object.now c.text_of.result.now c.in-Some.ensures.value c.text_of.ensures in (
      map (mark c.args.id) last.0,
      reverse-map (mark c.args.id) (stops_of (text_at (g.T.TreeView.tree c.args.t.now) c.args.id)) ∙ ap (λ s. map (mark c.args.id) (reverse (stops_of s))) (sym same) ∙ ap (map (mark c.args.id)) last.1
          ∙ ap (λ n. mark c.args.id n ∷ map (mark c.args.id) last.0) (sym c.count.ensures.value),
    )
