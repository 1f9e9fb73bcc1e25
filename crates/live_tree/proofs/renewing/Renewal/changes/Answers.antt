use Rattle.std.proofs.Common.{ap, ◌∙◌}
use Rattle.std.specs.List.{flat_map, filter}
use Rattle.ax_fresh.specs.Gathering.{with_records}
use Rattle.tree_diff.specs.Candidates.{moved_kids}
use Rattle.live_tree.specs.Remaking.{fresh_at}
use Rattle.live_tree.proofs.Remaking.{was_hangs, moved_turned, gone_turned, both_made}
use Rattle.live_tree.proofs.Turning.{leads_to}
use Rattle.live_tree.proofs.renewing.Renewal.changes.Goals as goal

pub without-requires : goal.without-requires
without-requires g c = c.sorted_once-same.ensures.rising

pub candidates-requires-clause-gone : goal.candidates-requires-clause-gone
candidates-requires-clause-gone g c =
    let d = c.args.self.now.dom.now in
    let kept = c.args.self.now.kept.now in
    let ns = c.args.self.now.nodes.now in
    let hangs = was_hangs kept c.requires.was.flushed c.requires.was.was_tree c.requires.was.shows in
    let left = c.as_slice-turned.ensures ∙ c.in_ok-turned.ensures in
    gone_turned d c.requires.present.tree kept ns c.args.self.now.down.now c.requires.order hangs _ _ _ c.in_ok-records.ensures.same c.sorted_once-same.ensures left

pub candidates-requires-clause-moved : goal.candidates-requires-clause-moved
candidates-requires-clause-moved g c =
    let d = c.args.self.now.dom.now in
    let kept = c.args.self.now.kept.now in
    let ns = c.args.self.now.nodes.now in
    let hangs = was_hangs kept c.requires.was.flushed c.requires.was.was_tree c.requires.was.shows in
    let left = c.as_slice-turned.ensures ∙ c.in_ok-turned.ensures in
    let moved = moved_turned d c.requires.present.tree kept ns c.args.self.now.down.now c.requires.order hangs _ _ _ c.in_ok-records.ensures.same c.sorted_once-same.ensures left in
    c.in_ok-records-2.ensures.moved ∙ moved

pub without-requires-2 : goal.without-requires-2
without-requires-2 g c = c.sorted_once-same.ensures.rising

pub focused_object-focus-requires : goal.focused_object-focus-requires
focused_object-focus-requires g c = record { tree = c.requires.present.tree; kids = c.requires.present.passes.kids; closed = c.requires.present.closed; focus = c.requires.present.focus }

pub returns-clause-value : goal.returns-clause-value
returns-clause-value g c =
    let d = c.args.self.now.dom.now in
    let kept = c.args.self.now.kept.now in
    let ns = c.args.self.now.nodes.now in
    let down = c.args.self.now.down.now in
    let hangs = was_hangs kept c.requires.was.flushed c.requires.was.was_tree c.requires.was.shows in
    let still = c.in_ok-records.ensures.same in
    let moved = moved_turned d c.requires.present.tree kept ns down c.requires.order hangs _ _ _ still c.sorted_once-same.ensures (c.as_slice-turned.ensures ∙ c.in_ok-turned.ensures) in
    let first = c.in_ok-records.field-0.records in
    let whole = c.in_ok-records-2.ensures.records ∙ ap (with_records d first) moved in
    let made = both_made d first c.in_ok-records-2.field-0.records (flat_map (fresh_at kept d) down) (flat_map (moved_kids kept d ns) ns) c.in_ok-records.ensures.records whole in
    leads_to kept d c.requires.present.tree ns down c.requires.order hangs c.requires.was _ _ _ _ _ _ made c.in_ok-near.ensures.value still c.sorted_once-same.ensures
    (c.in_ok-ids.ensures ∙ ap (filter _) c.as_slice.ensures) c.focused_object-focus.ensures.value c.in_ok-near.ensures.differ c.in_ok-near.ensures.told
