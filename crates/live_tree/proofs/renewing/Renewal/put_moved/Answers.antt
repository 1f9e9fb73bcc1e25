use Rattle.std.proofs.Common.{[], ap, ◌∙◌, Some}
use Rattle.ax_base.proofs.Membership.{Contains-head}
use Rattle.ax_base.proofs.Objects.{kids_are_objects, kids_known}
use Rattle.ax_record.proofs.TreeOf.{object_parent_is}
use Rattle.live_tree.proofs.Remaking.{none_some, was_there, moved_put}
use Rattle.live_tree.proofs.renewing.Renewal.put_moved.Goals as goal

pub returns-in_default-clause-records : goal.returns-in_default-clause-records
returns-in_default-clause-records c =
    let d = c.args.self.now.dom.now in
    let kid = c.requires.hung.1 c.args.id (Contains-head c.args.id []) in
    let object = kids_are_objects d c.requires.tree c.args.above c.args.id c.requires.hung.0 kid in
    let same = c.requires.was.alike c.args.id (kids_known d c.requires.tree c.args.above c.args.id kid) c.requires.as_it_was in
    absurd (none_some _ (c.in_default.ensures.value ∙ was_there c.requires.was.flushed d c.requires.was.was_tree c.requires.tree c.args.id same object c.args.self.now.kept.now c.requires.was.shows))

pub returns-clause-records : goal.returns-clause-records
returns-clause-records c =
    let d = c.args.self.now.dom.now in
    let kid = c.requires.hung.1 c.args.id (Contains-head c.args.id []) in
    let object = kids_are_objects d c.requires.tree c.args.above c.args.id c.requires.hung.0 kid in
    let same = c.requires.was.alike c.args.id (kids_known d c.requires.tree c.args.above c.args.id kid) c.requires.as_it_was in
    let found = c.in-Some.ensures.value ∙ was_there c.requires.was.flushed d c.requires.was.was_tree c.requires.tree c.args.id same object c.args.self.now.kept.now c.requires.was.shows in
    moved_put c.requires.was.flushed d c.requires.was.was_tree c.requires.tree c.args.id same object c.args.fresh.now.records c.put.new.self c.in_ok-object.object c.args.above c.in_ok-put.ensures (ap Some c.in_ok-object.ensures ∙ found)
    (object_parent_is d c.requires.tree c.args.above c.args.id c.requires.hung.0 kid)
