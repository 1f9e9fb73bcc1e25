use Rattle.std.proofs.Common.{◌++◌, sym, ap, ◌∙◌, append-nil}
use Rattle.std.specs.List.{filter}
use Rattle.ax_base.proofs.Objects.{objects_known}
use Rattle.ax_fresh.specs.Gathering.{with_records}
use Rattle.ax_record.proofs.TreeOf.{object_is}
use Rattle.tree_diff.specs.Candidates.{is_moved}
use Rattle.live_tree.proofs.Remaking.{kids_here, no_kids, some_hung, some_stay}
use Rattle.live_tree.proofs.renewing.Renewal.put_hung.Goals as goal

pub is_object-requires : goal.is_object-requires
is_object-requires c = record { tree = c.requires.present.tree; kids = c.requires.present.passes.kids }

pub returns-then-not-is_object : goal.returns-then-not-is_object
returns-then-not-is_object c =
    let d = c.args.self.now.dom.now in
    let test = is_moved c.args.self.now.kept.now c.args.self.now.nodes.now c.args.id in
    let none = sym (ap (filter test) (no_kids d c.requires.present.tree c.args.id (sym c.if-not-is_object.ensures))) in
    record {
      records = ap (with_records d c.args.fresh.now.records) none;
      moved = sym (append-nil c.args.fresh.now.moved) ∙ ap (λ l. c.args.fresh.now.moved ++ l) none;
    }

pub put_each-requires : goal.put_each-requires
put_each-requires c =
    let d = c.args.self.now.dom.now in
    let object = object_is d c.requires.present.tree c.args.id (sym c.if-not-is_object.ensures) in
    let all = c.kids-kids.ensures d c.requires.present.passes.kids (objects_known d c.requires.present.tree c.args.id object) in
    record {
      tree = c.requires.present.tree;
      was = c.requires.was;
      hung = some_hung d c.requires.present.tree _ c.args.id _ _ object all (c.as_slice.ensures ∙ c.in_ok-hung.ensures);
      as_they_were = some_stay c.args.self.now.kept.now c.args.self.now.nodes.now c.args.id _ _ (c.as_slice.ensures ∙ c.in_ok-hung.ensures);
    }

pub returns : goal.returns
returns c =
    let d = c.args.self.now.dom.now in
    let test = is_moved c.args.self.now.kept.now c.args.self.now.nodes.now c.args.id in
    let one = sym c.if-not-is_object.ensures in
    let all = c.as_slice.ensures ∙ c.in_ok-hung.ensures ∙ ap (filter test) (c.kids-kids.ensures d c.requires.present.passes.kids (objects_known d c.requires.present.tree c.args.id (object_is d c.requires.present.tree c.args.id one)) ∙ sym (kids_here d c.requires.present.tree c.args.id one)) in
    record {
      records = c.in_ok-put_each.ensures.records ∙ ap (with_records d c.args.fresh.now.records) all;
      moved = c.in_ok-put_each.ensures.moved ∙ ap (λ l. c.args.fresh.now.moved ++ l) all;
    }
