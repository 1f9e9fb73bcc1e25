use Rattle.std.proofs.Common.{◌≡◌, ◌++◌, ◌∷◌, ap, ◌∙◌, rules}
use Rattle.std.specs.Map.{keys_of}
use Rattle.ax_batch.specs.Rising.{by_rising}
use Rattle.ax_batch.specs.Fates.{added_by, changed_by, removed_by}
use Rattle.ax_batch.proofs.Splitting.{keys_left, left_on, left_is, room_left}
use Rattle.ax_batch.proofs.merged.move_all.Goals as goal

pub loop-id-init : goal.loop-id-init
loop-id-init c =
    let ids : c.into_iter-id-iterator.result.rest.items ≡ c.args.ids.items = search rules in
    let keys : keys_of (by_rising c.args.fates.now.entries) ≡ c.into_iter-id-iterator.result.rest.items = search rules in
    record {
      keys = keys;
      room = search rules;
      added = ap (λ l. c.args.added.now.0 ++ l) (left_is added_by (by_rising c.args.fates.now.entries) c.into_iter-id-iterator.result.rest.items keys);
      changed = ap (λ l. c.args.changed.now.0 ++ l) (left_is changed_by (by_rising c.args.fates.now.entries) c.into_iter-id-iterator.result.rest.items keys);
      removed = ap (λ l. c.args.removed.now.0 ++ l) (left_is removed_by (by_rising c.args.fates.now.entries) c.into_iter-id-iterator.result.rest.items keys);
    }

pub loop-id-preserved : goal.loop-id-preserved
loop-id-preserved c =
    let first : c.loop-id.id-iterator.rest.items ≡ c.in-Some.id ∷ c.next.new.self.rest.items = search rules in
    record {
      keys = ap keys_of c.move_one.ensures.fates ∙ keys_left (by_rising c.loop-id.fates.entries) c.in-Some.id c.next.new.self.rest.items (c.loop-id.invariant.keys ∙ first);
      room = c.move_one.ensures.room _ (room_left c.loop-id.added c.loop-id.changed c.loop-id.removed c.loop-id.id-iterator.rest.items c.in-Some.id c.next.new.self.rest.items first c.loop-id.invariant.room);
      added = left_on added_by (by_rising c.loop-id.fates.entries) (by_rising c.move_one.new.fates.entries) c.loop-id.id-iterator.rest.items c.in-Some.id c.next.new.self.rest.items c.loop-id.added.0 c.move_one.new.added.0 _ c.loop-id.invariant.keys first c.move_one.ensures.fates c.move_one.ensures.added c.loop-id.invariant.added;
      changed = left_on changed_by (by_rising c.loop-id.fates.entries) (by_rising c.move_one.new.fates.entries) c.loop-id.id-iterator.rest.items c.in-Some.id c.next.new.self.rest.items c.loop-id.changed.0 c.move_one.new.changed.0 _ c.loop-id.invariant.keys first c.move_one.ensures.fates c.move_one.ensures.changed c.loop-id.invariant.changed;
      removed = left_on removed_by (by_rising c.loop-id.fates.entries) (by_rising c.move_one.new.fates.entries) c.loop-id.id-iterator.rest.items c.in-Some.id c.next.new.self.rest.items c.loop-id.removed.0 c.move_one.new.removed.0 _ c.loop-id.invariant.keys first c.move_one.ensures.fates c.move_one.ensures.removed c.loop-id.invariant.removed;
    }
