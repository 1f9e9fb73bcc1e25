use Rattle.std.proofs.Common.{◌≡◌, length, ap, ◌∙◌, arith}
use Rattle.std.specs.HashMap.{hash_map_len}
use Rattle.ax_batch.specs.Rising.{by_rising}
use Rattle.ax_batch.specs.Fates.{set_fates, merged}
use Rattle.ax_batch.proofs.Orders.{rises}
use Rattle.ax_batch.proofs.Splitting.{taken_in, own_after, less_room}
use Rattle.ax_batch.proofs.merged.Merged.take_in.Goals as goal

pub invariant_of-self-2 : goal.invariant_of-self-2
invariant_of-self-2 c =
    let set = c.set_all.ensures.fates ∙ ap (λ l. set_fates (by_rising l) c.in_ok-updates.updates.items) c.in_ok-reserve.ensures.entries in
    let same : length c.reserve.new.self.entries ≡ length c.self.inside.fates.entries = ap length c.in_ok-reserve.ensures.entries in
    let few = c.set_all.ensures.few in
    let most = c.in-Some.ensures in
    let there = c.len.ensures.len in
    let more = c.len-2.ensures in
    (less_room (hash_map_len c.set_all.new.fates) c.in-Some.most c.make_room.new.room (omega arith) (c.in_ok-make_room.ensures.ok (hash_map_len c.self.inside.fates) c.self.invariant.0), own_after (by_rising c.self.inside.fates.entries) (by_rising c.set_all.new.fates.entries) c.args.batch c.in_ok-updates.updates.items (rises c.self.inside.fates.entries) c.self.invariant.1 set c.in_ok-updates.ensures)

pub returns : goal.returns
returns c =
    let set = c.set_all.ensures.fates ∙ ap (λ l. set_fates (by_rising l) c.in_ok-updates.updates.items) c.in_ok-reserve.ensures.entries in
    taken_in (by_rising c.self.inside.fates.entries) (by_rising c.set_all.new.fates.entries) c.self.inside.focus c.or-self-inside.result c.args.batch c.in_ok-updates.updates.items (rises c.self.inside.fates.entries) c.self.invariant.1 set c.in_ok-updates.ensures c.or-self-inside.ensures
    ∙ ap (λ v. merged v c.args.batch) c.self.view_is
