use Rattle.std.proofs.Common.{arith, ap, ◌++◌, ◌∷◌, [], ◌∙◌}
use Rattle.ax_fresh.specs.Gathering.{with_records}
use Rattle.live_tree.proofs.Remaking.{each_step, one_more, in_at, one_hung}
use Rattle.live_tree.proofs.renewing.Renewal.put_each.Goals as goal

pub put_moved-requires : goal.put_moved-requires
put_moved-requires c =
    let there = in_at c.args.hung.now c.loop-kid.kid-index c.kid-item.result (omega arith) c.kid-item.is in
    record {
      tree = c.requires.tree;
      was = c.requires.was;
      hung = one_hung c.args.self.now.dom.now c.args.above c.kid-item.result c.requires.hung.0 (c.requires.hung.1 c.kid-item.result there);
      as_it_was = c.requires.as_they_were c.kid-item.result there;
    }

pub loop-kid-preserved : goal.loop-kid-preserved
loop-kid-preserved c =
    let d = c.args.self.now.dom.now in
    let ks = c.args.hung.now in
    record {
      records = each_step d c.requires.tree (with_records d c.args.fresh.now.records ks) c.loop-kid.fresh.records c.put_moved.new.fresh.records ks c.loop-kid.kid-index c.kid-item.result (omega arith) c.kid-item.is c.loop-kid.invariant.records c.in_ok-put_moved.ensures.records;
      moved = one_more c.args.fresh.now.moved c.loop-kid.fresh.moved c.push.new.self ks c.loop-kid.kid-index c.kid-item.result (omega arith) c.kid-item.is c.loop-kid.invariant.moved (c.in_ok-push.ensures.ok ∙ ap (λ l. l ++ c.kid-item.result ∷ []) c.in_ok-put_moved.ensures.moved);
    }
