use Rattle.live_tree.proofs.Turning.{becomes_hangs, was_kept, is_now, both_differ, both_told}
use Rattle.live_tree.proofs.renewing.renewed_tree.Goals as goal

pub new-tree-requires : goal.new-tree-requires
new-tree-requires g c = record { rising = c.in_ok-ids.ensures.value.differ.rising; becomes = becomes_hangs c.args.kept c.args.dom.now _ _ _ _ c.in_ok-ids.ensures.value c.requires.present.tree }

pub returns : goal.returns
returns g c = record {
  before = was_kept c.args.kept c.args.dom.now _ _ _ _ c.in_ok-ids.ensures.value _ c.new-tree.ensures;
  after = is_now c.args.kept c.args.dom.now _ _ _ _ c.in_ok-ids.ensures.value _ c.new-tree.ensures;
  differ = both_differ c.args.kept c.args.dom.now _ _ _ _ c.in_ok-ids.ensures.value _ c.new-tree.ensures;
  told = both_told c.args.kept c.args.dom.now _ _ _ _ c.in_ok-ids.ensures.value _ c.new-tree.ensures;
  counted = c.in_ok-ids.ensures.counted;
}
