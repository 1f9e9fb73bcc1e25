use Rattle.std.proofs.Common.{◌++◌, ◌∷◌, [], sym, ap, ◌∙◌, take, append_assoc, arith}
use Rattle.std.specs.Map.{keys_of}
use Rattle.ax_batch.proofs.Splitting.{keys_more}
use Rattle.ax_batch.proofs.merged.list_keys.Goals as goal

pub loop-index-preserved : goal.loop-index-preserved
loop-index-preserved c = record {
  keys = c.push.ensures.items
      ∙ ap (λ l. l ++ c.in-Some.key.now ∷ []) c.loop-index.invariant.keys
      ∙ append_assoc c.args.ids.now.0 (keys_of (take c.loop-index.index c.args.fates.now.entries)) (c.in-Some.key.now ∷ [])
      ∙ ap (λ l. c.args.ids.now.0 ++ l) (sym (keys_more c.args.fates.now.entries c.loop-index.index _ (sym c.in-Some.ensures.entry)));
  room = let more = c.push.ensures.room in let so_far = c.loop-index.invariant.room in omega arith;
}
