use Rattle.std.proofs.Common.{sym, subst, ◌∙◌}
use Rattle.dom_ids.specs.Hanging.{Follows, went, came}
use Rattle.dom_ids.proofs.EachEdit.{edit_follows}
use Rattle.dom_ids.proofs.index.IdIndex.after.Goals as goal

pub renew-requires : goal.renew-requires
renew-requires g c = record {
  index = c.requires.index;
  follows =
      let d = c.args.old.now in
      let f = edit_follows d c.args.now.now c.args.e.now c.keeps_tree.ensures.tree c.keeps_tree-2.ensures.tree c.keeps_tree.ensures.inserted c.requires.accepted c.requires.leads in
      subst (λ a. Follows d c.args.now.now a c.as_slice-2.result.now c.as_slice-3.result.now) (sym (c.as_slice.ensures ∙ c.in_ok-gone.ensures))
      (subst (λ b. Follows d c.args.now.now (went d c.args.e.now) b c.as_slice-3.result.now) (sym (c.as_slice-2.ensures ∙ c.in_ok-come.ensures))
      (subst (Follows d c.args.now.now (went d c.args.e.now) (came c.args.e.now)) (sym (c.as_slice-3.ensures ∙ c.in_ok-moved.ensures)) f));
}
