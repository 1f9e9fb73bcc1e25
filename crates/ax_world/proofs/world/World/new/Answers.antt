use Rattle.std.proofs.Common.{sym, subst, ap, ◌∙◌}
use Rattle.ax_dom.specs.Changes.{new_document}
use Rattle.story_check.specs.Stories.{Story, flushes}
use Rattle.story_check.specs.Moments.{after_edits, AreLinesAccepted, AreTrees}
use Rattle.story_check.proofs.Trees.{are_trees}
use Rattle.ax_world.proofs.Kept.{base_is, kept_start}
use Rattle.ax_world.proofs.world.World.new.Goals as goal

pub invariant_of-result : goal.invariant_of-result
invariant_of-result c =
    let of = sym c.of.ensures in (
      kept_start c.of.result.value _ _ _ _ _ _ (c.in_ok-document.ensures ∙ base_is c.args.story.now ∙ ap (λ (s : Story). after_edits new_document s.base) of) c.in_ok-live.ensures c.empty.ensures c.in_ok-client_tree.ensures c.new-3.ensures
          (subst (λ (s : Story). AreLinesAccepted (after_edits new_document s.base) s.page) of c.requires.accepted.lines) (subst AreTrees of (are_trees c.args.story.now c.requires.accepted)),
      c.flushes.ensures.is ∙ ap (λ (s : Story). flushes s.page) of,
    )
