use Rattle.std.proofs.Common.{◌≡◌, ◌+◌, Some, slice_get, sym, subst, refl}
use Rattle.story_check.specs.declared.story.PageLine.TheVariants.{Flush}
use Rattle.ax_world.specs.Worlds.{Play}
use Rattle.ax_world.proofs.Kept.{kept_flush}
use Rattle.ax_world.proofs.world.World.flush.Goals as goal

pub invariant_of-result : goal.invariant_of-result
invariant_of-result c = (kept_flush _ _ _ _ _ _ _ _ _ _ _ _ c.self.invariant.0 (subst (λ (w : Play). slice_get w.story.page w.state.page_done ≡ Some Flush) (sym c.self.view_is) c.requires.line) (subst (λ (w : Play). c.args.done ≡ w.state.page_done + 1) (sym c.self.view_is) c.requires.done) refl c.in_ok-live.ensures.tree c.in_ok-live.ensures.batch c.in_ok-live.ensures.notices c.in_ok-append.ensures, c.self.invariant.1)
