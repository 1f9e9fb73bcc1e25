use Rattle.std.proofs.Common.{◌≡◌, ◌+◌, Some, slice_get, sym, subst}
use Rattle.story_check.specs.declared.story.PageLine.TheVariants.{Until}
use Rattle.ax_world.specs.Worlds.{Play}
use Rattle.ax_world.proofs.Kept.{kept_until}
use Rattle.ax_world.proofs.world.World.pass_until.Goals as goal

pub invariant_of-result : goal.invariant_of-result
invariant_of-result c = (kept_until _ _ _ _ _ _ _ c.args.need c.self.invariant.0 (subst (λ (w : Play). slice_get w.story.page w.state.page_done ≡ Some (Until c.args.need)) (sym c.self.view_is) c.requires.line) (subst (λ (w : Play). c.args.done ≡ w.state.page_done + 1) (sym c.self.view_is) c.requires.done), c.self.invariant.1)
