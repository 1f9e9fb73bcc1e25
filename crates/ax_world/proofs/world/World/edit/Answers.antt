use Rattle.std.proofs.Common.{◌≡◌, ◌+◌, Some, slice_get, sym, subst}
use Rattle.story_check.specs.declared.story.PageLine.TheVariants.{Change}
use Rattle.ax_world.specs.Worlds.{Play}
use Rattle.ax_world.proofs.Kept.{next_accepted, kept_change}
use Rattle.ax_world.proofs.world.World.edit.Goals as goal

pub edit-requires : goal.edit-requires
edit-requires c =
    let may = next_accepted _ _ _ _ _ _ c.args.edit.now c.self.invariant.0 (subst (λ (w : Play). slice_get w.story.page w.state.page_done ≡ Some (Change c.args.edit.now)) (sym c.self.view_is) c.requires.line) in
    record { within = may.1 }

pub invariant_of-result : goal.invariant_of-result
invariant_of-result c = (kept_change _ _ _ _ _ _ _ c.args.edit.now _ c.self.invariant.0 (subst (λ (w : Play). slice_get w.story.page w.state.page_done ≡ Some (Change c.args.edit.now)) (sym c.self.view_is) c.requires.line) (subst (λ (w : Play). c.args.done ≡ w.state.page_done + 1) (sym c.self.view_is) c.requires.done) c.in-Ok.ensures.ok, c.self.invariant.1)
