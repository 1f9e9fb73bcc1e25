use Rattle.std.proofs.Common.{◌≡◌, ◌+◌, ◌≤◌, ◌<◌, Some, slice_get, sym, ap, ◌∙◌, subst, arith}
use Rattle.std.proofs.lemmas.Option.{slice_get-get_or}
use Rattle.story_check.specs.declared.story.PageLine.TheVariants.{Until}
use Rattle.story_check.specs.Stories.{Story}
use Rattle.ax_world.specs.Worlds.{Play}
use Rattle.ax_world.proofs.PageTurns.{until_did, until_waits}
use Rattle.ax_world.proofs.world.World.page_turn.Goals as goal

pub returns-then-number : goal.returns-then-number
returns-then-number c =
    let old : Play = c.args.self in
    let s : Story = c.args.story.now in
    let line : slice_get s.page old.state.page_done ≡ Some (Until c.in-Until.need) = sym (λ j. slice_get (c.page-page.ensures.is j) (c.self.view_is j).state.page_done) ∙ (slice_get-get_or _ _ _ c.if-self-page.false ∙ ap Some (sym c.index-page-self.is ∙ c.in-Until.is)) in
    let need : c.number.result ≡ c.in-Until.need = c.number.ensures in
    let have : c.number-in-Until.result ≡ c.self.inside.taken = c.number-in-Until.ensures in
    let met : c.number.result ≤ c.number-in-Until.result = c.if-number.true in
    let new : c.pass_until.result ≡ record { story = old.story; state = record old.state { page_done = c.self.inside.page_done + 1 } } = c.pass_until.ensures in
    until_did s old c.pass_until.result c.in-Until.need line (subst (λ (w : Play). c.in-Until.need ≤ w.state.taken) c.self.view_is (omega arith)) (new ∙ (λ j. record { story = old.story; state = record old.state { page_done = (c.self.view_is j).state.page_done + 1 } }))

pub returns-else-number : goal.returns-else-number
returns-else-number c =
    let old : Play = c.args.self in
    let s : Story = c.args.story.now in
    let line : slice_get s.page old.state.page_done ≡ Some (Until c.in-Until.need) = sym (λ j. slice_get (c.page-page.ensures.is j) (c.self.view_is j).state.page_done) ∙ (slice_get-get_or _ _ _ c.if-self-page.false ∙ ap Some (sym c.index-page-self.is ∙ c.in-Until.is)) in
    let need : c.number.result ≡ c.in-Until.need = c.number.ensures in
    let have : c.number-in-Until.result ≡ c.self.inside.taken = c.number-in-Until.ensures in
    let unmet : c.number-in-Until.result < c.number.result = c.if-number.false in
    until_waits s old c.in-Until.need c.self.inside.taken line (ap (λ (w : Play). w.state.taken) c.self.view_is) (subst (λ (w : Play). w.state.taken < c.in-Until.need) c.self.view_is (omega arith))
