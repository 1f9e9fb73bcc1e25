use Rattle.std.proofs.Common.{◌≡◌, ◌≤◌, ◌<◌, Some, slice_get, sym, ap, ◌∙◌, subst, arith}
use Rattle.std.proofs.lemmas.Option.{slice_get-get_or}
use Rattle.ax_ask.specs.declared.transcripts.EntryBody.TheVariants.{Await as AwaitBody}
use Rattle.story_check.specs.declared.story.ClientLine.TheVariants.{Await}
use Rattle.story_check.specs.Stories.{Story}
use Rattle.ax_world.specs.Machine.{printed}
use Rattle.ax_world.specs.Worlds.{Play}
use Rattle.ax_world.proofs.ClientTurns.{await_did, await_waits}
use Rattle.ax_world.proofs.world.World.client_turn.Goals as goal

pub returns-in_ok-world-in-Await : goal.returns-in_ok-world-in-Await
returns-in_ok-world-in-Await c =
    let old : Play = c.args.self in
    let s : Story = c.args.story.now in
    let line : slice_get s.client old.state.client_done ≡ Some (Await c.in-Await.need) = sym (λ j. slice_get (c.client-client.ensures.is j) (c.self.view_is j).state.client_done) ∙ (slice_get-get_or _ _ _ c.if-self-client.false ∙ ap Some (sym c.index-client-self.is ∙ c.in-Await.is)) in
    let need : c.number.result ≡ c.in-Await.need = c.number.ensures in
    let have : c.number-in-Await.result ≡ c.self.inside.published = c.number-in-Await.ensures in
    let met : c.number.result ≤ c.number-in-Await.result = c.if-number.true in
    let moment : c.number-then-number.result ≡ old.state.published = c.number-then-number.ensures ∙ ap (λ (w : Play). w.state.published) c.self.view_is in
    let taken = c.in_ok-take-in-Await.ensures in
    await_did s old _ c.in-Await.need line (subst (λ (w : Play). c.in-Await.need ≤ w.state.published) c.self.view_is (omega arith)) (c.in_ok-world-in-Await.ensures ∙ (λ j. record { story = (taken j).story; state = printed (taken j).state (moment j) AwaitBody }))

pub returns-else-number : goal.returns-else-number
returns-else-number c =
    let old : Play = c.args.self in
    let s : Story = c.args.story.now in
    let line : slice_get s.client old.state.client_done ≡ Some (Await c.in-Await.need) = sym (λ j. slice_get (c.client-client.ensures.is j) (c.self.view_is j).state.client_done) ∙ (slice_get-get_or _ _ _ c.if-self-client.false ∙ ap Some (sym c.index-client-self.is ∙ c.in-Await.is)) in
    let need : c.number.result ≡ c.in-Await.need = c.number.ensures in
    let have : c.number-in-Await.result ≡ c.self.inside.published = c.number-in-Await.ensures in
    let unmet : c.number-in-Await.result < c.number.result = c.if-number.false in
    await_waits s old c.in-Await.need c.self.inside.published line (ap (λ (w : Play). w.state.published) c.self.view_is) (subst (λ (w : Play). w.state.published < c.in-Await.need) c.self.view_is (omega arith))
