-- What a client's turn gives, where its line has a test.
use Rattle.std.proofs.Common.{◌≡◌, ℕ, ◌≤◌, ◌<◌, List, ◌∙◌, Option, Some, true, false, refl, sym, ap, subst, arith}
use Rattle.std.specs.Prelude.{slice_get, nat_le, if◌then◌else◌}
use Rattle.std.proofs.lemmas.Bool.Decides.{nat_tests}
use Rattle.story_check.specs.declared.story.ClientLine.{ClientLine}
use Rattle.story_check.specs.declared.story.ClientLine.TheVariants.{Await}
use Rattle.story_check.specs.Stories.{Story}
use Rattle.ax_ask.specs.declared.transcripts.EntryBody.TheVariants.{Await as AwaitBody}
use Rattle.ax_world.specs.declared.turns.Turn.TheVariants.{Did, Waiting}
use Rattle.ax_world.specs.Machine.{client_step, printed, did, waits}
use Rattle.ax_world.specs.Worlds.{Play, Gives}

-- the await was met
pub await_did : (s : Story) (old new : Play) (a : ℕ) → slice_get s.client old.state.client_done ≡ Some (Await a) → a ≤ old.state.published → new ≡ record { story = old.story; state = record (printed old.state old.state.published AwaitBody) { taken = old.state.published } } → Gives old (client_step s old.state (slice_get s.client old.state.client_done)) (new, Did)
await_did s old new a line h e = subst (λ (o : Option ClientLine). Gives old (client_step s old.state o) (new, Did)) (sym line) (subst (λ b. Gives old (if b then did (record (printed old.state old.state.published AwaitBody) { taken = old.state.published }) else waits old.state a old.state.published) (new, Did)) (sym met) (e, refl))
  where
    met : nat_le a old.state.published ≡ true
    met = grind (arith, nat_tests)

-- it waits
pub await_waits : (s : Story) (old : Play) (a have : ℕ) → slice_get s.client old.state.client_done ≡ Some (Await a) → have ≡ old.state.published → old.state.published < a → Gives old (client_step s old.state (slice_get s.client old.state.client_done)) (old, Waiting a have)
await_waits s old a have line e h = subst (λ (o : Option ClientLine). Gives old (client_step s old.state o) (old, Waiting a have)) (sym line) (subst (λ b. Gives old (if b then did (record (printed old.state old.state.published AwaitBody) { taken = old.state.published }) else waits old.state a old.state.published) (old, Waiting a have)) (sym unmet) (refl, ap (λ k. Waiting a k) e))
  where
    unmet : nat_le a old.state.published ≡ false
    unmet = grind (arith, nat_tests)
