-- What a page's turn gives, where its line has a test.
use Rattle.std.proofs.Common.{◌≡◌, ℕ, ◌+◌, ◌≤◌, ◌<◌, Option, Some, true, false, refl, sym, ap, subst, arith}
use Rattle.std.specs.Prelude.{slice_get, nat_le, if◌then◌else◌}
use Rattle.std.proofs.lemmas.Bool.Decides.{nat_tests}
use Rattle.story_check.specs.declared.story.PageLine.{PageLine}
use Rattle.story_check.specs.declared.story.PageLine.TheVariants.{Until}
use Rattle.story_check.specs.Stories.{Story}
use Rattle.ax_world.specs.declared.turns.Turn.TheVariants.{Did, Waiting}
use Rattle.ax_world.specs.Machine.{page_step, did, waits}
use Rattle.ax_world.specs.Worlds.{Play, Gives}

-- the wait was met
pub until_did : (s : Story) (old new : Play) (k : ℕ) → slice_get s.page old.state.page_done ≡ Some (Until k) → k ≤ old.state.taken → new ≡ record { story = old.story; state = record old.state { page_done = old.state.page_done + 1 } } → Gives old (page_step old.state (slice_get s.page old.state.page_done)) (new, Did)
until_did s old new k line h e = subst (λ (o : Option PageLine). Gives old (page_step old.state o) (new, Did)) (sym line) (subst (λ b. Gives old (if b then did (record old.state { page_done = old.state.page_done + 1 }) else waits old.state k old.state.taken) (new, Did)) (sym met) (e, refl))
  where
    met : nat_le k old.state.taken ≡ true
    met = grind (arith, nat_tests)

-- it waits
pub until_waits : (s : Story) (old : Play) (k have : ℕ) → slice_get s.page old.state.page_done ≡ Some (Until k) → have ≡ old.state.taken → old.state.taken < k → Gives old (page_step old.state (slice_get s.page old.state.page_done)) (old, Waiting k have)
until_waits s old k have line e h = subst (λ (o : Option PageLine). Gives old (page_step old.state o) (old, Waiting k have)) (sym line) (subst (λ b. Gives old (if b then did (record old.state { page_done = old.state.page_done + 1 }) else waits old.state k old.state.taken) (old, Waiting k have)) (sym unmet) (refl, ap (λ m. Waiting k m) e))
  where
    unmet : nat_le k old.state.taken ≡ false
    unmet = grind (arith, nat_tests)
