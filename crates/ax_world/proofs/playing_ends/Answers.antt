use Rattle.std.proofs.Common.{◌<◌, ◌⊎◌, inl, inr, ◌++◌, length, ◌+◌, refl, sym, subst}
use Rattle.story_check.proofs.Caps.{goes}
use Rattle.ax_world.specs.Machine.{start, after_turns, alternate, lines_done, played}
use Rattle.ax_world.proofs.Playing.{stands_always, moves, after-append, played_over, legal_over, same_rounds}
use Rattle.ax_world.proofs.playing_ends.Goals as goal

pub returns-clause-moves : goal.returns-clause-moves
returns-clause-moves c s turns free going = subst (λ d. lines_done (after_turns s turns start) < lines_done d) (sym (after-append s turns (alternate 1) start)) (other (moves s (after_turns s turns start) (goes s free) (stands_always s turns)) going)
  where
    other : {A B : Type 0} → A ⊎ B → (A → ⊥) → B
    other (inl a) f = absurd (f a)
    other (inr b) f = b

pub returns-clause-ends : goal.returns-clause-ends
returns-clause-ends c s free = played_over s (goes s free)

pub returns-clause-legal : goal.returns-clause-legal
returns-clause-legal c s free = (refl, legal_over s (played s) (stands_always s (s.turns ++ alternate (length s.page + length s.client))) (played_over s (goes s free)))

pub returns-clause-same : goal.returns-clause-same
returns-clause-same c s n free over = same_rounds s s.turns n (length s.page + length s.client) over (played_over s (goes s free))
