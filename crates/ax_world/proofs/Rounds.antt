-- The loops that play a story.
use Rattle.std.proofs.Common.{◌≡◌, ℕ, zero, suc, ◌+◌, ◌-◌, ◌≤◌, ◌<◌, List, [], ◌∷◌, ◌++◌, length, take, get_or, false, ◌⊎◌, inl, inr, refl, sym, ap, ◌∙◌, subst, append_assoc, arith}
use Rattle.std.proofs.Math.Seq.{take-suc}
use Rattle.ax_base.specs.declared.ids.Who.{Who}
use Rattle.ax_base.specs.declared.ids.Who.TheVariants.{Page, Client}
use Rattle.story_check.specs.Stories.{Story, stuck}
use Rattle.story_check.proofs.Caps.{goes}
use Rattle.ax_world.specs.Machine.{State, start, step, after_turns, alternate, lines_done, IsOver, InRounds, played, played_in_turns}
use Rattle.ax_answer.specs.Legal.{IsLegal}
use Rattle.ax_world.proofs.Standing.{Stands}
use Rattle.ax_world.proofs.Playing.{stands_always, after-append, alternate-add, moves, twice, played_over, same_rounds, over_after, page_within, client_within, legal_over}

pub step_more : (s : Story) (turns : List Who) (i : ℕ) (d : Who) (c new : State) → i < length turns → c ≡ after_turns s (take i turns) start → new ≡ (step s c (get_or turns i d)).state → new ≡ after_turns s (take (i + 1) turns) start
step_more s turns i d c new h e f =
    let n : suc i ≡ i + 1 = omega arith in
    f ∙ (ap (λ x. (step s x (get_or turns i d)).state) e ∙ (sym (after-append s (take i turns) (get_or turns i d ∷ []) start) ∙ ap (λ l. after_turns s l start) (sym (take-suc turns i d h) ∙ ap (λ k. take k turns) n)))

take-all : {X : Type 0} (xs : List X) (i : ℕ) → length xs ≤ i → take i xs ≡ xs
take-all [] zero h = refl
take-all [] (suc i) h = refl
take-all (x ∷ xs) zero h = absurd (omega arith)
take-all (x ∷ xs) (suc i) h = ap (λ l. x ∷ l) (take-all xs i (omega arith))

append-none : {X : Type 0} (xs : List X) → xs ++ [] ≡ xs
append-none [] = refl
append-none (x ∷ xs) = ap (λ l. x ∷ l) (append-none xs)

pub round_more : (s : Story) (turns : List Who) (n : ℕ) (c a b : State) → c ≡ after_turns s (turns ++ alternate n) start → a ≡ (step s c Page).state → b ≡ (step s a Client).state → b ≡ after_turns s (turns ++ alternate (n + 1)) start
round_more s turns n c a b e f g =
    g ∙ (ap (λ x. (step s x Client).state) f ∙ (ap (twice s) e ∙ (sym (after-append s (turns ++ alternate n) (alternate 1) start) ∙ ap (λ l. after_turns s l start) (append_assoc turns (alternate n) (alternate 1) ∙ ap (λ l. turns ++ l) (sym (alternate-add n 1))))))

stands_at : (s : Story) (turns : List Who) (c : State) → c ≡ after_turns s turns start → Stands s c
stands_at s turns c e = subst (Stands s) (sym e) (stands_always s turns)

pub round_falls : (s : Story) (turns : List Who) (n : ℕ) (c a b : State) → stuck s ≡ false → c ≡ after_turns s (turns ++ alternate n) start → a ≡ (step s c Page).state → b ≡ (step s a Client).state → (IsOver s c → ⊥) → length s.page + length s.client - lines_done b < length s.page + length s.client - lines_done c
round_falls s turns n c a b free e f g going = through (moves s c (goes s free) (stands_at s (turns ++ alternate n) c e)) (page_within s b at_b) (client_within s b at_b)
  where
    at_b : Stands s b
    at_b = stands_at s (turns ++ alternate (n + 1)) b (round_more s turns n c a b e f g)

    is : b ≡ twice s c
    is = g ∙ ap (λ x. (step s x Client).state) f

    through : IsOver s c ⊎ (lines_done c < lines_done (twice s c)) → b.page_done ≤ length s.page → b.client_done ≤ length s.client → length s.page + length s.client - lines_done b < length s.page + length s.client - lines_done c
    through (inl over) x y = absurd (going over)
    through (inr more) x y = let h = ap lines_done is in omega arith

pub round_ends : (s : Story) (n : ℕ) (c : State) → stuck s ≡ false → c ≡ after_turns s (s.turns ++ alternate n) start → IsOver s c → c ≡ played s
round_ends s n c free e over = e ∙ same_rounds s s.turns n (length s.page + length s.client) (subst (IsOver s) e over) (played_over s (goes s free))

pub no_rounds : (s : Story) (c : State) (turns : List Who) → c ≡ after_turns s turns start → c ≡ after_turns s (turns ++ alternate 0) start
no_rounds s c turns e = e ∙ ap (λ l. after_turns s l start) (sym (append-none turns))

-- what rounds lead to is what is played
pub rounds_end : (s : Story) (c d : State) → stuck s ≡ false → c ≡ after_turns s s.turns start → InRounds s c d → IsOver s d → d ≡ played s
rounds_end s c d free e r over = round_ends s r.0 d free (r.1 s.turns e) over

-- what rounds from the start lead to is what alternate turns alone come to
pub rounds_alone : (s : Story) (c d : State) → stuck s ≡ false → c ≡ start → InRounds s c d → IsOver s d → d ≡ played_in_turns s
rounds_alone s c d free e r over =
    let is = r.1 [] e in
    is ∙ same_rounds s [] r.0 (length s.page + length s.client) (subst (IsOver s) is over) (over_after s start (goes s free) (stands_always s []))

-- and its entries are legal
pub rounds_legal : (s : Story) (c d : State) (turns : List Who) → c ≡ after_turns s turns start → InRounds s c d → IsOver s d → IsLegal s d.entries
rounds_legal s c d turns e r over = legal_over s d (stands_at s (turns ++ alternate r.0) d (r.1 turns e)) over

-- all turns of a list were done
pub all_done : (s : Story) (turns xs : List Who) (i : ℕ) (c : State) → xs ≡ turns → length xs ≤ i → c ≡ after_turns s (take i xs) start → c ≡ after_turns s turns start
all_done s turns xs i c e h f = f ∙ ap (λ l. after_turns s l start) (take-all xs i h ∙ e)
