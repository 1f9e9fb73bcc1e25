-- A story that is not stuck is played to its end.
use Rattle.std.proofs.Common.{◌≡◌, ℕ, zero, suc, ◌+◌, ◌-◌, ◌≤◌, ◌<◌, List, [], ◌∷◌, ◌++◌, length, take, None, Bool, true, false, ◌&&◌, ◌⊎◌, inl, inr, refl, sym, ap, ◌∙◌, subst, length-append, arith}
use Rattle.std.specs.Prelude.{nat_lt, nat_le, slice_get, if◌then◌else◌}
use Rattle.std.proofs.lemmas.Bool.Decides.{nat_tests}
use Rattle.std.proofs.lemmas.Option.{slice_get_past}
use Rattle.story_check.specs.declared.story.PageLine.{PageLine}
use Rattle.story_check.specs.declared.story.PageLine.TheVariants.{Change, Flush, Until}
use Rattle.story_check.specs.declared.story.ClientLine.{ClientLine}
use Rattle.story_check.specs.declared.story.ClientLine.TheVariants.{Ask, Again, Hear, Await, Notices}
use Rattle.ax_base.specs.declared.ids.Who.{Who}
use Rattle.ax_base.specs.declared.ids.Who.TheVariants.{Page, Client}
use Rattle.story_check.specs.Stories.{Story, flushes, cap, awaited, awaits_met, untils_met}
use Rattle.story_check.proofs.Caps.{cap_past, cap_rises, untils-append, untils_rise, and_left, awaits_left, Goes}
use Rattle.ax_ask.specs.declared.transcripts.EntryBody.TheVariants.{Await as AwaitBody}
use Rattle.ax_answer.specs.Legal.{outset, AreLegal, IsLegalSoFar, IsLegal}
use Rattle.ax_world.specs.Machine.{State, start, step, page_step, client_step, did, waits, printed, after_turns, alternate, IsOver, lines_done, played}
use Rattle.ax_world.proofs.Standing.{first, at_seam, PageStands, ClientStands, Stands, stands_start, stands_step}

pub stands_after : (s : Story) (turns : List Who) (c : State) → Stands s c → Stands s (after_turns s turns c)
stands_after s [] c h = h
stands_after s (who ∷ turns) c h = stands_after s turns (step s c who).state (stands_step s c who h)

pub stands_always : (s : Story) (turns : List Who) → Stands s (after_turns s turns start)
stands_always s turns = stands_after s turns start (stands_start s)

take_before : {X : Type 0} (xs before left : List X) (i : ℕ) → xs ≡ before ++ left → i ≡ length before → take i xs ≡ before
take_before xs before left i e n = (λ j. take (n j) (e j)) ∙ take-all before left
  where
    take-all : {X : Type 0} (before left : List X) → take (length before) (before ++ left) ≡ before
    take-all [] left = refl
    take-all (x ∷ xs) left = ap (λ l. x ∷ l) (take-all xs left)

pub legal_so_far : (s : Story) (c : State) → Stands s c → IsLegalSoFar s c.client_done c.entries
legal_so_far s c h = let k = h.client in subst (λ l. AreLegal s outset l c.entries) (sym (take_before s.client k.before k.left c.client_done k.is k.count)) k.legal

-- the page did a line, or it stays where it may publish no more
pub record PageHeld (s : Story) (c d : State) : Type 0 where
  pub same : d ≡ c
  pub full : c.published ≡ cap s.page c.taken
  pub why : (c.page_done ≡ length s.page) ⊎ (untils_met c.taken s.page ≡ false)

abbrev PageGoes : State → State → Type 0
PageGoes c d = (d.page_done ≡ c.page_done + 1) × (d.client_done ≡ c.client_done)

all_done : {X : Type 0} (xs before : List X) (i : ℕ) → xs ≡ before ++ [] → i ≡ length before → i ≡ length xs
all_done xs before i e n = let h = length-append before [] in let g = ap length e in omega arith

page_comes : (s : Story) (c : State) (p : PageStands s c) (left : List PageLine) → s.page ≡ p.before ++ left → let d = (page_step c (first left)).state in PageGoes c d ⊎ PageHeld s c d
page_comes s c p [] is = inr (record {
  same = refl;
  full = let h = cap_past p.before [] c.taken p.passed in let g = ap (λ l. cap l c.taken) is in let f = p.flushed in omega arith;
  why = inl (all_done s.page p.before c.page_done is p.count);
})
page_comes s c p (Change e ∷ xs) is = inl (refl, refl)
page_comes s c p (Flush ∷ xs) is = inl (refl, refl)
page_comes s c p (Until k ∷ xs) is = through (nat_le k c.taken) (nat_lt c.taken k) refl refl (cap_past p.before (Until k ∷ xs) c.taken p.passed) (untils-append p.before (Until k ∷ xs) c.taken)
  where
    through : (a b : Bool) → nat_le k c.taken ≡ a → nat_lt c.taken k ≡ b → cap (p.before ++ Until k ∷ xs) c.taken ≡ flushes p.before + (if b then 0 else cap xs c.taken) → untils_met c.taken (p.before ++ Until k ∷ xs) ≡ (untils_met c.taken p.before && (a && untils_met c.taken xs)) → let d = (if a then did (record c { page_done = c.page_done + 1 }) else waits c k c.taken).state in PageGoes c d ⊎ PageHeld s c d
    through true b e f g u = inl (refl, refl)
    through false true e f g u = inr (record {
      same = refl;
      full = let x = ap (λ l. cap l c.taken) is in let y = p.flushed in omega arith;
      why = inr (ap (λ l. untils_met c.taken l) is ∙ (u ∙ and_false (untils_met c.taken p.before)));
    })
      where
        and_false : (z : Bool) → (z && false) ≡ false
        and_false true = refl
        and_false false = refl
    through false false e f g u = absurd (grind (arith, nat_tests))

-- the client did a line, or it stays at its end, or at a moment that is not published yet
pub record ClientHeld (s : Story) (c d : State) : Type 0 where
  pub same : d ≡ c
  pub why : ((c.client_done ≡ length s.client) × (awaited 0 s.client ≤ c.taken)) ⊎ ((g a : ℕ) × (g ≤ c.taken) × (a ≤ cap s.page g) × (c.published < a))

abbrev ClientGoes : State → State → Type 0
ClientGoes c d = (d.client_done ≡ c.client_done + 1) × (d.page_done ≡ c.page_done)

client_comes : (s : Story) (c : State) (h : ClientStands s c) (left : List ClientLine) → Goes s → s.client ≡ h.before ++ left → let d = (client_step s c (first left)).state in ClientGoes c d ⊎ ClientHeld s c d
client_comes s c h [] go is = inr (record {
  same = refl;
  why = inl (all_done s.client h.before c.client_done is h.count, let e = ap (awaited 0) (is ∙ append-none h.before) in let w = h.waited in omega arith);
})
  where
    append-none : {X : Type 0} (xs : List X) → xs ++ [] ≡ xs
    append-none [] = refl
    append-none (x ∷ xs) = ap (λ l. x ∷ l) (append-none xs)
client_comes s c h (Ask q ∷ xs) go is = inl (refl, refl)
client_comes s c h (Again q ∷ xs) go is = inl (refl, refl)
client_comes s c h (Hear ∷ xs) go is = inl (refl, refl)
client_comes s c h (Notices ∷ xs) go is = inl (refl, refl)
client_comes s c h (Await a ∷ xs) go is = through (nat_le a c.published) refl (and_left _ _ (awaits_left s.page 0 h.before (Await a ∷ xs) (sym (ap (awaits_met s.page 0) is) ∙ go.awaits)))
  where
    through : (b : Bool) → nat_le a c.published ≡ b → nat_le a (cap s.page (awaited 0 h.before)) ≡ true → let d = (if b then did (record (printed c c.published AwaitBody) { taken = c.published }) else waits c a c.published).state in ClientGoes c d ⊎ ClientHeld s c d
    through true e f = inl (refl, refl)
    through false e f = let more : c.published < a = grind (arith, nat_tests) in let capped : a ≤ cap s.page (awaited 0 h.before) = grind (arith, nat_tests) in inr (record { same = refl; why = inr (awaited 0 h.before, a, h.waited, capped, more) })

page_turn : (s : Story) (c : State) → Stands s c → PageGoes c (step s c Page).state ⊎ PageHeld s c (step s c Page).state
page_turn s c h =
    let p = h.page in
    subst (λ o. PageGoes c (page_step c o).state ⊎ PageHeld s c (page_step c o).state) (sym (at_seam s.page p.before p.left c.page_done p.is p.count)) (page_comes s c p p.left p.is)

client_turn : (s : Story) (c : State) → Goes s → Stands s c → ClientGoes c (step s c Client).state ⊎ ClientHeld s c (step s c Client).state
client_turn s c go h =
    let k = h.client in
    subst (λ o. ClientGoes c (client_step s c o).state ⊎ ClientHeld s c (client_step s c o).state) (sym (at_seam s.client k.before k.left c.client_done k.is k.count)) (client_comes s c k k.left go k.is)

-- both sides can't wait
both_held : (s : Story) (c d e : State) → Goes s → PageHeld s c d → ClientHeld s c e → IsOver s c
both_held s c d e go p k = through p.why k.why
  where
    through : (c.page_done ≡ length s.page) ⊎ (untils_met c.taken s.page ≡ false) → ((c.client_done ≡ length s.client) × (awaited 0 s.client ≤ c.taken)) ⊎ ((g a : ℕ) × (g ≤ c.taken) × (a ≤ cap s.page g) × (c.published < a)) → IsOver s c
    through (inl x) (inl y) = (x, y.0)
    through (inr x) (inl y) = absurd (let h = untils_rise s.page _ _ y.1 go.untils in cc)
    through x (inr y) = absurd (let h = cap_rises s.page y.0 c.taken y.2 in let f = p.full in let a = y.3 in let b = y.4 in omega arith)

-- two alternate turns
abbrev pub twice : Story → State → State
twice s c = after_turns s (alternate 1) c

pub moves : (s : Story) (c : State) → Goes s → Stands s c → IsOver s c ⊎ (lines_done c < lines_done (twice s c))
moves s c go h = through (page_turn s c h) (client_turn s d go (stands_step s c Page h))
  where
    d : State
    d = (step s c Page).state

    through : PageGoes c d ⊎ PageHeld s c d → ClientGoes d (step s d Client).state ⊎ ClientHeld s d (step s d Client).state → IsOver s c ⊎ (lines_done c < lines_done (twice s c))
    through (inl p) (inl k) = inr (omega arith)
    through (inl p) (inr k) = let e = ap lines_done k.same in inr (omega arith)
    through (inr p) (inl k) = let e = ap lines_done p.same in inr (omega arith)
    through (inr p) (inr k) = inl (both_held s c d (step s d Client).state go p (subst (λ x. ClientHeld s x (step s d Client).state) p.same k))

past : {X : Type 0} (xs : List X) (i : ℕ) → i ≡ length xs → slice_get xs i ≡ None
past xs i e = slice_get_past xs i (omega arith)

-- nothing changes when both sides are done
pub over_stays : (s : Story) (turns : List Who) (c : State) → IsOver s c → after_turns s turns c ≡ c
over_stays s [] c h = refl
over_stays s (Page ∷ turns) c h = ap (after_turns s turns) (ap (λ o. (page_step c o).state) (past s.page c.page_done h.0)) ∙ over_stays s turns c h
over_stays s (Client ∷ turns) c h = ap (after_turns s turns) (ap (λ o. (client_step s c o).state) (past s.client c.client_done h.1)) ∙ over_stays s turns c h

pub after-append : (s : Story) (xs ys : List Who) (c : State) → after_turns s (xs ++ ys) c ≡ after_turns s ys (after_turns s xs c)
after-append s [] ys c = refl
after-append s (x ∷ xs) ys c = after-append s xs ys (step s c x).state

pub alternate-add : (n k : ℕ) → alternate (n + k) ≡ alternate n ++ alternate k
alternate-add zero k = ap alternate (omega arith)
alternate-add (suc n) k = let e : suc n + k ≡ suc (n + k) = omega arith in ap alternate e ∙ ap (λ l. Page ∷ Client ∷ l) (alternate-add n k)

-- each round does a line, or all are done
rounds : (s : Story) (n : ℕ) (c : State) → Goes s → Stands s c → IsOver s (after_turns s (alternate n) c) ⊎ (lines_done c + n ≤ lines_done (after_turns s (alternate n) c))
rounds s zero c go h = inr (omega arith)
rounds s (suc n) c go h = through (moves s c go h) (rounds s n (twice s c) go (stands_after s (alternate 1) c h))
  where
    through : IsOver s c ⊎ (lines_done c < lines_done (twice s c)) → IsOver s (after_turns s (alternate n) (twice s c)) ⊎ (lines_done (twice s c) + n ≤ lines_done (after_turns s (alternate n) (twice s c))) → IsOver s (after_turns s (alternate (suc n)) c) ⊎ (lines_done c + suc n ≤ lines_done (after_turns s (alternate (suc n)) c))
    through (inl over) y = inl (subst (IsOver s) (sym (over_stays s (alternate (suc n)) c over)) over)
    through (inr more) (inl over) = inl over
    through (inr more) (inr y) = inr (omega arith)

within : {X : Type 0} (xs before left : List X) (i : ℕ) → xs ≡ before ++ left → i ≡ length before → i ≤ length xs
within xs before left i e n = let h = length-append before left in let g = ap length e in omega arith

pub page_within : (s : Story) (c : State) → Stands s c → c.page_done ≤ length s.page
page_within s c h = let p = h.page in within s.page p.before p.left c.page_done p.is p.count

pub client_within : (s : Story) (c : State) → Stands s c → c.client_done ≤ length s.client
client_within s c h = let k = h.client in within s.client k.before k.left c.client_done k.is k.count

pub over_after : (s : Story) (c : State) → Goes s → Stands s c → IsOver s (after_turns s (alternate (length s.page + length s.client)) c)
over_after s c go h = through (rounds s n c go h) (page_within s e k) (client_within s e k)
  where
    n : ℕ
    n = length s.page + length s.client

    e : State
    e = after_turns s (alternate n) c

    k : Stands s e
    k = stands_after s (alternate n) c h

    through : IsOver s e ⊎ (lines_done c + n ≤ lines_done e) → e.page_done ≤ length s.page → e.client_done ≤ length s.client → IsOver s e
    through (inl over) f g = over
    through (inr more) f g = (omega arith, omega arith)

pub played_over : (s : Story) → Goes s → IsOver s (played s)
played_over s go = subst (IsOver s) (sym (after-append s s.turns (alternate (length s.page + length s.client)) start)) (over_after s (after_turns s s.turns start) go (stands_always s s.turns))

-- the entries of a state in which all is done are those of a whole run
pub legal_over : (s : Story) (c : State) → Stands s c → IsOver s c → IsLegal s c.entries
legal_over s c h over = subst (λ l. AreLegal s outset l c.entries) (ap (λ i. take i s.client) over.1 ∙ take-length s.client) (legal_so_far s c h)
  where
    take-length : {X : Type 0} (xs : List X) → take (length xs) xs ≡ xs
    take-length [] = refl
    take-length (x ∷ xs) = ap (λ l. x ∷ l) (take-length xs)

-- more rounds than needed change nothing
longer : (s : Story) (turns : List Who) (n k : ℕ) → IsOver s (after_turns s (turns ++ alternate n) start) → after_turns s (turns ++ alternate (n + k)) start ≡ after_turns s (turns ++ alternate n) start
longer s turns n k over =
    let c = after_turns s turns start in
    let first_part = after-append s turns (alternate n) start in
    after-append s turns (alternate (n + k)) start
    ∙ (ap (λ l. after_turns s l c) (alternate-add n k)
    ∙ (after-append s (alternate n) (alternate k) c
    ∙ (ap (after_turns s (alternate k)) (sym first_part)
    ∙ over_stays s (alternate k) _ over)))

pub same_rounds : (s : Story) (turns : List Who) (n m : ℕ) → IsOver s (after_turns s (turns ++ alternate n) start) → IsOver s (after_turns s (turns ++ alternate m) start) → after_turns s (turns ++ alternate n) start ≡ after_turns s (turns ++ alternate m) start
same_rounds s turns n m x y = through (nat_le n m) refl
  where
    through : (b : Bool) → nat_le n m ≡ b → after_turns s (turns ++ alternate n) start ≡ after_turns s (turns ++ alternate m) start
    through true e = let h : n ≤ m = grind (arith, nat_tests) in let f : n + (m - n) ≡ m = omega arith in sym (ap (λ i. after_turns s (turns ++ alternate i) start) (sym f) ∙ longer s turns n (m - n) x)
    through false e = let h : m < n = grind (arith, nat_tests) in let f : m + (n - m) ≡ n = omega arith in ap (λ i. after_turns s (turns ++ alternate i) start) (sym f) ∙ longer s turns m (n - m) y
