-- A wait that is not met is the other side's want of memory.
use Rattle.std.proofs.Common.{◌≡◌, ℕ, ◌+◌, ◌≤◌, ◌<◌, List, ◌∷◌, ◌++◌, Bool, true, false, ◌&&◌, refl, sym, ap, ◌∙◌, subst, arith}
use Rattle.std.specs.Prelude.{nat_le}
use Rattle.std.proofs.lemmas.Bool.Decides.{nat_tests}
use Rattle.story_check.specs.declared.story.PageLine.{PageLine}
use Rattle.story_check.specs.declared.story.PageLine.TheVariants.{Until}
use Rattle.story_check.specs.declared.story.ClientLine.{ClientLine}
use Rattle.story_check.specs.declared.story.ClientLine.TheVariants.{Await}
use Rattle.story_check.specs.Stories.{Story, flushes, cap, awaited, awaits_met, untils_met, stuck}
use Rattle.story_check.proofs.Caps.{cap_most, cap_rises, untils_rise, untils-append, and_left, and_right, awaits_left, Goes, goes}
use Rattle.page_thread.specs.declared.ends.PageEnd.{PageEnd}
use Rattle.page_thread.specs.declared.ends.PageEnd.TheVariants.{Done as PageDone, NoMemory as PageNoMemory, Ended as PageEnded}
use Rattle.page_thread.specs.Pages.{WaitsAt}
use Rattle.ax_client.specs.declared.ends.ClientEnd.{ClientEnd}
use Rattle.ax_client.specs.declared.ends.ClientEnd.TheVariants.{Done as ClientDone, NoMemory as ClientNoMemory, Ended as ClientEnded}
use Rattle.ax_client.specs.Clients.{AwaitsAt}
use Rattle.ax_session.specs.Ends.{PageFacts, ClientFacts, IsPaired}

-- a wait for no more than t is met
within : (need t : ℕ) → nat_le need t ≡ true → need ≤ t
within need t e = grind (arith, nat_tests)

-- where no line waits for more than t, none stops at t
pub none_waits : (page : List PageLine) (need have : ℕ) → untils_met have page ≡ true → WaitsAt page need have → ⊥
none_waits page need have met w =
    let split : (untils_met have w.before && untils_met have (Until need ∷ w.after)) ≡ true = sym (ap (untils_met have) w.is ∙ untils-append w.before (Until need ∷ w.after) have) ∙ met in
    let here = and_left (nat_le need have) (untils_met have w.after) (and_right (untils_met have w.before) _ split) in
    let low = within need have here in
    let more = w.more in
    absurd (omega arith)

-- what is awaited may be published at what was taken
pub may_come : (s : Story) (need have taken : ℕ) → Goes s → AwaitsAt s.client need have taken → need ≤ cap s.page taken
may_come s need have taken go w =
    let all : awaits_met s.page 0 (w.before ++ Await need ∷ w.after) ≡ true = ap (awaits_met s.page 0) (sym w.is) ∙ go.awaits in
    let here = and_left (nat_le need (cap s.page (awaited 0 w.before))) _ (awaits_left s.page 0 w.before (Await need ∷ w.after) all) in
    let low = within need (cap s.page (awaited 0 w.before)) here in
    let rise = cap_rises s.page (awaited 0 w.before) taken w.reached in
    omega arith

pub paired : (s : Story) (page : PageEnd) (client : ClientEnd) (published taken : ℕ) → Goes s → PageFacts s page published taken → ClientFacts s client published taken → IsPaired page client
paired s PageDone (ClientDone w) p t go f g = tt
paired s PageDone ClientNoMemory p t go f g = tt
paired s PageDone (ClientEnded need have) p t go f g =
    let come = may_come s need have t go g.1 in let most = cap_most s.page t in let more = g.1.more in let is = g.0 in let all = f.0 in absurd (omega arith)
paired s PageNoMemory client p t go f g = tt
paired s (PageEnded need have) (ClientDone w) p t go f g =
    none_waits s.page need have (untils_rise s.page (awaited 0 s.client) have (let is = f.0 in omega arith) go.untils) f.1
paired s (PageEnded need have) ClientNoMemory p t go f g = tt
paired s (PageEnded need have) (ClientEnded n h) p t go f g =
    let come = may_come s n h t go g.1 in let more = g.1.more in let is = g.0 in let all : p ≡ cap s.page t = f.2 ∙ ap (cap s.page) f.0 in absurd (omega arith)

pub settled : (s : Story) (page : PageEnd) (client : ClientEnd) (published taken : ℕ) → stuck s ≡ false → PageFacts s page published taken → ClientFacts s client published taken → IsPaired page client
settled s page client published taken free f g = paired s page client published taken (goes s free) f g

-- the same of ends that are known
pub never : (page a : PageEnd) (client b : ClientEnd) → page ≡ a → client ≡ b → IsPaired page client → IsPaired a b
never page a client b e f h = subst (λ (y : PageEnd × ClientEnd). IsPaired y.0 y.1) (λ i. (e i, f i)) h
