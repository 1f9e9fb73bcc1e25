-- What the two ends say of the last state.
use Rattle.std.specs.Prelude.{◌≡◌, ℕ, ◌≤◌, true}
use Rattle.story_check.specs.Stories.{Story, flushes, cap, awaited, untils_met}
use Rattle.page_thread.specs.declared.ends.PageEnd.{PageEnd}
use Rattle.page_thread.specs.declared.ends.PageEnd.TheVariants.{Done as PageDone, NoMemory as PageNoMemory, Ended as PageEnded}
use Rattle.page_thread.specs.Pages.{WaitsAt}
use Rattle.ax_client.specs.declared.ends.ClientEnd.{ClientEnd}
use Rattle.ax_client.specs.declared.ends.ClientEnd.TheVariants.{Done as ClientDone, NoMemory as ClientNoMemory, Ended as ClientEnded}
use Rattle.ax_client.specs.Clients.{AwaitsAt}

-- of what is published and what is taken at last, by the page's end
abbrev pub PageFacts : Story → PageEnd → ℕ → ℕ → Type 0
PageFacts s PageDone published taken = (published ≡ flushes s.page) × (untils_met taken s.page ≡ true)
PageFacts s PageNoMemory published taken = Unit {0}
PageFacts s (PageEnded need have) published taken = (have ≡ taken) × WaitsAt s.page need have × (published ≡ cap s.page have)

-- and by the client's
abbrev pub ClientFacts : Story → ClientEnd → ℕ → ℕ → Type 0
ClientFacts s (ClientDone w) published taken = awaited 0 s.client ≤ taken
ClientFacts s ClientNoMemory published taken = Unit {0}
ClientFacts s (ClientEnded need have) published taken = (have ≡ published) × AwaitsAt s.client need have taken

-- a side whose wait was not met comes with want of memory on the other side
abbrev pub IsPaired : PageEnd → ClientEnd → Type 0
IsPaired PageDone (ClientDone w) = Unit {0}
IsPaired PageDone ClientNoMemory = Unit {0}
IsPaired PageDone (ClientEnded need have) = ⊥
IsPaired PageNoMemory end = Unit {0}
IsPaired (PageEnded need have) (ClientDone w) = ⊥
IsPaired (PageEnded need have) ClientNoMemory = Unit {0}
IsPaired (PageEnded need have) (ClientEnded n h) = ⊥
