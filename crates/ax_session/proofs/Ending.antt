-- What the workers promise, at the last state.
use Rattle.std.proofs.Common.{◌≡◌, ℕ, ◌≤◌, List, [], ◌∷◌, ◌++◌, Bool, true, false, refl, sym, ap, ◌∙◌, subst, arith}
use Rattle.std.specs.Prelude.{Result, Ok, Err, IfOk}
use Rattle.turn_word.specs.declared.view.Deed.{Deed}
use Rattle.turn_word.specs.declared.view.Deed.TheVariants.{Look, Take}
use Rattle.turn_word.specs.declared.view.PageRecord.{PageRecord}
use Rattle.turn_word.specs.declared.view.ClientRecord.{ClientRecord}
use Rattle.turn_word.specs.Deeds.{Told}
use Rattle.ax_port.specs.States.{IsLast}
use Rattle.story_check.specs.Stories.{Story, flushes, cap, awaited, untils_met}
use Rattle.story_check.proofs.Caps.{untils_rise}
use Rattle.ax_base.specs.Document.{Document}
use Rattle.ax_base.specs.declared.memory.NoMemory.{NoMemory}
use Rattle.ax_ask.specs.declared.transcripts.Transcript.{Transcript}
use Rattle.ax_answer.specs.Legal.{IsLegalTranscript}
use Rattle.ax_record.specs.Tree.{Tree}
use Rattle.ax_record.specs.Records.{tree}
use Rattle.story_check.specs.Moments.{tree_at, document_at}
use Rattle.live_tree.specs.LiveTrees.{LiveDocument, unmarked}
use Rattle.page_thread.specs.declared.ends.PageEnd.{PageEnd}
use Rattle.page_thread.specs.declared.ends.PageEnd.TheVariants.{Done as PageDone, NoMemory as PageNoMemory, Ended as PageEnded}
use Rattle.page_thread.specs.Pages.{PageDid}
use Rattle.ax_client.specs.declared.ends.ClientEnd.{ClientEnd}
use Rattle.ax_client.specs.declared.ends.ClientEnd.TheVariants.{Done as ClientDone, NoMemory as ClientNoMemory, Ended as ClientEnded}
use Rattle.ax_client.specs.Clients.{ClientDid}
use Rattle.ax_session.specs.Ends.{PageFacts, ClientFacts}

pub page_facts : (s : Story) (r : PageRecord) (c : ClientRecord) (end : PageEnd) → PageDid s r end → IsLast s r c → PageFacts s end r.published c.taken
page_facts s r c PageDone d l = (d.0, untils_rise s.page r.seen c.taken l.seen_true.seen_taken d.1)
page_facts s r c PageNoMemory d l = tt
page_facts s r c (PageEnded need have) d l = (sym d.0 ∙ (l.seen_true.seen_over d.1).1, d.2, d.3)

-- a look that told the page's end told what is published at last
told_last : (over : Bool) (published k : ℕ) (ds : List Deed) → Told over published (ds ++ Look k true ∷ []) → published ≡ k
told_last over p k [] t = t.1
told_last over p k (Look j true ∷ ds) t = told_last over p k ds t.2
told_last over p k (Look j false ∷ ds) t = told_last over p k ds t
told_last over p k (Take q ∷ ds) t = told_last over p k ds t

pub client_facts : (s : Story) (r : PageRecord) (c : ClientRecord) (end : ClientEnd) → ClientDid s c end → IsLast s r c → ClientFacts s end r.published c.taken
client_facts s r c (ClientDone w) d l = d.2
client_facts s r c ClientNoMemory d l = tt
client_facts s r c (ClientEnded need have) d l = (sym (told_last r.over r.published have d.0.0 (subst (λ (ds : List Deed). Told r.over r.published ds) d.0.1 l.deeds_true.told)), d.1)

pub page_facts_at : (s t : Story) (r : PageRecord) (c : ClientRecord) (end : PageEnd) (published taken : ℕ) → t ≡ s → published ≡ r.published → taken ≡ c.taken → PageDid s r end → IsLast t r c → PageFacts s end published taken
page_facts_at s t r c end published taken same p q d l = subst (λ (y : ℕ × ℕ). PageFacts s end y.0 y.1) (λ i. (sym p i, sym q i)) (page_facts s r c end d (subst (λ (u : Story). IsLast u r c) same l))

pub client_facts_at : (s t u : Story) (r : PageRecord) (c : ClientRecord) (end : ClientEnd) (published taken : ℕ) → t ≡ s → u ≡ s → published ≡ r.published → taken ≡ c.taken → ClientDid u c end → IsLast t r c → ClientFacts s end published taken
client_facts_at s t u r c end published taken same of p q d l = subst (λ (y : ℕ × ℕ). ClientFacts s end y.0 y.1) (λ i. (sym p i, sym q i)) (client_facts s r c end (subst (λ (v : Story). ClientDid v c end) of d) (subst (λ (v : Story). IsLast v r c) same l))

-- the live tree of moment 0
pub live_starts : (s : Story) (d : Document) (live : LiveDocument) → live ≡ unmarked (tree d) d → d ≡ document_at s 0 → live ≡ unmarked (tree_at s 0) (document_at s 0)
unfolding tree_at
live_starts s d live e f = e ∙ (λ i. unmarked (tree (f i)) (f i))

-- and the tree of its flush
pub tree_starts : (s t : Story) (copy : Tree) (live : LiveDocument) → t ≡ s → copy ≡ live.flushed → live ≡ unmarked (tree_at s 0) (document_at s 0) → copy ≡ tree_at t 0
tree_starts s t copy live same e g = e ∙ (ap (λ (l : LiveDocument). l.flushed) g ∙ ap (λ (v : Story). tree_at v 0) (sym same))

-- what the client was told is legal
pub told_legal : (s u : Story) (r : ClientRecord) (end : ClientEnd) (result : Result Transcript NoMemory) → u ≡ s → ClientDid u r end → IfOk result (λ w. end ≡ ClientDone w) → IfOk result (IsLegalTranscript s)
told_legal s u r end (Ok w) of did is = (subst (λ (e : ClientEnd). ClientDid s r e) is (subst (λ (v : Story). ClientDid v r end) of did)).0
told_legal s u r end (Err e) of did is = tt
