-- One line of the client.
use Rattle.std.proofs.Common.{◌≡◌, ℕ, zero, suc, ◌+◌, ◌-◌, ◌≤◌, ◌<◌, max, List, [], ◌∷◌, ◌++◌, length, get_or, drop, Bool, true, false, refl, sym, ap, ◌∙◌, subst, append_assoc, length-append, arith}
use Rattle.std.proofs.Math.Seq.{drop-cons}
use Rattle.turn_word.specs.declared.view.Deed.{Deed}
use Rattle.turn_word.specs.declared.view.Deed.TheVariants.{Look, Take}
use Rattle.turn_word.specs.declared.view.ClientRecord.{ClientRecord}
use Rattle.turn_word.specs.Views.{new_client}
use Rattle.turn_word.specs.Deeds.{last_number}
use Rattle.turn_word.proofs.DeedsGrow.{last_number-snoc}
use Rattle.ax_port.specs.States.{ClientState, with_client, done, taken_up_to, over_client}
use Rattle.story_check.specs.declared.story.ClientLine.{ClientLine}
use Rattle.story_check.specs.declared.story.ClientLine.TheVariants.{Ask, Again, Hear, Await, Notices}
use Rattle.story_check.specs.Stories.{Story, flushes, cap, awaited}
use Rattle.story_check.proofs.Caps.{awaited-append}
use Rattle.ax_ask.specs.declared.transcripts.Entry.{Entry}
use Rattle.ax_ask.specs.declared.transcripts.EntryBody.{EntryBody}
use Rattle.ax_ask.specs.declared.transcripts.EntryBody.TheVariants.{Reply, Await as AwaitBody, Hear as HearBody, Notices as NoticesBody}
use Rattle.ax_ask.specs.declared.transcripts.Transcript.{Transcript}
use Rattle.ax_base.specs.declared.notices.Notice.{Notice}
use Rattle.ax_ask.specs.declared.requests.Request.{Request}
use Rattle.ax_ask.specs.declared.replies.Reply.{Reply as Answered}
use Rattle.ax_record.specs.Tree.{Tree}
use Rattle.story_check.specs.Moments.{tree_at, AreTrees}
use Rattle.ax_answer.specs.Answers.{answer}
use Rattle.ax_answer.specs.Moments.{answer_at, notices_of}
use Rattle.ax_answer.specs.Legal.{Place, outset, IsFound, IsEntry, after_entry, AreLegal, place_after}
use Rattle.ax_answer.proofs.Noticing.{notices-join, notices-none}
use Rattle.ax_answer.proofs.Places.{legal-snoc, place-snoc}
use Rattle.ax_client.specs.declared.ends.ClientEnd.{ClientEnd}
use Rattle.ax_client.specs.declared.ends.ClientEnd.TheVariants.{Done, NoMemory, Ended}
use Rattle.ax_client.specs.declared.steps.Side.{Side}
use Rattle.ax_client.specs.Follow.{AreLooks, Uses, Follows, LastWasOver}
use Rattle.ax_client.specs.Clients.{AwaitsAt, ClientDid, with_entry, Took, Listened, ClientStands}
use Rattle.ax_client.proofs.Deeds.{append-none, follows-snoc, last_over}

-- the next line, and those after it
pub next_line : (lines : List ClientLine) (i : ℕ) (x : ClientLine) → i < length lines → x ≡ get_or lines i x → drop i lines ≡ x ∷ drop (i + 1) lines
next_line lines i x low is = let n : suc i ≡ i + 1 = omega arith in drop-cons lines i x low ∙ (λ j. (sym is) j ∷ drop (n j) lines)

abbrev pub place_of : ClientRecord → Side → ℕ → ℕ → Place
place_of r side bell noticed = record { lines = side.done; moment = r.taken; bell = bell; noticed = noticed }

pub client_starts : (s : Story) (r : ClientRecord) (side : Side) → AreTrees s → r ≡ new_client → length s.client ≤ 16384 → side.done ≡ 0 → side.entries ≡ [] → side.moment ≡ 0 → side.tree ≡ tree_at s 0 → side.pending ≡ [] → ClientStands s s.client r side
client_starts s r side trees is few d e m t p = subst (λ (x : ClientRecord). ClientStands s s.client x side) (sym is) (record {
  before = [];
  bell = 0;
  noticed = 0;
  is = refl;
  few = few;
  trees = trees;
  count = d;
  legal = subst (λ (l : List Entry). AreLegal s outset [] l) (sym e) tt;
  place = λ i. record { lines = sym d i; moment = 0; bell = 0; noticed = 0 };
  follows = subst (λ (l : List Entry). Follows [] l []) (sym e) refl;
  waited = omega arith;
  heard_most = omega arith;
  noticed_most = omega arith;
  going = refl;
  moment = m;
  tree = t;
  pending = p ∙ sym (notices-none s 0);
})

-- there is room for one entry more
pub room : (s : Story) (line : ClientLine) (xs : List ClientLine) (r : ClientRecord) (side : Side) → ClientStands s (line ∷ xs) r side → side.done < 16384
room s line xs r side h =
    let n = ap length h.is in let m = length-append h.before (line ∷ xs) in let f = h.few in let c = h.count in omega arith

client_goes : (s : Story) (line : ClientLine) (xs : List ClientLine) (r new : ClientRecord) (side next : Side) (h : ClientStands s (line ∷ xs) r side) (e : Entry) (used : List Deed) (bell noticed : ℕ)
    → next.done ≡ side.done + 1 → next.entries ≡ side.entries ++ e ∷ [] → e.number ≡ side.done + 1 → IsEntry s (place_of r side h.bell h.noticed) line e → after_entry (place_of r side h.bell h.noticed) line e ≡ place_of new next bell noticed
    → new.deeds ≡ r.deeds ++ used → Uses line e.moment used → ((g : ℕ) → g ≤ r.taken → awaited g (line ∷ []) ≤ new.taken) → max new.taken bell ≤ last_number 0 new.deeds → noticed ≤ new.taken → new.over ≡ r.over
    → next.moment ≡ new.taken → next.tree ≡ tree_at s new.taken → next.pending ≡ notices_of s noticed new.taken → ClientStands s xs new next
client_goes s line xs r new side next h e used bell noticed n es number entry place deeds uses waited most told over m t p = record {
  before = h.before ++ line ∷ [];
  bell = bell;
  noticed = noticed;
  is = h.is ∙ sym (append_assoc h.before (line ∷ []) xs);
  few = h.few;
  trees = h.trees;
  count = let g = length-append h.before (line ∷ []) in let f = h.count in omega arith;
  legal = subst (λ (l : List Entry). AreLegal s outset (h.before ++ line ∷ []) l) (sym es) (legal-snoc s outset h.before side.entries line e h.legal (number ∙ ap (λ (c : Place). c.lines + 1) (sym h.place)) (subst (λ (c : Place). IsEntry s c line e) (sym h.place) entry));
  place = ap (λ (l : List Entry). place_after outset (h.before ++ line ∷ []) l) es ∙ (place-snoc s outset h.before side.entries line e h.legal ∙ (ap (λ (c : Place). after_entry c line e) h.place ∙ place));
  follows = subst (λ (y : List Entry × List Deed). Follows (h.before ++ line ∷ []) y.0 y.1) (λ i. (sym es i, sym deeds i)) (follows-snoc h.before side.entries r.deeds line e used h.follows uses);
  waited = let g = awaited-append 0 h.before (line ∷ []) in let f = waited (awaited 0 h.before) h.waited in omega arith;
  heard_most = most;
  noticed_most = told;
  going = over ∙ h.going;
  moment = m;
  tree = t;
  pending = p;
}

-- the reply of the tree of a moment
as_answered : (s : Story) (k : ℕ) (q : Request) (t : Tree) → t ≡ tree_at s k → answer t q ≡ answer_at s k q
unfolding answer_at
as_answered s k q t e = ap (λ (a : Tree). answer a q) e

-- an ask or an await, after some looks
client_takes : (s : Story) (line : ClientLine) (xs : List ClientLine) (r mid : ClientRecord) (side taken : Side) (looks : List Deed) (body : EntryBody) (h : ClientStands s (line ∷ xs) r side)
    → mid.taken ≡ r.taken → mid.over ≡ r.over → mid.deeds ≡ r.deeds ++ looks → last_number 0 r.deeds ≤ last_number 0 mid.deeds → (new : ClientRecord) → Took s mid new side taken
    → (IsFound s (place_of r side h.bell h.noticed) taken.moment → IsEntry s (place_of r side h.bell h.noticed) line (record { number = taken.done + 1; moment = taken.moment; body = body }))
    → after_entry (place_of r side h.bell h.noticed) line (record { number = taken.done + 1; moment = taken.moment; body = body }) ≡ record { lines = side.done + 1; moment = taken.moment; bell = h.bell; noticed = h.noticed }
    → Uses line taken.moment (looks ++ Take taken.moment ∷ []) → ((g : ℕ) → g ≤ taken.moment → awaited g (line ∷ []) ≤ taken.moment) → ClientStands s xs new (with_entry taken taken.moment body)
client_takes s line xs r mid side taken looks body h same over deeds more new t entry place uses waited =
    let m : ℕ = taken.moment in
    let from : r.taken ≤ m = let a = t.goes_on in omega arith in
    let rises : max r.taken h.bell ≤ m = let a = h.heard_most in let b = t.rises in omega arith in
    let capped : m ≤ cap s.page r.taken = subst (λ (k : ℕ). m ≤ cap s.page k) same t.capped in
    let last = last_number-snoc 0 mid.deeds (Take m) in
    let pending : taken.pending ≡ notices_of s h.noticed m =
    t.pending ∙ ((λ i. h.pending i ++ notices_of s (same i) m) ∙ sym (notices-join s h.noticed r.taken m h.noticed_most from)) in
    subst (λ (x : ClientRecord). ClientStands s xs x (with_entry taken m body)) (sym t.record_is)
    (client_goes s line xs r (taken_up_to (done mid (Take m)) m) side (with_entry taken m body) h (record { number = taken.done + 1; moment = m; body = body }) (looks ++ Take m ∷ []) h.bell h.noticed
    (ap (λ (n : ℕ). n + 1) t.done) (ap (λ (l : List Entry). l ++ record { number = taken.done + 1; moment = m; body = body } ∷ []) t.entries) (ap (λ (n : ℕ). n + 1) t.done)
    (entry (rises, capped)) (place ∙ (λ i. record { lines = sym t.done i + 1; moment = m; bell = h.bell; noticed = h.noticed }))
    (ap (λ (d : List Deed). d ++ Take m ∷ []) deeds ∙ append_assoc r.deeds looks (Take m ∷ [])) uses
    (λ g k. waited g (omega arith)) (let a = rises in omega arith) (let a = h.noticed_most in omega arith) over refl t.tree pending)

pub client_asks : (s : Story) (xs : List ClientLine) (r new : ClientRecord) (side taken next : Side) (q : Request) (reply : Answered) → Took s r new side taken → reply ≡ answer taken.tree q → next ≡ with_entry taken taken.moment (Reply reply) → ClientStands s (Ask q ∷ xs) r side → ClientStands s xs new next
client_asks s xs r new side taken next q reply t e f h =
    subst (ClientStands s xs new) (sym f)
    (client_takes s (Ask q) xs r r side taken [] (Reply reply) h refl refl (sym (append-none r.deeds)) (omega arith) new t
    (λ found. (found, ap Reply (e ∙ as_answered s taken.moment q _ t.tree))) refl refl (λ g k. k))

pub client_awaits : (xs : List ClientLine) (a mid : ClientState) (new : ClientRecord) (side taken next : Side) (need : ℕ) → Listened a mid → need ≤ last_number 0 mid.client.deeds → Took mid.story mid.client new side taken → next ≡ with_entry taken taken.moment AwaitBody → ClientStands a.story (Await need ∷ xs) a.client side → ClientStands a.story xs new next
client_awaits xs a mid new side taken next need l reached took f h =
    let t : Took a.story mid.client new side taken = subst (λ (s : Story). Took s mid.client new side taken) l.same.1 took in
    let met : need ≤ taken.moment = let k = t.rises in omega arith in
    subst (ClientStands a.story xs new) (sym f)
    (client_takes a.story (Await need) xs a.client mid.client side taken l.looks AwaitBody h l.taken l.over l.deeds l.rises new t
    (λ found. (found, met, refl)) refl (l.looks, l.are_looks, refl) (λ g k. omega arith))

pub client_agains : (s : Story) (xs : List ClientLine) (r : ClientRecord) (side next : Side) (q : Request) (reply : Answered) → reply ≡ answer side.tree q → next ≡ with_entry side side.moment (Reply reply) → ClientStands s (Again q ∷ xs) r side → ClientStands s xs r next
client_agains s xs r side next q reply e f h =
    subst (ClientStands s xs r) (sym f)
    (client_goes s (Again q) xs r r side (with_entry side side.moment (Reply reply)) h (record { number = side.done + 1; moment = side.moment; body = Reply reply }) [] h.bell h.noticed
    refl refl refl (h.moment, ap Reply (e ∙ as_answered s r.taken q _ h.tree)) refl (sym (append-none r.deeds)) refl (λ g k. k) h.heard_most h.noticed_most refl h.moment h.tree h.pending)

pub client_hears : (s : Story) (xs : List ClientLine) (r new : ClientRecord) (side next : Side) (k : ℕ) (over : Bool) → new ≡ done r (Look k over) → last_number 0 r.deeds ≤ k → k ≤ cap s.page r.taken → next ≡ with_entry side k HearBody → ClientStands s (Hear ∷ xs) r side → ClientStands s xs new next
client_hears s xs r new side next k over is rises capped f h =
    let a = h.heard_most in
    let last = last_number-snoc 0 r.deeds (Look k over) in
    subst (λ (y : ClientRecord × Side). ClientStands s xs y.0 y.1) (λ i. (sym is i, sym f i))
    (client_goes s Hear xs r (done r (Look k over)) side (with_entry side k HearBody) h (record { number = side.done + 1; moment = k; body = HearBody }) (Look k over ∷ []) k h.noticed
    refl refl refl ((omega arith, capped), refl) refl refl (over, refl) (λ g j. j) (omega arith) h.noticed_most refl h.moment h.tree h.pending)

pub client_notices : (s : Story) (xs : List ClientLine) (r : ClientRecord) (side next : Side) (none : List Notice) → none ≡ [] → next ≡ with_entry (record side { pending = none }) side.moment (NoticesBody side.pending) → ClientStands s (Notices ∷ xs) r side → ClientStands s xs r next
client_notices s xs r side next none e f h =
    subst (ClientStands s xs r) (sym f)
    (client_goes s Notices xs r r side (with_entry (record side { pending = none }) side.moment (NoticesBody side.pending)) h (record { number = side.done + 1; moment = side.moment; body = NoticesBody side.pending }) [] h.bell r.taken
    refl refl refl (h.moment, ap NoticesBody h.pending) refl (sym (append-none r.deeds)) refl (λ g k. k) h.heard_most (omega arith) refl h.moment h.tree (e ∙ sym (notices-none s r.taken)))

-- the page is over before the moment that is awaited
pub client_ends_there : (s : Story) (xs : List ClientLine) (a mid : ClientState) (side : Side) (need have : ℕ) → Listened a mid → LastWasOver have mid.client.deeds → have < need → ClientStands s (Await need ∷ xs) a.client side → ClientDid s mid.client (Ended need have)
client_ends_there s xs a mid side need have l over less h =
    let last = last_over have mid.client.deeds over in
    let w = h.waited in let m = h.heard_most in let r = l.rises in let t = l.taken in
    (over, record { before = h.before; after = xs; is = h.is; met = omega arith; reached = omega arith; more = less })

-- the last line is done
pub client_is_done : (s : Story) (left : List ClientLine) (r : ClientRecord) (side : Side) (w : Transcript) → left ≡ [] → w.entries ≡ side.entries → w.flushes ≡ flushes s.page → ClientStands s left r side → ClientDid s (over_client r) (Done w)
client_is_done s left r side w none e f h =
    let all : h.before ≡ s.client = sym (h.is ∙ (ap (λ (l : List ClientLine). h.before ++ l) none ∙ append-none h.before)) in (
      (f, subst (λ (y : List ClientLine × List Entry). AreLegal s outset y.0 y.1) (λ i. (all i, sym e i)) h.legal),
      subst (λ (y : List ClientLine × List Entry). Follows y.0 y.1 r.deeds) (λ i. (all i, sym e i)) h.follows,
      subst (λ (l : List ClientLine). awaited 0 l ≤ r.taken) all h.waited,
    )

-- closing the port changes none of it
pub client_closes : (s : Story) (r : ClientRecord) (end : ClientEnd) → ClientDid s r end → ClientDid s (over_client r) end
client_closes s r (Done w) h = h
client_closes s r NoMemory h = h
client_closes s r (Ended need have) h = h

pub client_starts_at : (s : Story) (lines : List ClientLine) (r : ClientRecord) (side : Side) → AreTrees s → lines ≡ s.client → r ≡ new_client → length lines ≤ 16384 → side.done ≡ 0 → side.entries ≡ [] → side.moment ≡ 0 → side.tree ≡ tree_at s 0 → side.pending ≡ [] → ClientStands s lines r side
client_starts_at s lines r side trees e is few d es m t p = subst (λ (l : List ClientLine). ClientStands s l r side) (sym e) (client_starts s r side trees is (subst (λ (l : List ClientLine). length l ≤ 16384) e few) d es m t p)

-- the same of ports
pub ends_closed : (s t : Story) (port closed : ClientState) (end : ClientEnd) → t ≡ s → closed ≡ with_client port (over_client port.client) → ClientDid t port.client end → ClientDid s closed.client end
ends_closed s t port closed end same is h = subst (λ (y : Story × ClientRecord). ClientDid y.0 y.1 end) (λ i. (same i, ap (λ (v : ClientState). v.client) (sym is) i)) (client_closes t port.client end h)

pub done_closed : (s : Story) (left : List ClientLine) (port closed : ClientState) (side : Side) (w : Transcript) → left ≡ [] → w.entries ≡ side.entries → w.flushes ≡ flushes s.page → closed ≡ with_client port (over_client port.client) → ClientStands s left port.client side → ClientDid s closed.client (Done w)
done_closed s left port closed side w none e f is h = subst (λ (r : ClientRecord). ClientDid s r (Done w)) (ap (λ (v : ClientState). v.client) (sym is)) (client_is_done s left port.client side w none e f h)

pub next_at : (lines : List ClientLine) (i : ℕ) (d : ClientLine) → i < length lines → drop i lines ≡ get_or lines i d ∷ drop (i + 1) lines
next_at lines i d low = let n : suc i ≡ i + 1 = omega arith in drop-cons lines i d low ∙ ap (λ (k : ℕ). get_or lines i d ∷ drop k lines) n

pub drop_all : (lines : List ClientLine) (i : ℕ) → length lines ≤ i → drop i lines ≡ []
drop_all [] zero h = refl
drop_all [] (suc i) h = refl
drop_all (x ∷ xs) zero h = absurd (omega arith)
drop_all (x ∷ xs) (suc i) h = drop_all xs i (omega arith)
