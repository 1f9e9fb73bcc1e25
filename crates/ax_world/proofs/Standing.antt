-- What holds of the core between any two turns.
use Rattle.std.proofs.Common.{◌≡◌, ℕ, ◌+◌, ◌≤◌, List, [], ◌∷◌, ◌++◌, length, get_or, Option, Some, None, Bool, true, false, ◌&&◌, refl, sym, ap, ◌∙◌, subst, append_assoc, length-append, arith}
use Rattle.std.specs.Prelude.{nat_le, slice_get, if◌then◌else◌}
use Rattle.std.proofs.lemmas.Bool.Decides.{nat_tests}
use Rattle.std.proofs.lemmas.Option.{slice_get_past, slice_get_read}
use Rattle.std.proofs.Math.Seq.{get_or-append_seam}
use Rattle.story_check.specs.declared.story.PageLine.{PageLine}
use Rattle.story_check.specs.declared.story.PageLine.TheVariants.{Change, Flush, Until}
use Rattle.story_check.specs.declared.story.ClientLine.{ClientLine}
use Rattle.story_check.specs.declared.story.ClientLine.TheVariants.{Ask, Again, Hear, Await, Notices}
use Rattle.ax_base.specs.declared.ids.Who.{Who}
use Rattle.ax_base.specs.declared.ids.Who.TheVariants.{Page, Client}
use Rattle.story_check.specs.Stories.{Story, flushes, cap, awaited, untils_met}
use Rattle.story_check.proofs.Caps.{flushes-append, cap_past, untils-append, untils_rise, and_true, awaited-append}
use Rattle.ax_ask.specs.declared.transcripts.Entry.{Entry}
use Rattle.ax_ask.specs.declared.transcripts.EntryBody.TheVariants.{Reply, Await as AwaitBody, Hear as HearBody, Notices as NoticesBody}
use Rattle.ax_answer.specs.Moments.{answer_at, notices_of}
use Rattle.ax_answer.specs.Legal.{Place, outset, IsFound, IsEntry, after_entry, AreLegal, place_after}
use Rattle.ax_answer.proofs.Places.{legal-snoc, place-snoc}
use Rattle.ax_world.specs.Machine.{State, start, step, page_step, client_step, did, waits, printed}

abbrev pub first : {X : Type 0} → List X → Option X
first [] = None
first (x ∷ xs) = Some x

-- the line at the seam is the first that is left
pub at_seam : {X : Type 0} (xs before left : List X) (i : ℕ) → xs ≡ before ++ left → i ≡ length before → slice_get xs i ≡ first left
at_seam xs before [] i e n = slice_get_past xs i (let h = length-append before [] in let g = ap length e in omega arith)
at_seam xs before (x ∷ rest) i e n = slice_get_read xs (length xs) i x refl (let h = length-append before (x ∷ rest) in let g = ap length e in omega arith) (sym (get_or-append_seam before x rest x) ∙ (λ j. get_or (sym e j) (sym n j) x))

-- the page has done some of its lines, and none of them waits for more than what is taken
pub record PageAt (page : List PageLine) (done published taken : ℕ) : Type 0 where
  pub before : List PageLine
  pub left : List PageLine
  pub is : page ≡ before ++ left
  pub count : done ≡ length before
  pub flushed : published ≡ flushes before
  pub passed : untils_met taken before ≡ true

abbrev pub PageStands : Story → State → Type 0
PageStands s c = PageAt s.page c.page_done c.published c.taken

page_goes : (page before : List PageLine) (x : PageLine) (xs : List PageLine) (i p q m : ℕ) → page ≡ before ++ x ∷ xs → i ≡ length before → p ≡ flushes before → untils_met m before ≡ true → untils_met m (x ∷ []) ≡ true → q ≡ p + flushes (x ∷ []) → PageAt page (i + 1) q m
page_goes page before x xs i p q m is count flushed passed met more = record {
  before = before ++ x ∷ [];
  left = xs;
  is = is ∙ sym (append_assoc before (x ∷ []) xs);
  count = let h = length-append before (x ∷ []) in omega arith;
  flushed = let h = flushes-append before (x ∷ []) in omega arith;
  passed = and_true _ _ _ (untils-append before (x ∷ []) m) passed met;
}

page_line : (s : Story) (c : State) (before left : List PageLine) → s.page ≡ before ++ left → c.page_done ≡ length before → c.published ≡ flushes before → untils_met c.taken before ≡ true → PageStands s (page_step c (first left)).state
page_line s c before [] is n f p = record { before = before; left = []; is = is; count = n; flushed = f; passed = p }
page_line s c before (Change e ∷ xs) is n f p = page_goes s.page before (Change e) xs c.page_done c.published c.published c.taken is n f p refl (omega arith)
page_line s c before (Flush ∷ xs) is n f p = page_goes s.page before Flush xs c.page_done c.published (c.published + 1) c.taken is n f p refl (omega arith)
page_line s c before (Until k ∷ xs) is n f p = through (nat_le k c.taken) refl
  where
    through : (b : Bool) → nat_le k c.taken ≡ b → PageStands s (if b then did (record c { page_done = c.page_done + 1 }) else waits c k c.taken).state
    through true e = page_goes s.page before (Until k) xs c.page_done c.published c.published c.taken is n f p (ap (λ b. b && true) e) (omega arith)
    through false e = record { before = before; left = Until k ∷ xs; is = is; count = n; flushed = f; passed = p }

-- more may be taken
page_later : (page : List PageLine) (i p m q : ℕ) → m ≤ q → PageAt page i p m → PageAt page i p q
page_later page i p m q h a = record { before = a.before; left = a.left; is = a.is; count = a.count; flushed = a.flushed; passed = untils_rise a.before m q h a.passed }

-- no more is published than may be
pub page_capped : (page : List PageLine) (i p m : ℕ) → PageAt page i p m → p ≤ cap page m
page_capped page i p m a = let h = cap_past a.before a.left m a.passed in let g = ap (λ l. cap l m) a.is in let f = a.flushed in omega arith

abbrev pub place_of : State → Place
place_of c = record { lines = c.client_done; moment = c.taken; bell = c.bell; noticed = c.noticed }

-- the client has done some of its lines, and its entries are legal
pub record ClientStands (s : Story) (c : State) : Type 0 where
  pub before : List ClientLine
  pub left : List ClientLine
  pub is : s.client ≡ before ++ left
  pub count : c.client_done ≡ length before
  pub waited : awaited 0 before ≤ c.taken
  pub taken_most : c.taken ≤ c.published
  pub bell_most : c.bell ≤ c.published
  pub noticed_most : c.noticed ≤ c.taken
  pub legal : AreLegal s outset before c.entries
  pub place : place_after outset before c.entries ≡ place_of c

-- the page's turns leave the client where it is
client_later : (s : Story) (c : State) (i p : ℕ) → c.published ≤ p → ClientStands s c → ClientStands s (record c { page_done = i; published = p })
client_later s c i p h a = let x = a.taken_most in let y = a.bell_most in record {
  before = a.before;
  left = a.left;
  is = a.is;
  count = a.count;
  waited = a.waited;
  taken_most = omega arith;
  bell_most = omega arith;
  noticed_most = a.noticed_most;
  legal = a.legal;
  place = a.place;
}

client_goes : (s : Story) (c d : State) (h : ClientStands s c) (line : ClientLine) (xs : List ClientLine) (e : Entry) → s.client ≡ h.before ++ line ∷ xs → d.client_done ≡ c.client_done + 1 → d.entries ≡ c.entries ++ e ∷ [] → e.number ≡ c.client_done + 1 → IsEntry s (place_of c) line e → place_of d ≡ after_entry (place_of c) line e → ((g : ℕ) → g ≤ c.taken → awaited g (line ∷ []) ≤ d.taken) → d.taken ≤ d.published → d.bell ≤ d.published → d.noticed ≤ d.taken → ClientStands s d
client_goes s c d h line xs e is n es number entry place waited tm bm nm = record {
  before = h.before ++ line ∷ [];
  left = xs;
  is = is ∙ sym (append_assoc h.before (line ∷ []) xs);
  count = let g = length-append h.before (line ∷ []) in let f = h.count in omega arith;
  waited = let g = awaited-append 0 h.before (line ∷ []) in let f = waited (awaited 0 h.before) h.waited in omega arith;
  taken_most = tm;
  bell_most = bm;
  noticed_most = nm;
  legal = subst (λ l. AreLegal s outset (h.before ++ line ∷ []) l) (sym es) (legal-snoc s outset h.before c.entries line e h.legal (number ∙ ap (λ (p : Place). p.lines + 1) (sym h.place)) (subst (λ p. IsEntry s p line e) (sym h.place) entry));
  place = ap (λ l. place_after outset (h.before ++ line ∷ []) l) es ∙ (place-snoc s outset h.before c.entries line e h.legal ∙ (ap (λ p. after_entry p line e) h.place ∙ sym place));
}

-- a take finds what a take may find
found : (s : Story) (c : State) → PageStands s c → ClientStands s c → IsFound s (place_of c) c.published
found s c p h = let x = h.taken_most in let y = h.bell_most in (omega arith, page_capped s.page c.page_done c.published c.taken p)

client_line : (s : Story) (c : State) (p : PageStands s c) (h : ClientStands s c) (left : List ClientLine) → s.client ≡ h.before ++ left → ClientStands s (client_step s c (first left)).state
client_line s c p h [] is = h
client_line s c p h (Ask q ∷ xs) is = client_goes s c _ h (Ask q) xs (record { number = c.client_done + 1; moment = c.published; body = Reply (answer_at s c.published q) }) is refl refl refl (found s c p h, refl) refl (λ g k. let x = h.taken_most in omega arith) (omega arith) (h.bell_most) (let x = h.taken_most in let y = h.noticed_most in omega arith)
client_line s c p h (Again q ∷ xs) is = client_goes s c _ h (Again q) xs (record { number = c.client_done + 1; moment = c.taken; body = Reply (answer_at s c.taken q) }) is refl refl refl (refl, refl) refl (λ g k. k) h.taken_most h.bell_most h.noticed_most
client_line s c p h (Hear ∷ xs) is = client_goes s c _ h Hear xs (record { number = c.client_done + 1; moment = c.published; body = HearBody }) is refl refl refl (found s c p h, refl) refl (λ g k. k) h.taken_most (omega arith) h.noticed_most
client_line s c p h (Await a ∷ xs) is = through (nat_le a c.published) refl
  where
    through : (b : Bool) → nat_le a c.published ≡ b → ClientStands s (if b then did (record (printed c c.published AwaitBody) { taken = c.published }) else waits c a c.published).state
    through true e = let reached : a ≤ c.published = grind (arith, nat_tests) in client_goes s c _ h (Await a) xs (record { number = c.client_done + 1; moment = c.published; body = AwaitBody }) is refl refl refl (found s c p h, reached, refl) refl (λ g k. let x = h.taken_most in omega arith) (omega arith) h.bell_most (let x = h.taken_most in let y = h.noticed_most in omega arith)
    through false e = h
client_line s c p h (Notices ∷ xs) is = client_goes s c _ h Notices xs (record { number = c.client_done + 1; moment = c.taken; body = NoticesBody (notices_of s c.noticed c.taken) }) is refl refl refl (refl, refl) refl (λ g k. k) h.taken_most h.bell_most (omega arith)

-- both sides
pub record Stands (s : Story) (c : State) : Type 0 where
  pub page : PageStands s c
  pub client : ClientStands s c

pub stands_start : (s : Story) → Stands s start
stands_start s = record {
  page = record { before = []; left = s.page; is = refl; count = refl; flushed = refl; passed = refl };
  client = record { before = []; left = s.client; is = refl; count = refl; waited = omega arith; taken_most = omega arith; bell_most = omega arith; noticed_most = omega arith; legal = tt; place = refl };
}

-- the page's turn leaves the client's part
client_of_page : (s : Story) (c : State) (line : Option PageLine) → ClientStands s c → ClientStands s (page_step c line).state
client_of_page s c None h = h
client_of_page s c (Some (Change e)) h = client_later s c (c.page_done + 1) c.published (omega arith) h
client_of_page s c (Some Flush) h = client_later s c (c.page_done + 1) (c.published + 1) (omega arith) h
client_of_page s c (Some (Until k)) h = through (nat_le k c.taken)
  where
    through : (b : Bool) → ClientStands s (if b then did (record c { page_done = c.page_done + 1 }) else waits c k c.taken).state
    through true = client_later s c (c.page_done + 1) c.published (omega arith) h
    through false = h

-- the client's turn leaves the page's part
page_of_client : (s : Story) (c : State) (line : Option ClientLine) → c.taken ≤ c.published → PageStands s c → PageStands s (client_step s c line).state
page_of_client s c None k h = h
page_of_client s c (Some (Ask q)) k h = page_later _ _ _ _ _ k h
page_of_client s c (Some (Again q)) k h = h
page_of_client s c (Some Hear) k h = h
page_of_client s c (Some (Await a)) k h = through (nat_le a c.published)
  where
    through : (b : Bool) → PageStands s (if b then did (record (printed c c.published AwaitBody) { taken = c.published }) else waits c a c.published).state
    through true = page_later _ _ _ _ _ k h
    through false = h
page_of_client s c (Some Notices) k h = h

pub stands_step : (s : Story) (c : State) (who : Who) → Stands s c → Stands s (step s c who).state
stands_step s c Page h =
    let p = h.page in
    let e = at_seam s.page p.before p.left c.page_done p.is p.count in
    record {
      page = subst (λ o. PageStands s (page_step c o).state) (sym e) (page_line s c p.before p.left p.is p.count p.flushed p.passed);
      client = client_of_page s c _ h.client;
    }
stands_step s c Client h =
    let k = h.client in
    let e = at_seam s.client k.before k.left c.client_done k.is k.count in
    record {
      page = page_of_client s c _ k.taken_most h.page;
      client = subst (λ o. ClientStands s (client_step s c o).state) (sym e) (client_line s c h.page k k.left k.is);
    }
