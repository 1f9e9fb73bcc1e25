-- What a take brings, and what looks bring.
use Rattle.std.proofs.Common.{◌≡◌, ℕ, ◌≤◌, List, [], ◌∷◌, ◌++◌, Bool, true, refl, sym, ap, ◌∙◌, subst, append_assoc, arith}
use Rattle.turn_word.specs.declared.view.Deed.{Deed}
use Rattle.turn_word.specs.declared.view.Deed.TheVariants.{Look, Take}
use Rattle.turn_word.specs.Deeds.{last_number}
use Rattle.turn_word.proofs.DeedsGrow.{last_number-snoc}
use Rattle.ax_port.specs.States.{ClientState, with_client, done, taken_up_to}
use Rattle.story_check.specs.Stories.{Story, cap}
use Rattle.ax_base.specs.declared.notices.Notice.{Notice}
use Rattle.ax_record.specs.Tree.{Tree}
use Rattle.story_check.specs.Moments.{tree_at, AreTrees}
use Rattle.change_log.specs.declared.log.LogEntries.{LogEntries}
use Rattle.change_log.specs.Logs.{span, patched_by, notices_in, MayPatch}
use Rattle.change_log.proofs.Spans.{span_patches, span_fits, span_notices}
use Rattle.ax_answer.specs.Moments.{notices_of}
use Rattle.ax_client.specs.declared.steps.Side.{Side}
use Rattle.ax_client.specs.Follow.{LastWasOver}
use Rattle.ax_client.specs.Clients.{Took, Listened}
use Rattle.ax_client.proofs.Deeds.{append-none, looks-snoc}

-- the log fits the client's tree
pub take_fits : (s : Story) (tree : Tree) (t from to : ℕ) (log : LogEntries) → AreTrees s → tree ≡ tree_at s t → from ≡ t → log ≡ span (tree_at s) from to → MayPatch tree log
take_fits s tree t from to log h e f g = subst (λ (y : Tree × LogEntries). MayPatch y.0 y.1) (λ i. (sym e i, sym (g ∙ ap (λ (k : ℕ). span (tree_at s) k to) f) i)) (span_fits (tree_at s) t to h)

-- the notices of a span of a story
told_of_span : (s : Story) (t p : ℕ) → notices_in (span (tree_at s) t p) ≡ notices_of s t p
unfolding notices_of
told_of_span s t p = span_notices (tree_at s) t p

pub took : (old new : ClientState) (side : Side) (from to : ℕ) (tree : Tree) (log : LogEntries) (notices pending : List Notice) → AreTrees old.story → side.tree ≡ tree_at old.story old.client.taken → new ≡ with_client old (taken_up_to (done old.client (Take to)) to) → from ≡ old.client.taken → log ≡ span (tree_at old.story) from to
    → last_number 0 old.client.deeds ≤ to → from ≤ to → to ≤ cap old.story.page from → tree ≡ patched_by side.tree log → notices ≡ notices_in log → pending ≡ side.pending ++ notices
    → Took old.story old.client new.client side (record { tree = tree; moment = to; pending = pending; entries = side.entries; done = side.done })
took old new side from to tree log notices pending trees here deed is got rises goes capped patched told more =
    let s : Story = old.story in
    let t : ℕ = old.client.taken in
    let up : t ≤ to = let f = is in omega arith in
    let spans : log ≡ span (tree_at s) t to = got ∙ ap (λ (k : ℕ). span (tree_at s) k to) is in
    record {
      record_is = ap (λ (v : ClientState). v.client) deed;
      rises = rises;
      goes_on = up;
      capped = subst (λ (k : ℕ). to ≤ cap s.page k) is capped;
      tree = patched ∙ ((λ i. patched_by (here i) (spans i)) ∙ span_patches (tree_at s) t to trees up);
      pending = more ∙ ap (λ (l : List Notice). side.pending ++ l) (told ∙ (ap notices_in spans ∙ told_of_span s t to));
      entries = refl;
      done = refl;
    }

pub listened_none : (a : ClientState) → Listened a a
listened_none a = record { same = (refl, refl); taken = refl; over = refl; looks = []; are_looks = tt; deeds = sym (append-none a.client.deeds); rises = omega arith }

-- the last number after a look
pub heard_last : (b c : ClientState) (k : ℕ) (over : Bool) → c ≡ with_client b (done b.client (Look k over)) → last_number 0 c.client.deeds ≡ k
heard_last b c k over e = ap (λ (v : ClientState). last_number 0 v.client.deeds) e ∙ last_number-snoc 0 b.client.deeds (Look k over)

pub heard_over : (b c : ClientState) (k : ℕ) (over : Bool) → c ≡ with_client b (done b.client (Look k over)) → over ≡ true → LastWasOver k c.client.deeds
heard_over b c k over e f = (b.client.deeds, ap (λ (v : ClientState). v.client.deeds) e ∙ ap (λ (o : Bool). b.client.deeds ++ Look k o ∷ []) f)

pub listened_more : (a b c : ClientState) (k : ℕ) (over : Bool) → c ≡ with_client b (done b.client (Look k over)) → last_number 0 b.client.deeds ≤ k → Listened a b → Listened a c
listened_more a b c k over e rises l =
    let last = heard_last b c k over e in
    let before = l.rises in
    record {
      same = (ap (λ (v : ClientState). v.table) e ∙ l.same.0, ap (λ (v : ClientState). v.story) e ∙ l.same.1);
      taken = ap (λ (v : ClientState). v.client.taken) e ∙ l.taken;
      over = ap (λ (v : ClientState). v.client.over) e ∙ l.over;
      looks = l.looks ++ Look k over ∷ [];
      are_looks = looks-snoc l.looks k over l.are_looks;
      deeds = ap (λ (v : ClientState). v.client.deeds) e ∙ (ap (λ (d : List Deed). d ++ Look k over ∷ []) l.deeds ∙ append_assoc a.client.deeds l.looks (Look k over ∷ []));
      rises = omega arith;
    }
