-- Lines without their edits are refused as the lines are, and tell as much at their end.
use Rattle.std.proofs.Common.{◌≡◌, ℕ, List, [], ◌∷◌, ◌++◌, Bool, true, false, not, refl, sym, ap, ◌∙◌, subst, append-nil}
use Rattle.std.specs.Prelude.{nat_le, if◌then◌else◌, Option, Some, None, Result, Ok, Err}
use Rattle.ax_base.specs.Document.{Document}
use Rattle.ax_dom.specs.declared.edit.Edit.{Edit}
use Rattle.ax_dom.specs.Changes.{edited}
use Rattle.story_lines.specs.declared.reading.Line.{Line}
use Rattle.story_lines.specs.declared.reading.Line.TheVariants.{Change as EditLine, Start as StartLine, Flush as FlushLine, Until as UntilLine, Ask as AskLine, Again as AgainLine, Hear as HearLine, Await as AwaitLine, Notices as NoticesLine, Turns as TurnsLine}
use Rattle.story_lines.specs.declared.reading.LineFail.{LineFail}
use Rattle.story_check.specs.declared.story.PageLine.{PageLine}
use Rattle.story_check.specs.declared.story.PageLine.TheVariants.{Change, Flush, Until}
use Rattle.story_check.specs.declared.refusals.Cause.{Cause}
use Rattle.story_check.specs.declared.refusals.Cause.TheVariants.{NoStart, TooManyFlushes}
use Rattle.story_check.specs.declared.refusals.Refusal.{Refusal}
use Rattle.story_check.specs.declared.refusals.AcceptFail.{AcceptFail}
use Rattle.story_check.specs.declared.refusals.AcceptFail.TheVariants.{Refused, NoMemory}
use Rattle.story_check.specs.Stories.{Story, flushes, unflushed, closed}
use Rattle.story_check.specs.Acceptance.{LinesRead, first_cause, line_cause, line_effect, with_edit, unless, read_cause, after_line, story_of, story_refusal, input_refusal, end_refusal, accept_unless, at_end, AcceptFails, Comes}
use Rattle.story_check.specs.Holding.{pauses, lines_kept, story_kept, Progress, held, held_edit, held_line, held_page, held_story, held_refusal, told_unless, told, told_of, told_where, GoesOn}
use Rattle.story_check.proofs.Pauses.{flushes-pauses, pauses-append, unflushed-append, refusal-kept}
use Rattle.story_check.proofs.LastFlush.{last_document}
use Rattle.story_check.proofs.Sound.{IsSound}

cause-kept : (keeps : Bool) (p : LinesRead) (line : Line) → line_cause (lines_kept keeps p) line ≡ line_cause p line
cause-kept true p line = refl
cause-kept false p (EditLine e) = refl
cause-kept false p StartLine = refl
cause-kept false p FlushLine = ap (λ n. first_cause ((not p.started, NoStart) ∷ (nat_le 65536 n, TooManyFlushes) ∷ [])) (flushes-pauses p.page)
cause-kept false p (UntilLine k) = refl
cause-kept false p (AskLine r) = refl
cause-kept false p (AgainLine r) = refl
cause-kept false p HearLine = refl
cause-kept false p (AwaitLine a) = refl
cause-kept false p NoticesLine = refl
cause-kept false p (TurnsLine text) = refl

-- an edit behind the start is behind the last flush
edit_opens : (b : Bool) (e : Edit) (q : LinesRead) → (if b then true else unflushed false q.page)
    ≡ unflushed false (if b then record q { page = q.page ++ Change e ∷ [] } else record q { base = q.base ++ e ∷ [] }).page
edit_opens true e q = sym (unflushed-append false q.page (Change e ∷ []))
edit_opens false e q = refl

-- it leaves no trace where edits are not kept
edit_passes : (b : Bool) (e : Edit) (q : LinesRead) → lines_kept false q
    ≡ lines_kept false (if b then record q { page = q.page ++ Change e ∷ [] } else record q { base = q.base ++ e ∷ [] })
edit_passes true e q = λ i. record q { base = []; page = sym (pauses-append q.page (Change e ∷ []) ∙ append-nil (pauses q.page)) i }
edit_passes false e q = refl

edit-kept : (n : ℕ) (keeps : Bool) (p : LinesRead) (e : Edit) → held_edit e (held keeps p) ≡ held keeps (line_effect n p (EditLine e))
edit-kept n true p e = λ i. record { keeps = true; pending = edit_opens p.started e (record p { document = edited p.document e }) i; lines = with_edit e (record p { document = edited p.document e }) }
edit-kept n false p e = λ i. record { keeps = false; pending = edit_opens p.started e (record p { document = edited p.document e }) i; lines = edit_passes p.started e (record p { document = edited p.document e }) i }

flush-kept : (n : ℕ) (keeps : Bool) (p : LinesRead) → held_line n (held keeps p) FlushLine ≡ held keeps (line_effect n p FlushLine)
flush-kept n true p = λ i. record { keeps = true; pending = sym (unflushed-append false p.page (Flush ∷ [])) i; lines = line_effect n p FlushLine }
flush-kept n false p = λ i. record { keeps = false; pending = sym (unflushed-append false p.page (Flush ∷ [])) i; lines = record p { base = []; page = sym (pauses-append p.page (Flush ∷ [])) i } }

until-kept : (n : ℕ) (keeps : Bool) (p : LinesRead) (k : ℕ) → held_line n (held keeps p) (UntilLine k) ≡ held keeps (line_effect n p (UntilLine k))
until-kept n true p k = λ i. record { keeps = true; pending = sym (unflushed-append false p.page (Until k ∷ [])) i; lines = line_effect n p (UntilLine k) }
until-kept n false p k = λ i. record { keeps = false; pending = sym (unflushed-append false p.page (Until k ∷ [])) i; lines = record p { base = []; page = sym (pauses-append p.page (Until k ∷ [])) i } }

-- what is held behind a line is what is held of the lines with it
line-kept : (n : ℕ) (keeps : Bool) (p : LinesRead) (line : Line) → held_line n (held keeps p) line ≡ held keeps (line_effect n p line)
line-kept n keeps p (EditLine e) = edit-kept n keeps p e
line-kept n keeps p FlushLine = flush-kept n keeps p
line-kept n keeps p (UntilLine k) = until-kept n keeps p k
line-kept n true p StartLine = refl
line-kept n true p (AskLine r) = refl
line-kept n true p (AgainLine r) = refl
line-kept n true p HearLine = refl
line-kept n true p (AwaitLine a) = refl
line-kept n true p NoticesLine = refl
line-kept n true p (TurnsLine text) = refl
line-kept n false p StartLine = refl
line-kept n false p (AskLine r) = refl
line-kept n false p (AgainLine r) = refl
line-kept n false p HearLine = refl
line-kept n false p (AwaitLine a) = refl
line-kept n false p NoticesLine = refl
line-kept n false p (TurnsLine text) = refl

unless-kept : {T : Type 0} (r : Result T AcceptFail) (n : ℕ) (keeps : Bool) (new : Progress) (c : Option Cause) (q : LinesRead) → Comes r new (unless n c (held keeps q)) → GoesOn r keeps new (unless n c q)
unless-kept (Ok x) n keeps new None q e = (q, refl, cc)
unless-kept (Ok x) n keeps new (Some c) q e = absurd (cc)
unless-kept (Err NoMemory) n keeps new c q e = tt
unless-kept (Err (Refused refusal)) n keeps new None q e = absurd (cc)
unless-kept (Err (Refused refusal)) n keeps new (Some c) q e = cc

-- a line that is taken
pub takes : {T : Type 0} (r : Result T AcceptFail) (n : ℕ) (h new : Progress) (line : Line) (what : Result (Option Line) LineFail) → what ≡ Ok (Some line)
    → Comes r new (unless n (line_cause h.lines line) (held_line n h line)) → (p : LinesRead) → h ≡ held h.keeps p → GoesOn r h.keeps new (after_line n p what)
takes r n h new line what is e p same =
    let k = h.keeps in
    let here : Comes r new (unless n (line_cause (lines_kept k p) line) (held_line n (held k p) line)) = subst (λ (z : Progress). Comes r new (unless n (line_cause z.lines line) (held_line n z line))) same e in
    let there : Comes r new (unless n (line_cause p line) (held k (line_effect n p line))) =
    subst (λ (c : Option Cause). Comes r new (unless n c (held k (line_effect n p line)))) (cause-kept k p line)
    (subst (λ (z : Progress). Comes r new (unless n (line_cause (lines_kept k p) line) z)) (line-kept n k p line) here) in
    subst (λ (w : Result (Option Line) LineFail). GoesOn r k new (after_line n p w)) (sym is) (unless-kept r n k new (line_cause p line) (line_effect n p line) there)

closed-kept : (b : Bool) (xs : List PageLine) → (if b then pauses xs ++ Flush ∷ [] else pauses xs) ≡ pauses (if b then xs ++ Flush ∷ [] else xs)
closed-kept true xs = sym (pauses-append xs (Flush ∷ []))
closed-kept false xs = refl

story-kept : (keeps : Bool) (p : LinesRead) → held_story (held keeps p) ≡ story_kept keeps (story_of p)
story-kept true p = refl
story-kept false p = λ i. record { base = []; page = closed-kept (unflushed false p.page) p.page i; client = p.client; turns = (story_of p).turns }

end-kept : (keeps : Bool) (p : LinesRead) → held_refusal (held keeps p) ≡ end_refusal p
end-kept true p = refl
end-kept false p = ap (λ (o : Option Refusal). if p.started then o else Some (input_refusal NoStart)) (ap (λ (s : Story). story_refusal s p.awaits) (story-kept false p) ∙ refusal-kept false (story_of p) p.awaits)

document-kept : (keeps : Bool) (p : LinesRead) → (lines_kept keeps p).document ≡ p.document
document-kept true p = refl
document-kept false p = refl

-- what is told at the end of all lines
pub tells : (keeps : Bool) (p : LinesRead) → IsSound p → told (held keeps p) ≡ told_where keeps (at_end p)
tells keeps p sound = (λ i. told_unless (end-kept keeps p i) (story-kept keeps p i) ((document-kept keeps p ∙ sym (last_document p sound)) i)) ∙ through (end_refusal p)
  where
    through : (o : Option Refusal) → told_unless o (story_kept keeps (story_of p)) (told_of keeps (story_of p)).1 ≡ told_where keeps (accept_unless o (story_of p))
    through None = refl
    through (Some refusal) = refl
