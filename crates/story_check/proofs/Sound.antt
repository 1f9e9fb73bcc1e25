-- The edits of an accepted story are accepted, and no line of it could wait for ever.
use Rattle.std.proofs.Common.{◌≡◌, ℕ, ◌+◌, List, [], ◌∷◌, ◌++◌, Bool, true, false, not, Option, Some, None, Result, Ok, Err, refl, sym, ap, ◌∙◌, subst}
use Rattle.std.specs.Prelude.{if◌then◌else◌, IfOk}
use Rattle.std.specs.Option.{option_and_then, option_or}
use Rattle.ax_base.specs.Document.{Document}
use Rattle.ax_dom.specs.declared.edit.Edit.{Edit}
use Rattle.ax_dom.specs.declared.cause.EditCause.{EditCause}
use Rattle.ax_dom.specs.declared.cause.EditCause.TheVariants.{NoNode, UsedId, BadPlace, NotElement, NotText, IntoItself, RootFixed, TooDeep, TooMany, BadRuns, TooLong, NoMemory}
use Rattle.ax_dom.specs.Bounds.{EditKeepsBounds}
use Rattle.ax_dom.specs.Changes.{edited, new_document}
use Rattle.ax_dom.specs.Refusals.{edit_cause, first_cause, lacks_node, reuses_id, lacks_place, wants_element, wants_text, goes_into_itself, removes_root, goes_too_deep, is_one_too_many, breaks_runs, is_too_long}
use Rattle.story_lines.specs.declared.reading.Line.{Line}
use Rattle.story_lines.specs.declared.reading.Line.TheVariants.{Change as EditLine, Start as StartLine, Flush as FlushLine, Until as UntilLine, Ask as AskLine, Again as AgainLine, Hear as HearLine, Await as AwaitLine, Notices as NoticesLine, Turns as TurnsLine}
use Rattle.story_lines.specs.declared.reading.LineFail.{LineFail}
use Rattle.story_lines.specs.Bounds.{KeepsBounds}
use Rattle.story_lines.specs.Lines.{line_of}
use Rattle.story_lines.proofs.RectBounds.{line_keeps_bounds}
use Rattle.story_check.specs.declared.story.PageLine.{PageLine}
use Rattle.story_check.specs.declared.story.PageLine.TheVariants.{Change, Flush, Until}
use Rattle.story_check.specs.declared.refusals.Cause.{Cause}
use Rattle.story_check.specs.declared.refusals.Refusal.{Refusal}
use Rattle.story_check.specs.declared.refusals.AcceptFail.{AcceptFail}
use Rattle.story_check.specs.Stories.{Story, unflushed, closed, stuck}
use Rattle.story_check.specs.Moments.{after_edits, MayBeDone, AreAccepted, AreLinesAccepted, IsAccepted}
use Rattle.story_check.specs.Acceptance.{LinesRead, at_first, cause_of, read_cause, line_cause, line_effect, with_edit, unless, after_line, after_lines, story_of, end_refusal, accept_unless, at_end, ended, judged_lines, Accepts}

-- the document after all edits of these lines
abbrev pub after_page : Document → List PageLine → Document
after_page d [] = d
after_page d (Change e ∷ xs) = after_page (edited d e) xs
after_page d (Flush ∷ xs) = after_page d xs
after_page d (Until k ∷ xs) = after_page d xs

-- all edits so far are accepted, and the document is the one after them
pub record IsSound (p : LinesRead) : Type 0 where
  pub base : AreAccepted new_document p.base
  pub lines : AreLinesAccepted (after_edits new_document p.base) p.page
  pub now : after_page (after_edits new_document p.base) p.page ≡ p.document
  pub unstarted : p.started ≡ false → p.page ≡ []

edits-append : (d : Document) (es : List Edit) (e : Edit) → after_edits d (es ++ e ∷ []) ≡ edited (after_edits d es) e
edits-append d [] e = refl
edits-append d (x ∷ es) e = edits-append (edited d x) es e

accepted-append : (d : Document) (es : List Edit) (e : Edit) → AreAccepted d es → MayBeDone (after_edits d es) e → AreAccepted d (es ++ e ∷ [])
accepted-append d [] e h c = (c, tt)
accepted-append d (x ∷ es) e h c = (h.0, accepted-append (edited d x) es e h.1 c)

page-append : (d : Document) (xs : List PageLine) (e : Edit) → after_page d (xs ++ Change e ∷ []) ≡ edited (after_page d xs) e
page-append d [] e = refl
page-append d (Change x ∷ xs) e = page-append (edited d x) xs e
page-append d (Flush ∷ xs) e = page-append d xs e
page-append d (Until k ∷ xs) e = page-append d xs e

lines-append : (d : Document) (xs : List PageLine) (e : Edit) → AreLinesAccepted d xs → MayBeDone (after_page d xs) e → AreLinesAccepted d (xs ++ Change e ∷ [])
lines-append d [] e h c = (c, tt)
lines-append d (Change x ∷ xs) e h c = (h.0, lines-append (edited d x) xs e h.1 c)
lines-append d (Flush ∷ xs) e h c = lines-append d xs e h c
lines-append d (Until k ∷ xs) e h c = lines-append d xs e h c

-- a line that is no edit
still : (d : Document) (xs : List PageLine) (l : PageLine) → ((b : Document) → after_page b (l ∷ []) ≡ b) → after_page d (xs ++ l ∷ []) ≡ after_page d xs
still d [] l h = h d
still d (Change x ∷ xs) l h = still (edited d x) xs l h
still d (Flush ∷ xs) l h = still d xs l h
still d (Until k ∷ xs) l h = still d xs l h

still-accepted : (d : Document) (xs : List PageLine) (l : PageLine) → ((b : Document) → AreLinesAccepted b (l ∷ [])) → AreLinesAccepted d xs → AreLinesAccepted d (xs ++ l ∷ [])
still-accepted d [] l h g = h d
still-accepted d (Change x ∷ xs) l h g = (g.0, still-accepted (edited d x) xs l h g.1)
still-accepted d (Flush ∷ xs) l h g = still-accepted d xs l h g
still-accepted d (Until k ∷ xs) l h g = still-accepted d xs l h g

closed-accepted : (d : Document) (xs : List PageLine) → AreLinesAccepted d xs → AreLinesAccepted d (closed xs)
closed-accepted d xs h = through (unflushed false xs)
  where
    through : (b : Bool) → AreLinesAccepted d (if b then xs ++ Flush ∷ [] else xs)
    through true = still-accepted d xs Flush (λ b. tt) h
    through false = h

-- no test of an edit gives want of memory
abbrev is_cause : EditCause → Bool
is_cause NoMemory = false
is_cause _ = true

abbrev AreCauses : List (Bool × EditCause) → Type 0
AreCauses [] = Unit {0}
AreCauses (t ∷ ts) = (is_cause t.1 ≡ true) × AreCauses ts

no_memory : (cs : List (Bool × EditCause)) (c : EditCause) → first_cause cs ≡ Some c → AreCauses cs → is_cause c ≡ true
no_memory [] c e h = absurd (cc)
no_memory ((true, k) ∷ cs) c e h = let same : k ≡ c = cc in subst (λ (z : EditCause). is_cause z ≡ true) same h.0
no_memory ((false, k) ∷ cs) c e h = no_memory cs c e h.1

known : (c : EditCause) → is_cause c ≡ true → cause_of c ≡ None → ⊥
known NoNode h e = absurd (cc)
known UsedId h e = absurd (cc)
known BadPlace h e = absurd (cc)
known NotElement h e = absurd (cc)
known NotText h e = absurd (cc)
known IntoItself h e = absurd (cc)
known RootFixed h e = absurd (cc)
known TooDeep h e = absurd (cc)
known TooMany h e = absurd (cc)
known BadRuns h e = absurd (cc)
known TooLong h e = absurd (cc)
known NoMemory h e = absurd (cc)

never : (d : Document) (e : Edit) (c : EditCause) → edit_cause d e ≡ Some c → is_cause c ≡ true
never d e c h =
    let tests : List (Bool × EditCause) = (lacks_node d e, NoNode) ∷ (reuses_id d e, UsedId) ∷ (lacks_place d e, BadPlace) ∷ (wants_element d e, NotElement)
    ∷ (wants_text d e, NotText) ∷ (goes_into_itself d e, IntoItself) ∷ (removes_root e, RootFixed) ∷ (goes_too_deep d e, TooDeep)
    ∷ (is_one_too_many d e, TooMany) ∷ (breaks_runs d e, BadRuns) ∷ (is_too_long e, TooLong) ∷ [] in
    let all : AreCauses tests = (refl, (refl, (refl, (refl, (refl, (refl, (refl, (refl, (refl, (refl, (refl, tt))))))))))) in
    no_memory tests c h all

-- an edit without a cause here has none
pub free_edit : (d : Document) (e : Edit) → option_and_then cause_of (edit_cause d e) ≡ None → edit_cause d e ≡ None
free_edit d e h = through (edit_cause d e) h (never d e)
  where
    through : (o : Option EditCause) → option_and_then cause_of o ≡ None → ((c : EditCause) → o ≡ Some c → is_cause c ≡ true) → o ≡ None
    through None g k = refl
    through (Some c) g k = absurd (known c (k c refl) g)

unless-ok : (n : ℕ) (c : Option Cause) (p q : LinesRead) → unless n c p ≡ Ok q → (c ≡ None) × (p ≡ q)
unless-ok n None p q e = (refl, cc)
unless-ok n (Some c) p q e = absurd (cc)

sound-edit : (p : LinesRead) (e : Edit) → edit_cause p.document e ≡ None → EditKeepsBounds e → IsSound p → IsSound (with_edit e (record p { document = edited p.document e }))
sound-edit p e c near h = through p.started refl
  where
    base : Document
    base = after_edits new_document p.base

    free : edit_cause (after_page base p.page) e ≡ None
    free = ap (λ (d : Document). edit_cause d e) h.now ∙ c

    through : (b : Bool) → p.started ≡ b → IsSound (if b then record p { document = edited p.document e; page = p.page ++ Change e ∷ [] } else record p { document = edited p.document e; base = p.base ++ e ∷ [] })
    through true s = record {
      base = h.base;
      lines = lines-append base p.page e h.lines (free, near);
      now = page-append base p.page e ∙ ap (λ (d : Document). edited d e) h.now;
      unstarted = λ f. absurd (cc);
    }
    through false s =
        let none = h.unstarted s in
        let here : edit_cause base e ≡ None = subst (λ (xs : List PageLine). edit_cause (after_page base xs) e ≡ None) none free in
        let there : base ≡ p.document = subst (λ (xs : List PageLine). after_page base xs ≡ p.document) none h.now in
        record {
          base = accepted-append new_document p.base e h.base (here, near);
          lines = subst (λ (xs : List PageLine). AreLinesAccepted (after_edits new_document (p.base ++ e ∷ [])) xs) (sym none) tt;
          now = ap (after_page (after_edits new_document (p.base ++ e ∷ []))) none ∙ edits-append new_document p.base e ∙ ap (λ (d : Document). edited d e) there;
          unstarted = h.unstarted;
        }

sound-page : (p : LinesRead) (l : PageLine) → ((b : Document) → after_page b (l ∷ []) ≡ b) → ((b : Document) → AreLinesAccepted b (l ∷ [])) → p.started ≡ true → IsSound p → IsSound (record p { page = p.page ++ l ∷ [] })
sound-page p l same free s h = record {
  base = h.base;
  lines = still-accepted (after_edits new_document p.base) p.page l free h.lines;
  now = still (after_edits new_document p.base) p.page l same ∙ h.now;
  unstarted = λ f. absurd (cc);
}

-- lines that change no edit keep this
sound-beside : (p q : LinesRead) → q.document ≡ p.document → q.base ≡ p.base → q.page ≡ p.page → (q.started ≡ false → p.started ≡ false) → IsSound p → IsSound q
sound-beside p q d b x s h = record {
  base = subst (λ (es : List Edit). AreAccepted new_document es) (sym b) h.base;
  lines = subst (λ (xs : List PageLine). AreLinesAccepted (after_edits new_document q.base) xs) (sym x) (subst (λ (es : List Edit). AreLinesAccepted (after_edits new_document es) p.page) (sym b) h.lines);
  now = ap (after_page (after_edits new_document q.base)) x ∙ ap (λ (es : List Edit). after_page (after_edits new_document es) p.page) b ∙ h.now ∙ sym d;
  unstarted = λ f. x ∙ h.unstarted (s f);
}

-- a line of the page stands behind the start
started-first : (b : Bool) (o : Option Cause) (c : Cause) → (if not b then Some c else o) ≡ None → b ≡ true
started-first true o c e = refl
started-first false o c e = absurd (cc)

sound-line : (n : ℕ) (p : LinesRead) (line : Line) → line_cause p line ≡ None → KeepsBounds line → IsSound p → IsSound (line_effect n p line)
sound-line n p (EditLine e) c near h = sound-edit p e (free_edit p.document e c) near h
sound-line n p StartLine c near h = record { base = h.base; lines = h.lines; now = h.now; unstarted = λ f. absurd (cc) }
sound-line n p FlushLine c near h = sound-page p Flush (λ b. refl) (λ b. tt) (started-first p.started _ _ c) h
sound-line n p (UntilLine k) c near h = sound-page p (Until k) (λ b. refl) (λ b. tt) (started-first p.started _ _ c) h
sound-line n p (AskLine r) c near h = sound-beside p _ refl refl refl (λ f. f) h
sound-line n p (AgainLine r) c near h = sound-beside p _ refl refl refl (λ f. f) h
sound-line n p HearLine c near h = sound-beside p _ refl refl refl (λ f. f) h
sound-line n p (AwaitLine a) c near h = sound-beside p _ refl refl refl (λ f. f) h
sound-line n p NoticesLine c near h = sound-beside p _ refl refl refl (λ f. f) h
sound-line n p (TurnsLine t) c near h = sound-beside p _ refl refl refl (λ f. f) h

sound-after : (n : ℕ) (p q : LinesRead) (r : Result (Option Line) LineFail) → ((line : Line) → r ≡ Ok (Some line) → KeepsBounds line) → IsSound p → after_line n p r ≡ Ok q → IsSound q
sound-after n p q (Ok None) near h e = subst (λ (z : LinesRead). IsSound z) (unless-ok n None p q e).1 h
sound-after n p q (Ok (Some line)) near h e = let both = unless-ok n (line_cause p line) (line_effect n p line) q e in subst (λ (z : LinesRead). IsSound z) both.1 (sound-line n p line both.0 (near line refl) h)
sound-after n p q (Err fail) near h e = let both = unless-ok n (read_cause fail) p q e in subst (λ (z : LinesRead). IsSound z) both.1 h

pub sound-lines : (n : ℕ) (p q : LinesRead) (lines : List (List ℕ)) → IsSound p → after_lines n p lines ≡ Ok q → IsSound q
sound-lines n p q [] h e = subst (λ (z : LinesRead). IsSound z) (unless-ok n None p q e).1 h
sound-lines n p q (l ∷ ls) h e = through (after_line n p (line_of l)) (λ z. sound-after n p z (line_of l) (line_keeps_bounds l) h) e (λ z. sound-lines (n + 1) z q ls)
  where
    through : (r : Result LinesRead Refusal) → ((z : LinesRead) → r ≡ Ok z → IsSound z) → elim r as (λ (w : Result LinesRead Refusal). Result LinesRead Refusal) [ Ok z ↦ after_lines (n + 1) z ls | Err z ↦ Err z ] ≡ Ok q → ((z : LinesRead) → IsSound z → after_lines (n + 1) z ls ≡ Ok q → IsSound q) → IsSound q
    through (Ok z) f g more = more z (f z refl) g
    through (Err z) f g more = absurd (cc)

pub sound-first : IsSound at_first
sound-first = record { base = tt; lines = tt; now = refl; unstarted = λ f. refl }

-- what a story that is accepted has
pub record IsGood (s : Story) : Type 0 where
  pub accepted : IsAccepted s
  pub free : stuck s ≡ false

free-end : (b : Bool) (a : Option Refusal) (k : Bool) (w z : Refusal) → (if b then option_or a (if k then Some w else None) else Some z) ≡ None → k ≡ false
free-end true None true w z e = absurd (cc)
free-end true None false w z e = refl
free-end true (Some r) k w z e = absurd (cc)
free-end false a k w z e = absurd (cc)

good-end : (p : LinesRead) (s : Story) → IsSound p → at_end p ≡ Ok s → IsGood s
good-end p s h e = through (end_refusal p) refl e
  where
    story : end_refusal p ≡ None → IsGood (story_of p)
    story f = record {
      accepted = record { base = h.base; lines = closed-accepted (after_edits new_document p.base) p.page h.lines };
      free = free-end p.started _ _ _ _ f;
    }

    same : accept_unless None (story_of p) ≡ Ok s → story_of p ≡ s
    same g = cc

    through : (o : Option Refusal) → end_refusal p ≡ o → accept_unless o (story_of p) ≡ Ok s → IsGood s
    through None f g = subst (λ (z : Story). IsGood z) (same g) (story f)
    through (Some z) f g = absurd (cc)

pub good-lines : (lines : List (List ℕ)) (s : Story) → judged_lines lines ≡ Ok s → IsGood s
good-lines lines s e = through (after_lines 1 at_first lines) refl e
  where
    through : (r : Result LinesRead Refusal) → after_lines 1 at_first lines ≡ r → ended r ≡ Ok s → IsGood s
    through (Ok p) f g = good-end p s (sound-lines 1 at_first p lines sound-first f) g
    through (Err z) f g = absurd (cc)
