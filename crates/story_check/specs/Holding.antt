-- What is held of the lines of a story while they are read: all of them, or all but the edits, whose document is there anyway.
use Rattle.std.specs.Prelude.{◌≡◌, ℕ, Bool, true, false, List, [], ◌∷◌, ◌++◌, if◌then◌else◌, Option, Some, None, Result, Ok, Err}
use Rattle.ax_base.specs.Document.{Document}
use Rattle.ax_dom.specs.declared.edit.Edit.{Edit}
use Rattle.ax_dom.specs.Changes.{edited}
use Rattle.story_lines.specs.declared.reading.Line.{Line}
use Rattle.story_lines.specs.declared.reading.Line.TheVariants.{Change as EditLine, Start as StartLine, Flush as FlushLine, Until as UntilLine, Ask as AskLine, Again as AgainLine, Hear as HearLine, Await as AwaitLine, Notices as NoticesLine, Turns as TurnsLine}
use Rattle.story_check.specs.declared.story.PageLine.{PageLine}
use Rattle.story_check.specs.declared.story.PageLine.TheVariants.{Change, Flush, Until}
use Rattle.story_check.specs.declared.refusals.AcceptFail.{AcceptFail}
use Rattle.story_check.specs.declared.refusals.Refusal.{Refusal}
use Rattle.story_check.specs.Stories.{Story, flushes, unflushed}
use Rattle.story_check.specs.Moments.{document_at}
use Rattle.story_check.specs.Acceptance.{LinesRead, with_edit, line_effect, turns_of, story_refusal, input_refusal, AcceptFails}
use Rattle.story_check.specs.declared.refusals.Cause.TheVariants.{NoStart}

-- the lines of a page that are no edits
abbrev pub pauses : List PageLine → List PageLine
pauses [] = []
pauses (Change e ∷ xs) = pauses xs
pauses (Flush ∷ xs) = Flush ∷ pauses xs
pauses (Until k ∷ xs) = Until k ∷ pauses xs

-- the lines, or where their edits are not kept, the lines without them
abbrev pub lines_kept : Bool → LinesRead → LinesRead
lines_kept true p = p
lines_kept false p = record p { base = []; page = pauses p.page }

-- a story, or where its edits are not kept, the story without them
abbrev pub story_kept : Bool → Story → Story
story_kept true s = s
story_kept false s = record s { base = []; page = pauses s.page }

-- whether the edits are kept, whether one of the page stands behind its last flush, and what is kept of the lines
pub record Progress : Type 0 where
  pub keeps : Bool
  pub pending : Bool
  pub lines : LinesRead

-- what is held of these lines
abbrev pub held : Bool → LinesRead → Progress
held keeps p = record { keeps = keeps; pending = unflushed false p.page; lines = lines_kept keeps p }

-- with an edit behind these lines
abbrev pub held_edit : Edit → Progress → Progress
held_edit e h = record h {
  pending = if h.lines.started then true else h.pending;
  lines = if h.keeps then with_edit e (record h.lines { document = edited h.lines.document e }) else record h.lines { document = edited h.lines.document e };
}

-- with a line that is not refused, at its number
abbrev pub held_line : ℕ → Progress → Line → Progress
held_line n h (EditLine e) = held_edit e h
held_line n h StartLine = record h { lines = line_effect n h.lines StartLine }
held_line n h FlushLine = record h { pending = false; lines = line_effect n h.lines FlushLine }
held_line n h (UntilLine k) = record h { lines = line_effect n h.lines (UntilLine k) }
held_line n h (AskLine r) = record h { lines = line_effect n h.lines (AskLine r) }
held_line n h (AgainLine r) = record h { lines = line_effect n h.lines (AgainLine r) }
held_line n h HearLine = record h { lines = line_effect n h.lines HearLine }
held_line n h (AwaitLine a) = record h { lines = line_effect n h.lines (AwaitLine a) }
held_line n h NoticesLine = record h { lines = line_effect n h.lines NoticesLine }
held_line n h (TurnsLine text) = record h { lines = line_effect n h.lines (TurnsLine text) }

-- the page that is held, and its closing flush
abbrev pub held_page : Progress → List PageLine
held_page h = if h.pending then h.lines.page ++ Flush ∷ [] else h.lines.page

-- the story that is held
abbrev pub held_story : Progress → Story
held_story h = record { base = h.lines.base; page = held_page h; client = h.lines.client; turns = turns_of h.lines.turns }

-- what is refused when all lines are read
abbrev pub held_refusal : Progress → Option Refusal
held_refusal h = if h.lines.started then story_refusal (held_story h) h.lines.awaits else Some (input_refusal NoStart)

-- a story with its document, unless there is a refusal
abbrev pub told_unless : Option Refusal → Story → Document → Result (Story × Document) Refusal
told_unless None s d = Ok (s, d)
told_unless (Some refusal) s d = Err refusal

-- what is told at the end: the story that is held, and the document after all edits
abbrev pub told : Progress → Result (Story × Document) Refusal
told h = told_unless (held_refusal h) (held_story h) h.lines.document

-- what is told of a story: what is kept of it, and the document of its last moment
abbrev pub told_of : Bool → Story → Story × Document
told_of keeps s = (story_kept keeps s, document_at s (flushes s.page))

-- what is told where a story is judged
abbrev pub told_where : Bool → Result Story Refusal → Result (Story × Document) Refusal
told_where keeps (Ok s) = Ok (told_of keeps s)
told_where keeps (Err refusal) = Err refusal

-- a call goes on to what is held of the lines that these come to, or fails as they do
abbrev pub GoesOn : {T : Type 0} → Result T AcceptFail → Bool → Progress → Result LinesRead Refusal → Type 0
GoesOn (Ok _) keeps new what = (q : LinesRead) × (what ≡ Ok q) × (new ≡ held keeps q)
GoesOn (Err fail) keeps new what = AcceptFails fail what
