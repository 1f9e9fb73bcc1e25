-- Acceptance: which bytes are a story, and the first refusal of all others.
use Rattle.std.specs.Prelude.{◌≡◌, ℕ, ◌+◌, ◌<◌, ◌==◌, map, List, [], ◌∷◌, ◌++◌, length, Bool, true, false, not, ◌&&◌, ◌||◌, nat_le, nat_lt, is_some, if◌then◌else◌, Option, Some, None, Result, Ok, Err}
use Rattle.std.specs.List.{slice_split, position_or_len, before_first, after_first, list_all}
use Rattle.std.specs.Option.{option_and_then, option_or}
use Rattle.std.specs.Str.{is_utf8}
use Rattle.ax_base.specs.Characters.{Chars}
use Rattle.ax_base.specs.Document.{Document}
use Rattle.ax_base.specs.declared.ids.Who.{Who}
use Rattle.ax_base.specs.declared.ids.Who.TheVariants.{Page, Client}
use Rattle.ax_dom.specs.declared.edit.Edit.{Edit}
use Rattle.ax_dom.specs.declared.cause.EditCause.{EditCause}
use Rattle.ax_dom.specs.declared.cause.EditCause.TheVariants.{NoNode as EditNoNode, UsedId as EditUsedId, BadPlace as EditBadPlace, NotElement as EditNotElement, NotText as EditNotText, IntoItself as EditIntoItself, RootFixed as EditRootFixed, TooDeep as EditTooDeep, TooMany as EditTooMany, BadRuns as EditBadRuns, TooLong as EditTooLong, NoMemory as EditNoMemory}
use Rattle.ax_dom.specs.Changes.{edited, new_document}
use Rattle.ax_dom.specs.Refusals.{edit_cause}
use Rattle.story_lines.specs.declared.reading.Line.{Line}
use Rattle.story_lines.specs.declared.reading.Line.TheVariants.{Change as EditLine, Start as StartLine, Flush as FlushLine, Until as UntilLine, Ask as AskLine, Again as AgainLine, Hear as HearLine, Await as AwaitLine, Notices as NoticesLine, Turns as TurnsLine}
use Rattle.story_lines.specs.declared.reading.LineFail.{LineFail}
use Rattle.story_lines.specs.declared.reading.LineFail.TheVariants.{BadJson as NoJson, BadLine as NoForm, NoMemory as NoRoom}
use Rattle.story_lines.specs.Lines.{line_of}
use Rattle.story_check.specs.declared.story.PageLine.{PageLine}
use Rattle.story_check.specs.declared.story.PageLine.TheVariants.{Change, Flush, Until}
use Rattle.story_check.specs.declared.story.ClientLine.{ClientLine}
use Rattle.story_check.specs.declared.story.ClientLine.TheVariants.{Ask, Again, Hear, Await, Notices}
use Rattle.story_check.specs.declared.refusals.Cause.{Cause}
use Rattle.story_check.specs.declared.refusals.Cause.TheVariants.{StoryTooLong, NotUtf8, BadJson, BadLine, NoStart, SecondStart, TooManyFlushes, TooManyAsks, BadTurns, AwaitTooFar, Stuck, NoNode, UsedId, BadPlace, NotElement, NotText, IntoItself, RootFixed, TooDeep, TooMany, BadRuns, TooLong}
use Rattle.story_check.specs.declared.refusals.Refusal.{Refusal}
use Rattle.story_check.specs.declared.refusals.AcceptFail.{AcceptFail}
use Rattle.story_check.specs.declared.refusals.AcceptFail.TheVariants.{Refused, NoMemory}
use Rattle.story_check.specs.Stories.{Story, flushes, closed, stuck}
use Rattle.story_check.specs.declared.limits.TheConstants.{MAX_CLIENT_LINES, MAX_FLUSHES, MAX_STORY_BYTES, MAX_TURNS}

-- the lines so far: the document after all their edits, whether the start line came, the edits before it, the lines of the page and of
-- the client, each moment awaited behind the number of its line, and the turns, once a turn list came
pub record LinesRead : Type 0 where
  pub document : Document
  pub started : Bool
  pub base : List Edit
  pub page : List PageLine
  pub client : List ClientLine
  pub awaits : List (ℕ × ℕ)
  pub turns : Option (List Who)

-- before the first line
abbrev pub at_first : LinesRead
at_first = record { document = new_document; started = false; base = []; page = []; client = []; awaits = []; turns = None }

-- the first cause whose test holds
abbrev pub first_cause : List (Bool × Cause) → Option Cause
first_cause [] = None
first_cause (t ∷ ts) = if t.0 then Some t.1 else first_cause ts

-- why a line cannot be read; want of memory is no cause
abbrev pub read_cause : LineFail → Option Cause
read_cause NoJson = Some BadJson
read_cause NoForm = Some BadLine
read_cause NoRoom = None

-- the cause of the same name as that of an edit; want of memory is none
abbrev pub cause_of : EditCause → Option Cause
cause_of EditNoNode = Some NoNode
cause_of EditUsedId = Some UsedId
cause_of EditBadPlace = Some BadPlace
cause_of EditNotElement = Some NotElement
cause_of EditNotText = Some NotText
cause_of EditIntoItself = Some IntoItself
cause_of EditRootFixed = Some RootFixed
cause_of EditTooDeep = Some TooDeep
cause_of EditTooMany = Some TooMany
cause_of EditBadRuns = Some BadRuns
cause_of EditTooLong = Some TooLong
cause_of EditNoMemory = None

-- the letter P or C
abbrev pub is_letter : ℕ → Bool
is_letter b = b == 80 || b == 67

-- a turn list has no other character, and at most 1,048,576 of these
abbrev pub is_turn_list : Chars → Bool
is_turn_list text = list_all is_letter text && nat_le (length text) MAX_TURNS

-- the side of a letter: P is the page, C the client
abbrev pub side : ℕ → Who
side b = if b == 80 then Page else Client

-- why a line of the client is refused: it stands before the start, or behind 16,384 such lines
abbrev pub client_cause : LinesRead → Option Cause
client_cause p = first_cause ((not p.started, NoStart) ∷ (nat_le MAX_CLIENT_LINES (length p.client), TooManyAsks) ∷ [])

-- why a line is refused after these: the causes of its kind in the order in which they are tried
abbrev pub line_cause : LinesRead → Line → Option Cause
line_cause p (EditLine e) = option_and_then cause_of (edit_cause p.document e)
line_cause p StartLine = first_cause ((p.started, SecondStart) ∷ [])
line_cause p FlushLine = first_cause ((not p.started, NoStart) ∷ (nat_le MAX_FLUSHES (flushes p.page), TooManyFlushes) ∷ [])
line_cause p (UntilLine k) = first_cause ((not p.started, NoStart) ∷ [])
line_cause p (AskLine r) = client_cause p
line_cause p (AgainLine r) = client_cause p
line_cause p HearLine = client_cause p
line_cause p (AwaitLine a) = client_cause p
line_cause p NoticesLine = client_cause p
line_cause p (TurnsLine text) = first_cause ((not p.started, NoStart) ∷ (is_some p.turns || not (is_turn_list text), BadTurns) ∷ [])

-- with an edit: before the start it is a base edit, after it a line of the page
abbrev pub with_edit : Edit → LinesRead → LinesRead
with_edit e p = if p.started then record p { page = p.page ++ Change e ∷ [] } else record p { base = p.base ++ e ∷ [] }

-- with a line of the page that is no edit
abbrev pub with_page : PageLine → LinesRead → LinesRead
with_page l p = record p { page = p.page ++ l ∷ [] }

-- with a line of the client
abbrev pub with_client : ClientLine → LinesRead → LinesRead
with_client l p = record p { client = p.client ++ l ∷ [] }

-- with an await of this moment on line n
abbrev pub with_await : ℕ → ℕ → LinesRead → LinesRead
with_await n a p = record p { awaits = p.awaits ++ (n, a) ∷ [] }

-- what a line that is not refused adds, at its number
abbrev pub line_effect : ℕ → LinesRead → Line → LinesRead
line_effect n p (EditLine e) = with_edit e (record p { document = edited p.document e })
line_effect n p StartLine = record p { started = true }
line_effect n p FlushLine = with_page Flush p
line_effect n p (UntilLine k) = with_page (Until k) p
line_effect n p (AskLine r) = with_client (Ask r) p
line_effect n p (AgainLine r) = with_client (Again r) p
line_effect n p HearLine = with_client Hear p
line_effect n p (AwaitLine a) = with_await n a (with_client (Await a) p)
line_effect n p NoticesLine = with_client Notices p
line_effect n p (TurnsLine text) = record p { turns = Some (map side text) }

-- a refusal of line n for this cause, or where there is none, what the lines come to
abbrev pub unless : {A : Type 0} → ℕ → Option Cause → A → Result A Refusal
unless n None p = Ok p
unless n (Some cause) p = Err (record { line = n; cause = cause })

-- the line of number n after these; a blank line has no effect
abbrev pub after_line : ℕ → LinesRead → Result (Option Line) LineFail → Result LinesRead Refusal
after_line n p (Ok None) = Ok p
after_line n p (Ok (Some line)) = unless n (line_cause p line) (line_effect n p line)
after_line n p (Err fail) = unless n (read_cause fail) p

-- the first refusal of the lines from number n on, or what all of them come to
abbrev pub after_lines : ℕ → LinesRead → List Chars → Result LinesRead Refusal
after_lines n p [] = Ok p
after_lines n p (l ∷ ls) = elim (after_line n p (line_of l)) [ Ok q ↦ after_lines (n + 1) q ls | Err refusal ↦ Err refusal ]

-- what stands between the line feeds: n of them make n + 1 lines
abbrev pub pieces : Chars → List Chars
pieces bytes = slice_split (λ b. b == 10) bytes

-- a refusal of the whole input
abbrev pub input_refusal : Cause → Refusal
input_refusal cause = record { line = 0; cause = cause }

-- the first await of a moment past all flushes, of which there are f
abbrev pub await_refusal : ℕ → List (ℕ × ℕ) → Option Refusal
await_refusal f [] = None
await_refusal f (w ∷ ws) = if nat_lt f w.1 then Some (record { line = w.0; cause = AwaitTooFar }) else await_refusal f ws

-- the turns of a list, and none without one
abbrev pub turns_of : Option (List Who) → List Who
turns_of None = []
turns_of (Some turns) = turns

-- the story of all lines: its page has the closing flush
abbrev pub story_of : LinesRead → Story
story_of p = record { base = p.base; page = closed p.page; client = p.client; turns = turns_of p.turns }

-- some line of the story could wait for ever
abbrev pub stuck_refusal : Story → Option Refusal
stuck_refusal s = if stuck s then Some (input_refusal Stuck) else None

-- what is refused of a whole story: an await is too far, or a line could wait for ever
abbrev pub story_refusal : Story → List (ℕ × ℕ) → Option Refusal
story_refusal s awaits = option_or (await_refusal (flushes s.page) awaits) (stuck_refusal s)

-- what is refused when all lines are read: there was no start, or the story is refused
abbrev pub end_refusal : LinesRead → Option Refusal
end_refusal p = if p.started then story_refusal (story_of p) p.awaits else Some (input_refusal NoStart)

-- a story, unless there is a refusal
abbrev pub accept_unless : Option Refusal → Story → Result Story Refusal
accept_unless None s = Ok s
accept_unless (Some refusal) s = Err refusal

-- the story of all lines, or what is refused at their end
abbrev pub at_end : LinesRead → Result Story Refusal
at_end p = accept_unless (end_refusal p) (story_of p)

-- what the end makes of the lines, where none of them is refused
abbrev pub ended : Result LinesRead Refusal → Result Story Refusal
ended (Ok p) = at_end p
ended (Err refusal) = Err refusal

-- the story of these lines, or their first refusal
abbrev pub judged_lines : List Chars → Result Story Refusal
judged_lines lines = ended (after_lines 1 at_first lines)

-- what the bytes are: a story, or the first refusal. They may be 16,777,216, and have to be UTF-8
unfoldable pub judged : List ℕ → Result Story Refusal
judged bytes = if nat_lt MAX_STORY_BYTES (length bytes) then Err (input_refusal StoryTooLong) else if is_utf8 bytes then judged_lines (pieces bytes) else Err (input_refusal NotUtf8)

-- the bytes are this story
abbrev pub Accepted : List ℕ → Story → Type 0
Accepted bytes story = judged bytes ≡ Ok story

-- this is the first refusal of the bytes
abbrev pub IsRefused : List ℕ → Refusal → Type 0
IsRefused bytes refusal = judged bytes ≡ Err refusal

-- a failure is the refusal that is wanted, or want of memory
abbrev pub AcceptFails : {A : Type 0} → AcceptFail → Result A Refusal → Type 0
AcceptFails NoMemory what = Unit {0}
AcceptFails (Refused refusal) what = what ≡ Err refusal

-- an answer is what is wanted, or want of memory
abbrev pub Accepts : {A : Type 0} → Result A AcceptFail → Result A Refusal → Type 0
Accepts (Ok story) what = what ≡ Ok story
Accepts (Err fail) what = AcceptFails fail what

-- an edit of line n fails with this cause
abbrev pub edit_fail : ℕ → EditCause → AcceptFail
edit_fail n cause = elim (cause_of cause) [ Some known ↦ Refused (record { line = n; cause = known }) | None ↦ NoMemory ]

-- what a call leaves, `new`, is what is wanted, or its failure is
abbrev pub Comes : {T A : Type 0} → Result T AcceptFail → A → Result A Refusal → Type 0
Comes (Ok _) new what = what ≡ Ok new
Comes (Err fail) new what = AcceptFails fail what

-- a text's first line, and what stands behind its line feed
pub record IsFirstLine (text line after : Chars) : Type 0 where
  pub found : position_or_len (λ b. b == 10) text < length text
  pub front : line ≡ before_first (λ b. b == 10) text
  pub rest : after ≡ after_first (λ b. b == 10) text

-- there is no line feed
abbrev pub HasNoLineFeed : Chars → Type 0
HasNoLineFeed text = position_or_len (λ b. b == 10) text ≡ length text
