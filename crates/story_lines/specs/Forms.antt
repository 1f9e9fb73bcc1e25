-- The forms of a line. Each is an object with exactly the keys of its kind, of which some may be missing.
use Rattle.std.specs.Prelude.{[], ◌∷◌, codes, if◌then◌else◌, Option, Some, None, option_map}
use Rattle.serde_json.specs.Data.{Data}
use Rattle.serde_json.specs.Find.{get}
use Rattle.ax_dom.specs.declared.edit.Edit.{Edit}
use Rattle.ax_dom.specs.declared.edit.Edit.TheVariants.{InsertElement, InsertText, Remove, Move, Set, Unset, Chars as SetChars, SetRuns, Frame, Focus}
use Rattle.story_lines.specs.declared.reading.Line.{Line}
use Rattle.story_lines.specs.declared.reading.Line.TheVariants.{Change, Start, Flush, Until, Ask, Again, Hear, Await, Notices, Turns}
use Rattle.story_lines.specs.Values.{◌>>=◌, ◌or_else◌, has_only, is_word, moment_by, integer_at, id_at, maybe_id, id_or_none_at, text_at, tag_at, name_at}
use Rattle.story_lines.specs.Attributes.{maybe_attributes}
use Rattle.story_lines.specs.Runs.{rect_at, runs_at}
use Rattle.story_lines.specs.Requests.{request_by}

-- insert an element: `insert`, `into`, `tag`, and where they are given `before` and `attrs`
unfoldable pub insert_element_of : Data → Option Edit
insert_element_of d =
    if has_only (codes "insert" ∷ codes "into" ∷ codes "before" ∷ codes "tag" ∷ codes "attrs" ∷ []) d then (do
      id ← id_at (codes "insert") d
      into ← id_at (codes "into") d
      before ← maybe_id (get (codes "before") d)
      tag ← tag_at d
      attrs ← maybe_attributes (get (codes "attrs") d)
      Some (InsertElement id into before tag attrs))
    else None

-- insert a text: `insert`, `into`, `text`, and where it is given `before`
unfoldable pub insert_text_of : Data → Option Edit
insert_text_of d =
    if has_only (codes "insert" ∷ codes "into" ∷ codes "before" ∷ codes "text" ∷ []) d then (do
      id ← id_at (codes "insert") d
      into ← id_at (codes "into") d
      before ← maybe_id (get (codes "before") d)
      text ← text_at (codes "text") d
      Some (InsertText id into before text))
    else None

-- remove: `remove`
unfoldable pub remove_of : Data → Option Edit
remove_of d = if has_only (codes "remove" ∷ []) d then (do
  id ← id_at (codes "remove") d
  Some (Remove id))
    else None

-- move: `move`, `into`, and where it is given `before`
unfoldable pub move_of : Data → Option Edit
move_of d = if has_only (codes "move" ∷ codes "into" ∷ codes "before" ∷ []) d then (do
  id ← id_at (codes "move") d
  into ← id_at (codes "into") d
  before ← maybe_id (get (codes "before") d)
  Some (Move id into before))
    else None

-- set an attribute: `set`, `name` and `value`
unfoldable pub set_of : Data → Option Edit
set_of d = if has_only (codes "set" ∷ codes "name" ∷ codes "value" ∷ []) d then (do
  id ← id_at (codes "set") d
  name ← name_at d
  value ← text_at (codes "value") d
  Some (Set id name value))
    else None

-- take an attribute away: `unset` and `name`
unfoldable pub unset_of : Data → Option Edit
unset_of d = if has_only (codes "unset" ∷ codes "name" ∷ []) d then (do
  id ← id_at (codes "unset") d
  name ← name_at d
  Some (Unset id name))
    else None

-- change a text: `text` and `to`
unfoldable pub text_of : Data → Option Edit
text_of d = if has_only (codes "text" ∷ codes "to" ∷ []) d then (do
  id ← id_at (codes "text") d
  text ← text_at (codes "to") d
  Some (SetChars id text))
    else None

-- set runs: `runs` and `list`, which is an array of runs
unfoldable pub runs_of : Data → Option Edit
runs_of d = if has_only (codes "runs" ∷ codes "list" ∷ []) d then (do
  id ← id_at (codes "runs") d
  list ← runs_at d
  Some (SetRuns id list))
    else None

-- set a frame: `frame` and `rect`, which is a rectangle
unfoldable pub frame_of : Data → Option Edit
frame_of d = if has_only (codes "frame" ∷ codes "rect" ∷ []) d then (do
  id ← id_at (codes "frame") d
  frame ← rect_at d
  Some (Frame id frame))
    else None

-- focus: `focus`, which is a node or 0
unfoldable pub focus_of : Data → Option Edit
focus_of d = if has_only (codes "focus" ∷ []) d then (do
  node ← id_or_none_at (codes "focus") d
  Some (Focus node))
    else None

-- an edit: no value is two of them
unfoldable pub edit_of : Data → Option Edit
edit_of d =
    insert_element_of d
    or_else insert_text_of d
    or_else remove_of d
    or_else move_of d
    or_else set_of d
    or_else unset_of d
    or_else text_of d
    or_else runs_of d
    or_else frame_of d
    or_else focus_of d

-- start: `start`, which is 1
unfoldable pub start_of : Data → Option Line
start_of d = if has_only (codes "start" ∷ []) d then (do
  one ← integer_at (codes "start") 1 1 d
  Some Start)
    else None

-- flush: `flush`, which is true
unfoldable pub flush_of : Data → Option Line
flush_of d = if is_word (codes "flush") d then Some Flush else None

-- until: `until`, which is a moment
unfoldable pub until_of : Data → Option Line
until_of d = option_map Until (moment_by (codes "until") d)

-- ask: `ask`, which is a request
unfoldable pub ask_of : Data → Option Line
ask_of d = option_map Ask (request_by (codes "ask") d)

-- again: `again`, which is a request
unfoldable pub again_of : Data → Option Line
again_of d = option_map Again (request_by (codes "again") d)

-- hear: `hear`, which is true
unfoldable pub hear_of : Data → Option Line
hear_of d = if is_word (codes "hear") d then Some Hear else None

-- await: `await`, which is a moment
unfoldable pub await_of : Data → Option Line
await_of d = option_map Await (moment_by (codes "await") d)

-- notices: `notices`, which is true
unfoldable pub notices_of : Data → Option Line
notices_of d = if is_word (codes "notices") d then Some Notices else None

-- turns: `turns`, which is a text
unfoldable pub turns_of : Data → Option Line
turns_of d = if has_only (codes "turns" ∷ []) d then (do
  turns ← text_at (codes "turns") d
  Some (Turns turns))
    else None

-- a line: no value has two forms
unfoldable pub form_of : Data → Option Line
form_of d =
    option_map Change (edit_of d)
    or_else start_of d
    or_else flush_of d
    or_else until_of d
    or_else ask_of d
    or_else again_of d
    or_else hear_of d
    or_else await_of d
    or_else notices_of d
    or_else turns_of d
