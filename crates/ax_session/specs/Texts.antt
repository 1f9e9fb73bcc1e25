-- What `dump`, `replay` and `gen` write of a story.
use Rattle.std.specs.Prelude.{ℕ, List, [], ◌∷◌, ◌++◌, codes, length, Option, Some, None}
use Rattle.std.specs.List.{flat_map}
use Rattle.std.specs.Fmt.{decimal}
use Rattle.std.specs.Option.{option_map_or}
use Rattle.ax_base.specs.Characters.{Chars}
use Rattle.ax_base.specs.Document.{Document, root}
use Rattle.ax_base.specs.Recursion.{from_below}
use Rattle.ax_base.specs.RoleWords.{role_word}
use Rattle.ax_base.specs.Kids.{objects_from}
use Rattle.ax_base.specs.Quoting.{quoted}
use Rattle.ax_record.specs.declared.record.Record.{Record}
use Rattle.ax_record.specs.Tree.{Tree, record_at, kids_of}
use Rattle.ax_record.specs.Records.{tree}
use Rattle.ax_ask.specs.Transcripts.{end_line, transcript_text}
use Rattle.story_check.specs.Stories.{Story, flushes}
use Rattle.story_check.specs.Moments.{tree_at}
use Rattle.ax_world.specs.Machine.{transcript_of}

-- the number of an object, or 0 for none
abbrev pub number_of : Option ℕ → ℕ
number_of None = 0
number_of (Some n) = n

-- the line of an object: its id, that of the object it hangs on or 0, its role, and its name
abbrev pub record_line : Record → Chars
record_line r = decimal r.id ++ codes " " ++ decimal (number_of r.parent) ++ codes " " ++ role_word r.role ++ codes " " ++ quoted r.name ++ 10 ∷ []

-- the line of an id, where the tree has that object
abbrev pub object_line : Tree → ℕ → Chars
object_line t n = option_map_or record_line (record_at t n) []

-- an object and those at most so many levels below it, in preorder
abbrev pub within : Tree → ℕ → ℕ → List ℕ
within t levels n = from_below objects_from (λ k. k) (kids_of t) levels n

-- their lines
abbrev pub lines_within : Tree → ℕ → ℕ → Chars
lines_within t levels n = flat_map (object_line t) (within t levels n)

-- the text of a document: the lines of its tree, which goes down at most 128 levels, and the number of flushes
unfoldable pub document_text : Document → ℕ → Chars
document_text d f = lines_within (tree d) 128 root ++ end_line f

-- what `dump` writes: the lines of the tree of the last moment, which goes down at most 128 levels, and the number of flushes
unfoldable pub dump_text : Story → Chars
dump_text s = lines_within (tree_at s (flushes s.page)) 128 root ++ end_line (flushes s.page)

-- what `replay` writes: the text of what the client was told, and the number of flushes
unfoldable pub replay_text : Story → Chars
replay_text s = transcript_text (transcript_of s)

-- a line of a label and a number
abbrev pub count_line : Chars → ℕ → Chars
count_line label count = label ++ decimal count ++ codes "\n"

-- what `gen` writes: how many lines the client has, how many moments the story has, and how many bytes the text of its play has
unfoldable pub summary_text : Story → Chars
summary_text s = count_line (codes "replies ") (length s.client) ++ count_line (codes "moments ") (flushes s.page) ++ count_line (codes "bytes ") (length (replay_text s))
