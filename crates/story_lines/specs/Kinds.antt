-- The kinds of a line's forms, each with a key of its own: no form of another kind may have it.
use Rattle.std.specs.Prelude.{List, codes, bytes_eq, if◌then◌else◌, Option, Some, None, option_map, option_and_then}
use Rattle.std.specs.Option.{option_or}
use Rattle.serde_json.specs.Data.{Data, Members, no_members, member}
use Rattle.serde_json.specs.Find.{as_object}
use Rattle.ax_base.specs.Characters.{Chars}
use Rattle.story_lines.specs.declared.kinds.Kind.{Kind}
use Rattle.story_lines.specs.declared.kinds.Kind.TheVariants.{Insert, Remove, Move, Set, Unset, Chars as NewChars, SetRuns, Frame, Focus, Start, Flush, Until, Ask, Again, Hear, Await, Notices, Turns}
use Rattle.story_lines.specs.declared.reading.Line.{Line}
use Rattle.story_lines.specs.declared.reading.Line.TheVariants.{Change}
use Rattle.story_lines.specs.Values.{◌or_else◌}
use Rattle.story_lines.specs.Forms.{insert_element_of, insert_text_of, remove_of, move_of, set_of, unset_of, text_of, runs_of, frame_of, focus_of, start_of, flush_of, until_of, ask_of, again_of, hear_of, await_of, notices_of, turns_of}

-- the kind that has this key for its own
abbrev pub kind_by : Chars → Option Kind
kind_by key =
    if bytes_eq key (codes "insert") then Some Insert else
    if bytes_eq key (codes "remove") then Some Remove else
    if bytes_eq key (codes "move") then Some Move else
    if bytes_eq key (codes "set") then Some Set else
    if bytes_eq key (codes "unset") then Some Unset else
    if bytes_eq key (codes "to") then Some NewChars else
    if bytes_eq key (codes "runs") then Some SetRuns else
    if bytes_eq key (codes "frame") then Some Frame else
    if bytes_eq key (codes "focus") then Some Focus else
    if bytes_eq key (codes "start") then Some Start else
    if bytes_eq key (codes "flush") then Some Flush else
    if bytes_eq key (codes "until") then Some Until else
    if bytes_eq key (codes "ask") then Some Ask else
    if bytes_eq key (codes "again") then Some Again else
    if bytes_eq key (codes "hear") then Some Hear else
    if bytes_eq key (codes "await") then Some Await else
    if bytes_eq key (codes "notices") then Some Notices else
    if bytes_eq key (codes "turns") then Some Turns else None

-- the kind of the first key that is a kind's own
abbrev pub kind_among : Members → Option Kind
kind_among no_members = None
kind_among (member key value ms) = option_or (kind_by key) (kind_among ms)

-- the kind of an object
abbrev pub kind_of : Data → Option Kind
kind_of d = option_and_then kind_among (as_object d)

-- what a value of a kind says
abbrev pub form_by : Kind → Data → Option Line
form_by Insert d = option_map Change (insert_element_of d or_else insert_text_of d)
form_by Remove d = option_map Change (remove_of d)
form_by Move d = option_map Change (move_of d)
form_by Set d = option_map Change (set_of d)
form_by Unset d = option_map Change (unset_of d)
form_by NewChars d = option_map Change (text_of d)
form_by SetRuns d = option_map Change (runs_of d)
form_by Frame d = option_map Change (frame_of d)
form_by Focus d = option_map Change (focus_of d)
form_by Start d = start_of d
form_by Flush d = flush_of d
form_by Until d = until_of d
form_by Ask d = ask_of d
form_by Again d = again_of d
form_by Hear d = hear_of d
form_by Await d = await_of d
form_by Notices d = notices_of d
form_by Turns d = turns_of d

-- what a value of a kind says, or of none
abbrev pub form_where : Option Kind → Data → Option Line
form_where None d = None
form_where (Some kind) d = form_by kind d
