-- The texts of entries and transcripts.
use Rattle.std.specs.Prelude.{ℕ, List, Option, Some, None, ◌++◌, codes, length}
use Rattle.std.specs.List.{flat_map}
use Rattle.std.specs.Fmt.{decimal}
use Rattle.ax_base.specs.Characters.{Chars}
use Rattle.ax_base.specs.declared.notices.Notice.{Notice}
use Rattle.ax_base.specs.SettingWords.{kind_word}
use Rattle.ax_ask.specs.Replies.{reply_text}
use Rattle.ax_ask.specs.declared.transcripts.EntryBody.{EntryBody}
use Rattle.ax_ask.specs.declared.transcripts.EntryBody.TheVariants.{Reply, Await, Hear, Notices}
use Rattle.ax_ask.specs.declared.transcripts.Entry.{Entry}
use Rattle.ax_ask.specs.declared.transcripts.Transcript.{Transcript}

-- the object of a notice, or 0 for none
abbrev pub id_or_zero : Option ℕ → ℕ
id_or_zero (Some id) = id
id_or_zero None = 0

-- the line of a notice: its moment, its kind and its object
abbrev pub notice_line : Notice → Chars
notice_line n = codes "! " ++ decimal n.moment ++ codes " " ++ kind_word n.kind ++ codes " " ++ decimal (id_or_zero n.id) ++ codes "\n"

-- how many notices there are, and their lines
abbrev pub notices_text : List Notice → Chars
notices_text ns = codes "notices " ++ decimal (length ns) ++ codes "\n" ++ flat_map notice_line ns

-- what an entry came to, with the end of its line
abbrev pub body_text : EntryBody → Chars
body_text (Reply reply) = reply_text reply ++ codes "\n"
body_text Await = codes "await\n"
body_text Hear = codes "hear\n"
body_text (Notices ns) = notices_text ns

-- the number and the moment of an entry
abbrev pub head_text : ℕ → ℕ → Chars
head_text number moment = codes "#" ++ decimal number ++ codes " @" ++ decimal moment ++ codes " "

-- the text of an entry: a line, and those of its notices
abbrev pub entry_text : Entry → Chars
entry_text e = head_text e.number e.moment ++ body_text e.body

-- the last line, with the number of flushes
abbrev pub end_line : ℕ → Chars
end_line flushes = codes "end " ++ decimal flushes ++ codes "\n"

-- the text of a transcript: those of its entries, and the last line
abbrev pub transcript_text : Transcript → Chars
transcript_text t = flat_map entry_text t.entries ++ end_line t.flushes
