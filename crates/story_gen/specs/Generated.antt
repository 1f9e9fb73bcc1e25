-- The generated story: a list of buttons, whose names the page changes one after another while the client asks for them.
use Rattle.std.specs.Prelude.{ℕ, zero, suc, ◌+◌, ◌*◌, ◌/◌, ◌%◌, ◌==◌, if◌then◌else◌, [], ◌++◌, codes}
use Rattle.std.specs.Fmt.{decimal}
use Rattle.ax_base.specs.Characters.{Chars}

-- the texts of the items 1 to n, in order
abbrev pub up_to : (ℕ → Chars) → ℕ → Chars
up_to text zero = []
up_to text (suc n) = up_to text n ++ text (n + 1)

-- the ids of an item's list item, of its button and of the text in it
abbrev pub item_id : ℕ → ℕ
item_id i = 3 * i

abbrev pub button_id : ℕ → ℕ
button_id i = 3 * i + 1

abbrev pub label_id : ℕ → ℕ
label_id i = 3 * i + 2

-- the lines that insert an item
abbrev pub item_line : ℕ → Chars
item_line i = codes "{\"insert\":" ++ decimal (item_id i) ++ codes ",\"into\":2,\"tag\":\"li\"}\n"

abbrev pub button_line : ℕ → Chars
button_line i = codes "{\"insert\":" ++ decimal (button_id i) ++ codes ",\"into\":" ++ decimal (item_id i) ++ codes ",\"tag\":\"button\"}\n"

abbrev pub label_line : ℕ → Chars
label_line i = codes "{\"insert\":" ++ decimal (label_id i) ++ codes ",\"into\":" ++ decimal (button_id i) ++ codes ",\"text\":\"Item " ++ decimal i ++ codes "\"}\n"

abbrev pub insert_lines : ℕ → Chars
insert_lines i = item_line i ++ button_line i ++ label_line i

-- the line that gives the button of item i of n its new name, in its two halves
abbrev pub set_label : ℕ → Chars
set_label i = codes "{\"set\":" ++ decimal (button_id i) ++ codes ",\"name\":\"aria-label\",\"value\":"

abbrev pub new_label : ℕ → ℕ → Chars
new_label n i = codes "\"Item " ++ decimal i ++ codes " of " ++ decimal n ++ codes "\"}\n"

abbrev pub name_line : ℕ → ℕ → Chars
name_line n i = set_label i ++ new_label n i

-- every fourth item is followed by a flush
abbrev pub flush_line : ℕ → Chars
flush_line i = if i % 4 == 0 then codes "{\"flush\":true}\n" else []

-- the client asks for the name of the button
abbrev pub ask_line : ℕ → Chars
ask_line i = codes "{\"ask\":{\"q\":\"name\",\"id\":" ++ decimal (button_id i) ++ codes "}}\n"

abbrev pub change_lines : ℕ → ℕ → Chars
change_lines n i = name_line n i ++ flush_line i ++ ask_line i

-- how many moments the story has: the quarter of the items, rounded up
abbrev pub moments : ℕ → ℕ
moments n = (n + 3) / 4

-- the client awaits the last moment, and lists the notices of all
abbrev pub last_lines : ℕ → Chars
last_lines n = codes "{\"await\":" ++ decimal (moments n) ++ codes "}\n{\"notices\":true}\n"

-- the generated story of n items
unfoldable pub generated : ℕ → Chars
generated n = codes "{\"insert\":2,\"into\":1,\"tag\":\"ul\"}\n" ++ up_to insert_lines n ++ codes "{\"start\":1}\n" ++ up_to (change_lines n) n ++ last_lines n
