-- The words of a command.
use Rattle.std.specs.Prelude.{ℕ, ◌≤◌, Bool, false, not, ◌&&◌, ◌==◌, nat_le, List, [], ◌∷◌, codes, if◌then◌else◌, Option, Some, None, String, string_bytes}
use Rattle.std.specs.declared.alloc.Global.{Global}
use Rattle.std.specs.Str.{bytes_eq}
use Rattle.ax_base.specs.Characters.{Chars}
use Rattle.ax_base.specs.Values.{are_digits, number}
use Rattle.ax_session.specs.declared.words.Command.{Command}
use Rattle.ax_session.specs.declared.words.Command.TheVariants.{Dump, Replay, Run, Gen}
use Rattle.ax_session.specs.declared.words.Status.{Status}
use Rattle.ax_session.specs.declared.words.Status.TheVariants.{Done, Refused, ReadFault, WriteFault, NoMemory, Words}

-- whether a word begins with the digit 0
abbrev pub has_zero_in_front : Chars → Bool
has_zero_in_front [] = false
has_zero_in_front (c ∷ _) = c == 48

-- a number up to 1,000
abbrev pub at_most_thousand : ℕ → Option ℕ
at_most_thousand n = if nat_le n 1000 then Some n else None

-- the number from 1 to 1,000 that a word writes in decimal digits, without a sign and without a zero in front
abbrev pub count_of : Chars → Option ℕ
count_of word = if are_digits 4 word && not (has_zero_in_front word) then at_most_thousand (number word) else None

-- the command that generates the story of so many items
abbrev pub generating : Option ℕ → Option Command
generating None = None
generating (Some n) = Some (Gen n)

-- the command of these words, if they are one of the forms
abbrev pub command_of : List (String Global) → Option Command
command_of [] = None
command_of (word ∷ []) = if bytes_eq (string_bytes word) (codes "dump") then Some Dump else (if bytes_eq (string_bytes word) (codes "replay") then Some Replay else (if bytes_eq (string_bytes word) (codes "run") then Some Run else None))
command_of (first ∷ word ∷ []) = if bytes_eq (string_bytes first) (codes "gen") then generating (count_of (string_bytes word)) else None
command_of (first ∷ word ∷ _ ∷ _) = None

-- the items of a generated story are from 1 to 1,000
abbrev pub HasCount : Command → Type 0
HasCount Dump = Unit {0}
HasCount Replay = Unit {0}
HasCount Run = Unit {0}
HasCount (Gen n) = (1 ≤ n) × (n ≤ 1000)

-- the number with which the program ends
abbrev pub status_number : Status → ℕ
status_number Done = 0
status_number Refused = 2
status_number ReadFault = 3
status_number WriteFault = 4
status_number NoMemory = 5
status_number Words = 6
