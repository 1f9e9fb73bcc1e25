-- What a line says.
use Rattle.std.specs.Prelude.{◌≡◌, ◌||◌, ◌==◌, Bool, if◌then◌else◌, Option, Some, None, Result, Ok, Err}
use Rattle.std.specs.List.{list_all}
use Rattle.std.specs.Option.{ok_or}
use Rattle.serde_json.specs.Data.{Data}
use Rattle.serde_json.specs.Read.{read}
use Rattle.ax_base.specs.Characters.{Chars}
use Rattle.story_lines.specs.Forms.{form_of}
use Rattle.story_lines.specs.declared.reading.Line.{Line}
use Rattle.story_lines.specs.declared.reading.LineFail.{LineFail}
use Rattle.story_lines.specs.declared.reading.LineFail.TheVariants.{BadJson, BadLine, NoMemory}

-- nothing but spaces, tabs and carriage returns
abbrev pub is_blank_line : Chars → Bool
is_blank_line text = list_all (λ b. b == 32 || b == 9 || b == 13) text

infixl 10 ◌>>=◌
-- what comes of a value, where there is no failure
abbrev pub ◌>>=◌ : {A B E : Type 0} → Result A E → (A → Result B E) → Result B E
Ok x >>= f = f x
Err e >>= f = Err e

-- what a JSON value says as a line (RFC 8259 has the grammar of JSON)
abbrev pub said_by : Data → Result (Option Line) LineFail
said_by d = ok_or (form_of d) BadLine >>= λ line. Ok (Some line)

-- what a line says: nothing where it is blank, else the form that its JSON value has
abbrev pub line_of : Chars → Result (Option Line) LineFail
line_of text = if is_blank_line text then Ok None else ok_or (read text) BadJson >>= said_by

-- an answer is what the line says, or want of memory
abbrev pub Reads : Result (Option Line) LineFail → Result (Option Line) LineFail → Type 0
Reads (Ok line) want = want ≡ Ok line
Reads (Err NoMemory) want = Unit {0}
Reads (Err fail) want = want ≡ Err fail
