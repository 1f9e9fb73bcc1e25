-- The words of replies and notices.
use Rattle.std.specs.Prelude.{Bool, true, false, codes}
use Rattle.ax_base.specs.Characters.{Chars}
use Rattle.ax_ask.specs.declared.replies.Placing.{Placing}
use Rattle.ax_ask.specs.declared.replies.Placing.TheVariants.{Before, Same, After}

-- true or false
abbrev pub truth_word : Bool → Chars
truth_word true = codes "true"
truth_word false = codes "false"

-- where one marker stands, seen from another
abbrev pub placing_word : Placing → Chars
placing_word Before = codes "before"
placing_word Same = codes "same"
placing_word After = codes "after"
