-- What is written for a refusal.
use Rattle.std.specs.Prelude.{◌++◌, codes}
use Rattle.std.specs.Fmt.{decimal}
use Rattle.ax_base.specs.Characters.{Chars}
use Rattle.story_check.specs.declared.refusals.Cause.{Cause}
use Rattle.story_check.specs.declared.refusals.Cause.TheVariants.{StoryTooLong, NotUtf8, BadJson, BadLine, NoStart, SecondStart, TooManyFlushes, TooManyAsks, BadTurns, AwaitTooFar, Stuck, NoNode, UsedId, BadPlace, NotElement, NotText, IntoItself, RootFixed, TooDeep, TooMany, BadRuns, TooLong}
use Rattle.story_check.specs.declared.refusals.Refusal.{Refusal}

-- the word of a cause
abbrev pub cause_word : Cause → Chars
cause_word StoryTooLong = codes "StoryTooLong"
cause_word NotUtf8 = codes "NotUtf8"
cause_word BadJson = codes "BadJson"
cause_word BadLine = codes "BadLine"
cause_word NoStart = codes "NoStart"
cause_word SecondStart = codes "SecondStart"
cause_word TooManyFlushes = codes "TooManyFlushes"
cause_word TooManyAsks = codes "TooManyAsks"
cause_word BadTurns = codes "BadTurns"
cause_word AwaitTooFar = codes "AwaitTooFar"
cause_word Stuck = codes "Stuck"
cause_word NoNode = codes "NoNode"
cause_word UsedId = codes "UsedId"
cause_word BadPlace = codes "BadPlace"
cause_word NotElement = codes "NotElement"
cause_word NotText = codes "NotText"
cause_word IntoItself = codes "IntoItself"
cause_word RootFixed = codes "RootFixed"
cause_word TooDeep = codes "TooDeep"
cause_word TooMany = codes "TooMany"
cause_word BadRuns = codes "BadRuns"
cause_word TooLong = codes "TooLong"

-- the line that is written for a refusal
unfoldable pub refusal_text : Refusal → Chars
refusal_text r = codes "refused " ++ (decimal r.line ++ (codes " " ++ (cause_word r.cause ++ codes "\n")))
