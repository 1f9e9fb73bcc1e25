-- A story's lines, how far they may be published, and whether one could wait for ever.
use Rattle.std.specs.Prelude.{ℕ, ◌+◌, max, Bool, true, false, not, ◌&&◌, List, [], ◌∷◌, ◌++◌, nat_le, nat_lt, if◌then◌else◌}
use Rattle.ax_base.specs.declared.ids.Who.{Who}
use Rattle.ax_dom.specs.declared.edit.Edit.{Edit}
use Rattle.story_check.specs.declared.story.PageLine.{PageLine}
use Rattle.story_check.specs.declared.story.PageLine.TheVariants.{Change, Flush, Until}
use Rattle.story_check.specs.declared.story.ClientLine.{ClientLine}
use Rattle.story_check.specs.declared.story.ClientLine.TheVariants.{Ask, Again, Hear, Await, Notices}

-- a story: the edits before its start, the lines of its page and of its client, and the turns to play first
pub record Story : Type 0 where
  pub base : List Edit
  pub page : List PageLine
  pub client : List ClientLine
  pub turns : List Who

-- the number of flushes
abbrev pub flushes : List PageLine → ℕ
flushes [] = 0
flushes (Change e ∷ xs) = flushes xs
flushes (Flush ∷ xs) = 1 + flushes xs
flushes (Until k ∷ xs) = flushes xs

-- the number of flushes before the first wait for more than t, or of all
abbrev pub cap : List PageLine → ℕ → ℕ
cap [] t = 0
cap (Change e ∷ xs) t = cap xs t
cap (Flush ∷ xs) t = 1 + cap xs t
cap (Until k ∷ xs) t = if nat_lt t k then 0 else cap xs t

-- the greater of g and each moment awaited
abbrev pub awaited : ℕ → List ClientLine → ℕ
awaited g [] = g
awaited g (Await a ∷ xs) = awaited (max g a) xs
awaited g (Ask q ∷ xs) = awaited g xs
awaited g (Again q ∷ xs) = awaited g xs
awaited g (Hear ∷ xs) = awaited g xs
awaited g (Notices ∷ xs) = awaited g xs

-- each moment awaited may be published while the client has taken the greatest one awaited before it
abbrev pub awaits_met : List PageLine → ℕ → List ClientLine → Bool
awaits_met page g [] = true
awaits_met page g (Await a ∷ xs) = nat_le a (cap page g) && awaits_met page (max g a) xs
awaits_met page g (Ask q ∷ xs) = awaits_met page g xs
awaits_met page g (Again q ∷ xs) = awaits_met page g xs
awaits_met page g (Hear ∷ xs) = awaits_met page g xs
awaits_met page g (Notices ∷ xs) = awaits_met page g xs

-- no line of the page waits for more than t
abbrev pub untils_met : ℕ → List PageLine → Bool
untils_met t [] = true
untils_met t (Change e ∷ xs) = untils_met t xs
untils_met t (Flush ∷ xs) = untils_met t xs
untils_met t (Until k ∷ xs) = nat_le k t && untils_met t xs

-- some line could wait for ever
abbrev pub stuck : Story → Bool
stuck s = not (awaits_met s.page 0 s.client && untils_met (awaited 0 s.client) s.page)

-- whether an edit stands after the last flush, where one stands before these lines or none
abbrev pub unflushed : Bool → List PageLine → Bool
unflushed b [] = b
unflushed b (Change e ∷ xs) = unflushed true xs
unflushed b (Flush ∷ xs) = unflushed false xs
unflushed b (Until k ∷ xs) = unflushed b xs

-- the lines, and one flush more where an edit is not flushed
abbrev pub closed : List PageLine → List PageLine
closed xs = if unflushed false xs then xs ++ Flush ∷ [] else xs
