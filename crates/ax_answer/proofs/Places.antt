-- Legal entries, one line further.
use Rattle.std.proofs.Common.{◌≡◌, ◌+◌, List, [], ◌∷◌, ◌++◌, refl}
use Rattle.story_check.specs.declared.story.ClientLine.{ClientLine}
use Rattle.story_check.specs.Stories.{Story}
use Rattle.ax_ask.specs.declared.transcripts.Entry.{Entry}
use Rattle.ax_answer.specs.Legal.{Place, IsEntry, after_entry, AreLegal, place_after}

pub legal-snoc : (s : Story) (c : Place) (lines : List ClientLine) (es : List Entry) (line : ClientLine) (e : Entry) → AreLegal s c lines es → e.number ≡ (place_after c lines es).lines + 1 → IsEntry s (place_after c lines es) line e → AreLegal s c (lines ++ line ∷ []) (es ++ e ∷ [])
legal-snoc s c [] [] line e h n i = (n, i, tt)
legal-snoc s c [] (x ∷ es) line e h n i = absurd h
legal-snoc s c (l ∷ ls) [] line e h n i = absurd h
legal-snoc s c (l ∷ ls) (x ∷ es) line e h n i = (h.0, h.1, legal-snoc s (after_entry c l x) ls es line e h.2 n i)

pub place-snoc : (s : Story) (c : Place) (lines : List ClientLine) (es : List Entry) (line : ClientLine) (e : Entry) → AreLegal s c lines es → place_after c (lines ++ line ∷ []) (es ++ e ∷ []) ≡ after_entry (place_after c lines es) line e
place-snoc s c [] [] line e h = refl
place-snoc s c [] (x ∷ es) line e h = absurd h
place-snoc s c (l ∷ ls) [] line e h = absurd h
place-snoc s c (l ∷ ls) (x ∷ es) line e h = place-snoc s (after_entry c l x) ls es line e h.2
