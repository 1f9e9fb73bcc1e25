-- One line's deeds more.
use Rattle.std.proofs.Common.{◌≡◌, ℕ, ◌≤◌, List, [], ◌∷◌, ◌++◌, Bool, true, refl, sym, ap, ◌∙◌, append_assoc}
use Rattle.turn_word.specs.declared.view.Deed.{Deed}
use Rattle.turn_word.specs.declared.view.Deed.TheVariants.{Look, Take}
use Rattle.turn_word.specs.Deeds.{last_number}
use Rattle.turn_word.proofs.DeedsGrow.{last_number-snoc}
use Rattle.story_check.specs.declared.story.ClientLine.{ClientLine}
use Rattle.ax_ask.specs.declared.transcripts.Entry.{Entry}
use Rattle.ax_client.specs.Follow.{AreLooks, Uses, Follows, LastWasOver}

pub append-none : {X : Type 0} (xs : List X) → xs ++ [] ≡ xs
append-none [] = refl
append-none (x ∷ xs) = ap (λ l. x ∷ l) (append-none xs)

pub follows-snoc : (lines : List ClientLine) (es : List Entry) (ds : List Deed) (line : ClientLine) (e : Entry) (used : List Deed) → Follows lines es ds → Uses line e.moment used → Follows (lines ++ line ∷ []) (es ++ e ∷ []) (ds ++ used)
follows-snoc [] [] ds line e used h u = (used, [], ap (λ (d : List Deed). d ++ used) h ∙ sym (append-none used), u, refl)
follows-snoc (l ∷ ls) (x ∷ es) ds line e used h u = (h.0, h.1 ++ used, ap (λ (d : List Deed). d ++ used) h.2 ∙ append_assoc h.0 h.1 used, h.3, follows-snoc ls es h.1 line e used h.4 u)
follows-snoc [] (x ∷ es) ds line e used h u = absurd h
follows-snoc (l ∷ ls) [] ds line e used h u = absurd h

pub looks-snoc : (ds : List Deed) (k : ℕ) (over : Bool) → AreLooks ds → AreLooks (ds ++ Look k over ∷ [])
looks-snoc [] k over h = tt
looks-snoc (Look j o ∷ ds) k over h = looks-snoc ds k over h
looks-snoc (Take p ∷ ds) k over h = absurd h

-- the number of the look that told that the page is over
pub last_over : (k : ℕ) (ds : List Deed) → LastWasOver k ds → last_number 0 ds ≡ k
last_over k ds h = ap (last_number 0) h.1 ∙ last_number-snoc 0 h.0 (Look k true)
