-- Which deeds a transcript came from.
use Rattle.std.specs.Prelude.{◌≡◌, ℕ, List, [], ◌∷◌, ◌++◌, Bool, true}
use Rattle.turn_word.specs.declared.view.Deed.{Deed}
use Rattle.turn_word.specs.declared.view.Deed.TheVariants.{Look, Take}
use Rattle.story_check.specs.declared.story.ClientLine.{ClientLine}
use Rattle.story_check.specs.declared.story.ClientLine.TheVariants.{Ask, Again, Hear, Await, Notices}
use Rattle.ax_ask.specs.declared.transcripts.Entry.{Entry}

-- looks and no take
abbrev pub AreLooks : List Deed → Type 0
AreLooks [] = Unit {0}
AreLooks (Look k over ∷ ds) = AreLooks ds
AreLooks (Take p ∷ ds) = ⊥

-- the deeds that a line with this moment uses: an ask one take; an await looks and then one take; a hear one look; the others none
abbrev pub Uses : ClientLine → ℕ → List Deed → Type 0
Uses (Ask q) m ds = ds ≡ Take m ∷ []
Uses (Await a) m ds = (looks : List Deed) × AreLooks looks × (ds ≡ looks ++ Take m ∷ [])
Uses Hear m ds = (over : Bool) × (ds ≡ Look m over ∷ [])
Uses (Again q) m ds = ds ≡ []
Uses Notices m ds = ds ≡ []

-- the entries of these lines came from these deeds, in order, and no deed is left
abbrev pub Follows : List ClientLine → List Entry → List Deed → Type 0
Follows [] [] ds = ds ≡ []
Follows (line ∷ lines) (e ∷ es) ds = (used : List Deed) × (rest : List Deed) × (ds ≡ used ++ rest) × Uses line e.moment used × Follows lines es rest
Follows [] (e ∷ es) ds = ⊥
Follows (line ∷ lines) [] ds = ⊥

-- the last deed is a look that told k and that the page is over
abbrev pub LastWasOver : ℕ → List Deed → Type 0
LastWasOver k ds = (before : List Deed) × (ds ≡ before ++ Look k true ∷ [])
