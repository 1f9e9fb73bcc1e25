-- What nodes say, from what their children say.
use Rattle.std.proofs.Common.{◌≡◌, ℕ, Bool, ◌-◌, ◌<◌, List, [], ◌∷◌, ◌++◌, map, cond, refl, ap, ◌∙◌, arith}
use Rattle.std.specs.List.{flat_map}
use Rattle.ax_base.specs.Characters.{Chars}
use Rattle.ax_base.specs.Document.{Document, Spot, spot, children, IsChild}
use Rattle.ax_base.specs.Trees.{IsTree}
use Rattle.ax_base.specs.Roles.{hides}
use Rattle.ax_base.specs.Said.{joined_children, child_text, nothing_hides, said_as, said0_from, said0, said_all_from, said_all}
use Rattle.ax_base.specs.References.{Referring, referring, said1_from, said1}
use Rattle.ax_base.specs.AccessibleNames.{content_text}
use Rattle.ax_base.proofs.Below.{from_below_unfolds}

module _ (d : Document) where
  -- the texts of children, joined, are what each says with its spaces
  pub joined_each : (hiding : Spot → Bool) (say : ℕ → Chars) (cs : List ℕ) → joined_children hiding (map (λ c. (spot d c, say c)) cs) ≡ flat_map (child_text d hiding say) cs
  joined_each hiding say [] = refl
  joined_each hiding say (c ∷ cs) = ap (λ l. child_text d hiding say c ++ l) (joined_each hiding say cs)

  joined_referring : (cs : List ℕ)
      → joined_children hides (map (λ (c : Referring × Chars). (c.0.spot, c.1)) (map (λ c. (referring d c, said1 d c)) cs)) ≡ flat_map (child_text d hides (said1 d)) cs
  joined_referring [] = refl
  joined_referring (c ∷ cs) = ap (λ l. child_text d hides (said1 d) c ++ l) (joined_referring cs)

  module _ (t : IsTree d) where
    falls : (n c : ℕ) → IsChild d n c → 64 - t.level c < 64 - t.level n
    falls n c child = let e = t.deeper n c child in let s = t.shallow c in omega arith

    -- what a node says is made of what its children say
    pub said0-children : (n : ℕ) → said0 d n ≡ cond (hides (spot d n)) [] (said_as [] (spot d n) (flat_map (child_text d hides (said0 d)) (children d n)))
    said0-children n =
        from_below_unfolds said0_from (spot d) (children d) (λ n. 64 - t.level n) falls 64 n (omega arith)
        ∙ ap (λ below. cond (hides (spot d n)) [] (said_as [] (spot d n) below)) (joined_each hides (said0 d) (children d n))

    -- the same where nothing hides
    pub said_all-children : (n : ℕ) → said_all d n ≡ said_as [] (spot d n) (flat_map (child_text d nothing_hides (said_all d)) (children d n))
    said_all-children n =
        from_below_unfolds said_all_from (spot d) (children d) (λ n. 64 - t.level n) falls 64 n (omega arith)
        ∙ ap (said_as [] (spot d n)) (joined_each nothing_hides (said_all d) (children d n))

    -- the same where references count
    pub said1-children : (n : ℕ) → said1 d n ≡ cond (hides (spot d n)) [] (said_as (referring d n).text (spot d n) (content_text d n))
    said1-children n =
        from_below_unfolds said1_from (referring d) (children d) (λ n. 64 - t.level n) falls 64 n (omega arith)
        ∙ ap (λ below. cond (hides (spot d n)) [] (said_as (referring d n).text (spot d n) below)) (joined_referring (children d n))
