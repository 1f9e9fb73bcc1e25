-- What a loop over children gathers of what they say.
use Rattle.std.proofs.Common.{◌≡◌, ℕ, ◌+◌, ◌<◌, List, [], ◌∷◌, ◌++◌, length, take, drop, get_or, Bool, true, false, Contains, Some, refl, sym, ap, ◌∙◌, append-nil}
use Rattle.std.specs.List.{flat_map}
use Rattle.std.proofs.lemmas.Grind.{flat_map-append}
use Rattle.std.proofs.lemmas.List.{take_more, take-append-drop}
use Rattle.ax_base.specs.Characters.{Chars}
use Rattle.ax_base.specs.Document.{Document}
use Rattle.ax_base.specs.References.{said1}
use Rattle.ax_base.specs.Roles.{hides}
use Rattle.ax_base.specs.Said.{child_text, nothing_hides, said0, said_all}
use Rattle.ax_names.specs.Pieces.{Phrase, piece_of, joined}
use Rattle.ax_names.proofs.Joining.{pieces_join}
use Rattle.said_pass.specs.declared.names.NodeName.{NodeName}
use Rattle.said_pass.specs.declared.texts.NodeText.{NodeText}
use Rattle.said_pass.specs.Saids.{kept_text, node_text, children_text, joined_text, text_at, IsTextKept, node_name, children_part, name_at, IsNameKept}

-- What is kept of what some say, whatever each says:

-- one more
piece_more : (say : ℕ → Chars) (cs : List ℕ) (i x : ℕ) → i < length cs → x ≡ get_or cs i x → joined (piece_of (flat_map say (take i cs))) (piece_of (say x)) ≡ piece_of (flat_map say (take (i + 1) cs))
piece_more say cs i x low is =
    sym (pieces_join (flat_map say (take i cs)) (say x))
    ∙ ap piece_of (
    ap (λ l. flat_map say (take i cs) ++ l) (sym (append-nil (say x)))
    ∙ sym (flat_map-append say (take i cs) (x ∷ []))
    ∙ ap (flat_map say) (ap (λ y. take i cs ++ y ∷ []) is ∙ sym (take_more cs i x low))
    )

-- all that are left
piece_rest : (say : ℕ → Chars) (cs : List ℕ) (i : ℕ) → joined (piece_of (flat_map say (take i cs))) (piece_of (flat_map say (drop i cs))) ≡ piece_of (flat_map say cs)
piece_rest say cs i =
    sym (pieces_join (flat_map say (take i cs)) (flat_map say (drop i cs)))
    ∙ ap piece_of (sym (flat_map-append say (take i cs) (drop i cs)) ∙ ap (flat_map say) (take-append-drop i cs))

-- what is asked whether it takes more stays what it is kept of
pub piece_stays : (is_full : Bool) (old new : Phrase) → (is_full ≡ true → (more : Phrase) → new ≡ joined old more) → (is_full ≡ false → new ≡ old) → (t : Chars) → old ≡ piece_of t → new ≡ piece_of t
piece_stays true old new full same t is = full refl (piece_of []) ∙ ap (λ p. joined p (piece_of [])) is ∙ sym (pieces_join t []) ∙ ap piece_of (append-nil t)
piece_stays false old new full same t is = same refl ∙ is

-- so do two texts
pub both_stay : (old : NodeText) (shown whole : Phrase) → ((t : Chars) → old.shown ≡ piece_of t → shown ≡ piece_of t) → ((t : Chars) → old.whole ≡ piece_of t → whole ≡ piece_of t)
    → (s w : Chars) → old ≡ kept_text s w → record { shown = shown; whole = whole } ≡ kept_text s w
both_stay old shown whole front all s w is = λ k. record { shown = front s (ap (λ (t : NodeText). t.shown) is) k; whole = all w (ap (λ (t : NodeText). t.whole) is) k }

module _ (kept : List (ℕ × NodeText)) (cs : List ℕ) where
  -- what is kept of the children is right
  abbrev AreTextsRight : Document → Type 0
  AreTextsRight d = (c : ℕ) → Contains cs c → IsTextKept d kept c

  -- what the first children say where no reference is followed
  abbrev pub TextsSoFar : ℕ → NodeText → Type 0
  TextsSoFar i inside = (d : Document) → AreTextsRight d → inside ≡ children_text d (take i cs)

  pub more_texts : (i x : ℕ) (old asked new : NodeText) → i < length cs → x ≡ get_or cs i x → TextsSoFar i old → ((shown whole : Chars) → old ≡ kept_text shown whole → asked ≡ kept_text shown whole)
      → ((t : NodeText) → text_at kept x ≡ Some t → new ≡ joined_text asked t) → TextsSoFar (i + 1) new
  more_texts i x old asked new low is far stays adds = λ d right.
      adds (node_text d x) (right x (i, low, sym is))
      ∙ ap (λ (t : NodeText). joined_text t (node_text d x)) (stays _ _ (far d right))
      ∙ (λ k. record { shown = piece_more (child_text d hides (said0 d)) cs i x low is k; whole = piece_more (child_text d nothing_hides (said_all d)) cs i x low is k })

  -- where no child adds more
  pub full_texts : (i : ℕ) (old new : NodeText) → TextsSoFar i old → ((more : NodeText) → new ≡ joined_text old more) → (d : Document) → AreTextsRight d → new ≡ children_text d cs
  full_texts i old new far full d right =
      full (children_text d (drop i cs)) ∙ ap (λ (t : NodeText). joined_text t (children_text d (drop i cs))) (far d right)
      ∙ (λ k. record { shown = piece_rest (child_text d hides (said0 d)) cs i k; whole = piece_rest (child_text d nothing_hides (said_all d)) cs i k })

module _ (kept : List (ℕ × NodeName)) (cs : List ℕ) where
  -- what is kept of the children is right
  abbrev ArePartsRight : Document → Type 0
  ArePartsRight d = (c : ℕ) → Contains cs c → IsNameKept d kept c

  -- what the first children say as parts of a name
  abbrev pub PartsSoFar : ℕ → Phrase → Type 0
  PartsSoFar i content = (d : Document) → ArePartsRight d → content ≡ children_part d (take i cs)

  pub more_parts : (i x : ℕ) (old asked new : Phrase) → i < length cs → x ≡ get_or cs i x → PartsSoFar i old → ((t : Chars) → old ≡ piece_of t → asked ≡ piece_of t)
      → ((n : NodeName) → name_at kept x ≡ Some n → new ≡ joined asked n.part) → PartsSoFar (i + 1) new
  more_parts i x old asked new low is far stays adds = λ d right.
      adds (node_name d x) (right x (i, low, sym is)) ∙ ap (λ p. joined p (piece_of (child_text d hides (said1 d) x))) (stays _ (far d right)) ∙ piece_more (child_text d hides (said1 d)) cs i x low is

  -- where no child adds more
  pub full_parts : (i : ℕ) (old new : Phrase) → PartsSoFar i old → ((more : Phrase) → new ≡ joined old more) → (d : Document) → ArePartsRight d → new ≡ children_part d cs
  full_parts i old new far full d right = full (children_part d (drop i cs)) ∙ ap (λ p. joined p (children_part d (drop i cs))) (far d right) ∙ piece_rest (child_text d hides (said1 d)) cs i
