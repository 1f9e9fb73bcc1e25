-- What tokens refer to, one after another.
use Rattle.std.proofs.Common.{◌≡◌, ℕ, Some, None, ◌+◌, ◌<◌, ◌≤◌, List, [], ◌∷◌, ◌++◌, take, map, cond, refl, sym, ap, ◌∙◌, append_assoc}
use Rattle.std.specs.Prelude.{Option}
use Rattle.std.specs.Option.{option_map_or}
use Rattle.ax_base.specs.Characters.{Chars, tokens, flat, joined_by_spaces}
use Rattle.ax_base.specs.Context.{is_hidden}
use Rattle.ax_base.specs.Document.{Document, target}
use Rattle.ax_base.specs.References.{referred_node, referred_text}
use Rattle.ax_base.specs.Said.{said0, said_all}
use Rattle.ax_names.specs.Pieces.{Phrase, piece_of, joined, flattened, all_apart}
use Rattle.ax_names.specs.Sessions.{all_referred, referred_by}
use Rattle.ax_names.proofs.Again.{flat_twice}
use Rattle.ax_names.proofs.Apart.{flat_apart}
use Rattle.ax_names.proofs.Gathered.{apart, IsGatheredSoFar, nothing_yet, all_gathered, eight_gathered, one_gathered}

-- what a node says that is referred to, before it is made flat
abbrev said : Document → ℕ → Chars
said d n = cond (is_hidden d n) (said_all d n) (said0 d n)

-- what is kept is that of the tokens so far, and those that are left make it whole
abbrev pub IsReferredSoFar : (Chars → Chars) → Chars → Chars → ℕ → Phrase → Type 0
IsReferredSoFar say text rest k kept = IsGatheredSoFar piece_of say text rest k kept

-- what a token refers to is flat already
pub referred_flat : (d : Document) (token : Chars) → flat (referred_text d token) ≡ referred_text d token
unfolding flat tokens
referred_flat d token = go (target d token)
  where
    go : (o : Option ℕ) → flat (option_map_or (referred_node d) o []) ≡ option_map_or (referred_node d) o []
    go None = refl
    go (Some n) = flat_twice (said d n)

-- Where what tokens say is what they refer to once it is flat:
module _ (d : Document) (say : Chars → Chars) (law : (token : Chars) → flat (say token) ≡ referred_text d token) where
  pub all_flat : (ts : List Chars) → map flat (map say ts) ≡ map (referred_text d) ts
  all_flat [] = refl
  all_flat (t ∷ ts) = λ i. law t i ∷ all_flat ts i

  -- joined by single spaces it is what the piece of each behind a space gives once it is flat
  pub joined_flat : (text : Chars) → ((ts : List Chars) → piece_of (joined_by_spaces (map flat ts)) ≡ flattened (piece_of (all_apart ts))) → (old new : Phrase)
      → old ≡ piece_of (apart say 8 (tokens text)) → new ≡ flattened old → new ≡ piece_of (referred_by d text)
  joined_flat text apart_tells old new is flat_is =
      flat_is ∙ ap flattened is ∙ sym (apart_tells (map say (take 8 (tokens text)))) ∙ ap (λ ts. piece_of (joined_by_spaces ts)) (all_flat (take 8 (tokens text)))

-- The loop over tokens, for what is kept:
module _ (say : Chars → Chars) (text : Chars) where
  pub none_yet : (kept : Phrase) → kept ≡ piece_of [] → IsReferredSoFar say text text 0 kept
  none_yet kept is = nothing_yet piece_of say text kept is

  pub at_end : (rest : Chars) (k : ℕ) (kept : Phrase) → IsReferredSoFar say text rest k kept → tokens rest ≡ [] → kept ≡ piece_of (apart say 8 (tokens text))
  at_end rest k kept so_far out = all_gathered piece_of say text rest k kept so_far out

  pub at_eight : (rest : Chars) (k : ℕ) (kept : Phrase) → IsReferredSoFar say text rest k kept → 8 ≤ k → kept ≡ piece_of (apart say 8 (tokens text))
  at_eight rest k kept so_far many = eight_gathered piece_of say text rest k kept so_far many

  pub one_more : (rest token after : Chars) (k : ℕ) (old new : Phrase) → IsReferredSoFar say text rest k old → k < 8 → tokens rest ≡ token ∷ tokens after
      → ((before : Chars) → old ≡ piece_of before → new ≡ piece_of (before ++ 32 ∷ say token)) → IsReferredSoFar say text after (k + 1) new
  one_more rest token after k old new so_far low is added = one_gathered piece_of say text rest token after k old new so_far low is added

-- a space and then a text behind another
pub spaced_behind : ((a b : Chars) → piece_of (a ++ b) ≡ joined (piece_of a) (piece_of b)) → (before said : Chars) (old mid new : Phrase) → old ≡ piece_of before → mid ≡ joined old (piece_of (32 ∷ []))
    → new ≡ joined mid (piece_of said) → new ≡ piece_of (before ++ 32 ∷ said)
spaced_behind together before said old mid new is space added =
    added ∙ ap (λ p. joined p (piece_of said)) (space ∙ ap (λ p. joined p (piece_of (32 ∷ []))) is ∙ sym (together before (32 ∷ [])))
    ∙ sym (together (before ++ 32 ∷ []) said) ∙ ap piece_of (append_assoc before (32 ∷ []) said)

-- what tokens refer to, each behind a space, is joined by single spaces once it is flat
pub flat_referred : (d : Document) (text : Chars) → flat (all_apart (all_referred d text)) ≡ referred_by d text
flat_referred d text = sym (flat_apart (all_referred d text)) ∙ ap joined_by_spaces (all_flat d (referred_text d) (referred_flat d) (take 8 (tokens text)))
