-- Texts between spaces.
use Rattle.std.proofs.Common.{◌≡◌, ℕ, [], ◌∷◌, ◌++◌, Bool, true, false, cond, not, ◌&&◌, ◌||◌, refl, ap, ◌∙◌, append-nil}
use Rattle.ax_base.specs.Characters.{Chars, flat}
use Rattle.ax_base.specs.Said as child
use Rattle.ax_names.specs.Pieces.{is_empty, ends_white, is_longer, space_behind, spaced, opening_of, piece_of, between_spaces}
use Rattle.ax_names.proofs.Added.{flat_append, flat_nil}
use Rattle.ax_names.proofs.Apart.{flat_space, and_false}

nothing_behind : (x : Chars) (white : Bool) → spaced x white [] ≡ []
nothing_behind x white = ap (λ (b : Bool). space_behind x b ++ []) (and_false white) ∙ ap (λ (b : Bool). cond b (32 ∷ []) [] ++ []) (and_false (not (is_empty x)))

space_last : (t : Chars) → flat (t ++ 32 ∷ []) ≡ flat t
space_last t =
    flat_append t (32 ∷ []) ∙ ap (λ (l : Chars). flat t ++ spaced (flat t) (ends_white t || true) l) (flat_space [] ∙ flat_nil)
    ∙ ap (λ (l : Chars). flat t ++ l) (nothing_behind (flat t) (ends_white t || true)) ∙ append-nil (flat t)

-- the spaces are gone once the text is flat
pub flat_between : (apart : Bool) (t : Chars) → flat (child.spaced apart t) ≡ flat t
flat_between true t = flat_space (t ++ 32 ∷ []) ∙ space_last t
flat_between false t = refl

ends_last : (c : ℕ) (t : Chars) → ends_white (c ∷ (t ++ 32 ∷ [])) ≡ true
ends_last c [] = refl
ends_last c (d ∷ ds) = ends_last d ds

and_true : (x : Bool) → (x && true) ≡ x
and_true true = refl
and_true false = refl

pub between_kept : (t : Chars) → piece_of (child.spaced true t) ≡ between_spaces (piece_of t)
unfolding piece_of
between_kept t = λ i. record { opening = opening_of (flat_between true t i); starts = true; ends = ends_is i }
  where
    ends_is : (not (is_longer (flat (child.spaced true t))) && ends_white (child.spaced true t)) ≡ not (is_longer (flat t))
    ends_is = (λ i. not (is_longer (flat_between true t i)) && ends_last 32 t i) ∙ and_true (not (is_longer (flat t)))
