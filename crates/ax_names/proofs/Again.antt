-- A flat text is flat.
use Rattle.std.proofs.Common.{◌≡◌, ℕ, [], ◌∷◌, ◌++◌, Bool, true, false, cond, not, ◌&&◌, refl, sym, ap, ◌∙◌}
use Rattle.ax_base.specs.Characters.{Chars, is_white, flat}
use Rattle.ax_names.specs.Pieces.{begins_white, ends_white, is_longer, opening_of, piece_of, flattened}
use Rattle.ax_names.proofs.Added.{space, added, flat_added, ink_step}

-- what was added is added again
again_some-step : (c : ℕ) (cs : Chars) → ((white : Bool) → added true false (added true white cs) ≡ added true white cs) → (s white : Bool) → is_white c ≡ s
    → added true false (cond s (added true true cs) (space true white ++ (c ∷ added true false cs))) ≡ cond s (added true true cs) (space true white ++ (c ∷ added true false cs))
again_some-step c cs ih true white e = ih true
again_some-step c cs ih false true e = ink_step true true c (added true false cs) e ∙ ap (λ (l : Chars). 32 ∷ c ∷ l) (ih false)
again_some-step c cs ih false false e = ink_step true false c (added true false cs) e ∙ ap (λ (l : Chars). c ∷ l) (ih false)

again_some : (t : Chars) (white : Bool) → added true false (added true white t) ≡ added true white t
again_some [] white = refl
again_some (c ∷ cs) white = again_some-step c cs (again_some cs) (is_white c) white refl

again-step : (c : ℕ) (cs : Chars) → added false false (added false true cs) ≡ added false true cs → (s : Bool) → is_white c ≡ s
    → added false false (cond s (added false true cs) (c ∷ added true false cs)) ≡ cond s (added false true cs) (c ∷ added true false cs)
again-step c cs ih true e = ih
again-step c cs ih false e = ink_step false false c (added true false cs) e ∙ ap (λ (l : Chars). c ∷ l) (again_some cs false)

again : (t : Chars) (white : Bool) → added false false (added false white t) ≡ added false white t
again [] white = refl
again (c ∷ cs) white = again-step c cs (again cs true) (is_white c) refl

pub flat_twice : (t : Chars) → flat (flat t) ≡ flat t
flat_twice t = flat_added (flat t) false ∙ ap (λ (l : Chars). added false false l) (flat_added t false) ∙ again t false ∙ sym (flat_added t false)

-- it begins with no white space
begins-step : (c : ℕ) (cs : Chars) → begins_white (added false true cs) ≡ false → (s : Bool) → is_white c ≡ s → begins_white (cond s (added false true cs) (c ∷ added true false cs)) ≡ false
begins-step c cs ih true e = ih
begins-step c cs ih false e = e

begins : (t : Chars) (white : Bool) → begins_white (added false white t) ≡ false
begins [] white = refl
begins (c ∷ cs) white = begins-step c cs (begins cs true) (is_white c) refl

-- it ends in no white space
ends_some-step : (b c : ℕ) (cs : Chars) → ((b : ℕ) (white : Bool) → is_white b ≡ false → ends_white (b ∷ added true white cs) ≡ false) → (s white : Bool) → is_white c ≡ s → is_white b ≡ false
    → ends_white (b ∷ cond s (added true true cs) (space true white ++ (c ∷ added true false cs))) ≡ false
ends_some-step b c cs ih true white e ink = ih b true ink
ends_some-step b c cs ih false true e ink = ih c false e
ends_some-step b c cs ih false false e ink = ih c false e

ends_some : (t : Chars) (b : ℕ) (white : Bool) → is_white b ≡ false → ends_white (b ∷ added true white t) ≡ false
ends_some [] b white ink = ink
ends_some (c ∷ cs) b white ink = ends_some-step b c cs (ends_some cs) (is_white c) white refl ink

ends-step : (c : ℕ) (cs : Chars) → ends_white (added false true cs) ≡ false → (s : Bool) → is_white c ≡ s → ends_white (cond s (added false true cs) (c ∷ added true false cs)) ≡ false
ends-step c cs ih true e = ih
ends-step c cs ih false e = ends_some cs c false e

ends : (t : Chars) (white : Bool) → ends_white (added false white t) ≡ false
ends [] white = refl
ends (c ∷ cs) white = ends-step c cs (ends cs true) (is_white c) refl

and_false : (x : Bool) → (x && false) ≡ false
and_false true = refl
and_false false = refl

-- what is kept of a text tells what is kept of the flat text
pub flat_kept : (t : Chars) → piece_of (flat t) ≡ flattened (piece_of t)
unfolding piece_of
flat_kept t = λ i. record {
  opening = opening_of (flat_twice t i);
  starts = (ap begins_white (flat_added t false) ∙ begins t false) i;
  ends = (ap (λ e. not (is_longer (flat (flat t))) && e) (ap ends_white (flat_added t false) ∙ ends t false) ∙ and_false (not (is_longer (flat (flat t))))) i;
}
