-- How far a page may go.
use Rattle.std.proofs.Common.{◌≡◌, ℕ, ◌+◌, ◌≤◌, max, List, [], ◌∷◌, ◌++◌, Bool, true, false, not, ◌&&◌, refl, ◌∙◌, arith}
use Rattle.std.specs.Prelude.{nat_lt, nat_le, if◌then◌else◌}
use Rattle.std.proofs.lemmas.Bool.Decides.{nat_tests}
use Rattle.story_check.specs.declared.story.PageLine.{PageLine}
use Rattle.story_check.specs.declared.story.PageLine.TheVariants.{Change, Flush, Until}
use Rattle.story_check.specs.declared.story.ClientLine.{ClientLine}
use Rattle.story_check.specs.declared.story.ClientLine.TheVariants.{Ask, Again, Hear, Await, Notices}
use Rattle.story_check.specs.Stories.{Story, flushes, cap, awaited, awaits_met, untils_met, stuck}

if_le : (b : Bool) (n m : ℕ) → n ≤ m → (if b then 0 else n) ≤ m
if_le true n m h = omega arith
if_le false n m h = h

-- no more than all flushes
pub cap_most : (page : List PageLine) (t : ℕ) → cap page t ≤ flushes page
cap_most [] t = omega arith
cap_most (Change e ∷ xs) t = cap_most xs t
cap_most (Flush ∷ xs) t = let h = cap_most xs t in omega arith
cap_most (Until k ∷ xs) t = if_le (nat_lt t k) (cap xs t) (flushes xs) (cap_most xs t)

-- it does not fall as t rises
pub cap_rises : (page : List PageLine) (t u : ℕ) → t ≤ u → cap page t ≤ cap page u
cap_rises [] t u h = omega arith
cap_rises (Change e ∷ xs) t u h = cap_rises xs t u h
cap_rises (Flush ∷ xs) t u h = let g = cap_rises xs t u h in omega arith
cap_rises (Until k ∷ xs) t u h = through (nat_lt t k) (nat_lt u k) refl refl (cap_rises xs t u h)
  where
    through : (a b : Bool) → nat_lt t k ≡ a → nat_lt u k ≡ b → cap xs t ≤ cap xs u → (if a then 0 else cap xs t) ≤ (if b then 0 else cap xs u)
    through true b e f g = omega arith
    through false false e f g = g
    through false true e f g = absurd (grind (arith, nat_tests))

pub flushes-append : (before left : List PageLine) → flushes (before ++ left) ≡ flushes before + flushes left
flushes-append [] left = omega arith
flushes-append (Change e ∷ xs) left = flushes-append xs left
flushes-append (Flush ∷ xs) left = let h = flushes-append xs left in omega arith
flushes-append (Until k ∷ xs) left = flushes-append xs left

-- one line more
pub flushes_with : (xs : List PageLine) (l : PageLine) → flushes (xs ++ l ∷ []) ≡ flushes xs + flushes (l ∷ [])
flushes_with xs l = flushes-append xs (l ∷ [])

-- past lines that do not wait, the cap is that of what is left
pub cap_past : (before left : List PageLine) (t : ℕ) → untils_met t before ≡ true → cap (before ++ left) t ≡ flushes before + cap left t
cap_past [] left t h = omega arith
cap_past (Change e ∷ xs) left t h = cap_past xs left t h
cap_past (Flush ∷ xs) left t h = let g = cap_past xs left t h in omega arith
cap_past (Until k ∷ xs) left t h = through (nat_le k t) (nat_lt t k) refl refl h (cap_past xs left t)
  where
    through : (a b : Bool) → nat_le k t ≡ a → nat_lt t k ≡ b → (a && untils_met t xs) ≡ true → (untils_met t xs ≡ true → cap (xs ++ left) t ≡ flushes xs + cap left t) → (if b then 0 else cap (xs ++ left) t) ≡ flushes xs + cap left t
    through true false e f g more = more g
    through true true e f g more = absurd (grind (arith, nat_tests))
    through false b e f g more = absurd (cc)

-- lines that do not wait for t do not wait for more
pub untils_rise : (page : List PageLine) (t u : ℕ) → t ≤ u → untils_met t page ≡ true → untils_met u page ≡ true
untils_rise [] t u h e = refl
untils_rise (Change x ∷ xs) t u h e = untils_rise xs t u h e
untils_rise (Flush ∷ xs) t u h e = untils_rise xs t u h e
untils_rise (Until k ∷ xs) t u h e = through (nat_le k t) (nat_le k u) refl refl e (untils_rise xs t u h)
  where
    through : (a b : Bool) → nat_le k t ≡ a → nat_le k u ≡ b → (a && untils_met t xs) ≡ true → (untils_met t xs ≡ true → untils_met u xs ≡ true) → (b && untils_met u xs) ≡ true
    through true true p q g more = more g
    through true false p q g more = absurd (grind (arith, nat_tests))
    through false b p q g more = absurd (cc)

pub untils-append : (before left : List PageLine) (t : ℕ) → untils_met t (before ++ left) ≡ (untils_met t before && untils_met t left)
untils-append [] left t = refl
untils-append (Change e ∷ xs) left t = untils-append xs left t
untils-append (Flush ∷ xs) left t = untils-append xs left t
untils-append (Until k ∷ xs) left t = and_assoc (nat_le k t) _ _ _ (untils-append xs left t)
  where
    and_assoc : (a x y z : Bool) → x ≡ (y && z) → (a && x) ≡ ((a && y) && z)
    and_assoc true x y z e = e
    and_assoc false x y z e = refl

pub and_true : (a b c : Bool) → a ≡ (b && c) → b ≡ true → c ≡ true → a ≡ true
and_true a true c e f g = e ∙ g
and_true a false c e f g = absurd (cc)

pub and_left : (b c : Bool) → (b && c) ≡ true → b ≡ true
and_left true c e = refl
and_left false c e = e

pub and_right : (b c : Bool) → (b && c) ≡ true → c ≡ true
and_right true c e = e
and_right false c e = absurd (cc)

pub awaited-append : (g : ℕ) (before left : List ClientLine) → awaited g (before ++ left) ≡ awaited (awaited g before) left
awaited-append g [] left = refl
awaited-append g (Await a ∷ xs) left = awaited-append (max g a) xs left
awaited-append g (Ask q ∷ xs) left = awaited-append g xs left
awaited-append g (Again q ∷ xs) left = awaited-append g xs left
awaited-append g (Hear ∷ xs) left = awaited-append g xs left
awaited-append g (Notices ∷ xs) left = awaited-append g xs left

-- what is needed of the lines that are left
pub awaits_left : (page : List PageLine) (g : ℕ) (before left : List ClientLine) → awaits_met page g (before ++ left) ≡ true → awaits_met page (awaited g before) left ≡ true
awaits_left page g [] left e = e
awaits_left page g (Await a ∷ xs) left e = awaits_left page (max g a) xs left (and_right (nat_le a (cap page g)) _ e)
awaits_left page g (Ask q ∷ xs) left e = awaits_left page g xs left e
awaits_left page g (Again q ∷ xs) left e = awaits_left page g xs left e
awaits_left page g (Hear ∷ xs) left e = awaits_left page g xs left e
awaits_left page g (Notices ∷ xs) left e = awaits_left page g xs left e

-- what a story that is not stuck has
pub record Goes (s : Story) : Type 0 where
  pub awaits : awaits_met s.page 0 s.client ≡ true
  pub untils : untils_met (awaited 0 s.client) s.page ≡ true

pub goes : (s : Story) → stuck s ≡ false → Goes s
goes s e = let both = not_false _ e in record { awaits = and_left _ _ both; untils = and_right _ _ both }
  where
    not_false : (b : Bool) → not b ≡ false → b ≡ true
    not_false true f = refl
    not_false false f = absurd (cc)
