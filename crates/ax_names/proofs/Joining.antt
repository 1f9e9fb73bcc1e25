-- What is kept of texts that are put together.
use Rattle.std.proofs.Common.{◌≡◌, ℕ, suc, ◌-◌, [], ◌∷◌, ◌++◌, length, Bool, true, false, cond, not, ◌&&◌, ◌||◌, Some, refl, sym, ap, ◌∙◌, arith}
use Rattle.std.specs.List.{slice_get}
use Rattle.ax_base.specs.Characters.{Chars, is_white, is_blank, flat, cut}
use Rattle.ax_names.specs.Pieces.{Opening, Phrase, is_empty, begins_white, ends_white, is_longer, opening_of, piece_of, followed, and_more, space_behind, spaced, joined_opening, joined, name_of, has_no_words, has_nothing}
use Rattle.ax_names.proofs.Openings.{empty_take, followed_opening, followed_cut}
use Rattle.ax_names.proofs.Added.{flat_append, flat_nil, last_white, last_white-false, last_white-append, last_white-flat, last_white-empty, ink_first, blank_flat}

pub empty_cut : (x : Chars) → is_empty (cut x) ≡ is_empty x
empty_cut x = empty_take 511 x

-- flat words behind others may be cut, if it is known whether more of them follow
spaced_cut : (o : Opening) (white : Bool) (t : Chars) → and_more (followed o (spaced o.words white (cut t))) (is_longer t) ≡ followed o (spaced o.words white t)
spaced_cut o white t =
    ap (λ (e : Bool). and_more (followed o (space_behind o.words (white && not e) ++ cut t)) (is_longer t)) (empty_cut t)
    ∙ followed_cut o (space_behind o.words (white && not (is_empty t))) t

-- the three parts

joined-opening : (a b : Chars)
    → opening_of (flat (a ++ b)) ≡ and_more (followed (opening_of (flat a)) (spaced (cut (flat a)) (ends_white a || begins_white b) (cut (flat b)))) (is_longer (flat b))
joined-opening a b =
    let white : Bool = ends_white a || begins_white b in
    ap opening_of (flat_append a b) ∙ sym (followed_opening (flat a) (spaced (flat a) white (flat b)))
    ∙ ap (λ (e : Bool). followed (opening_of (flat a)) (cond (not e && (white && not (is_empty (flat b)))) (32 ∷ []) [] ++ flat b)) (sym (empty_cut (flat a)))
    ∙ sym (spaced_cut (opening_of (flat a)) white (flat b))

or_and : (s r none : Bool) → (s ≡ false → none ≡ false) → s ≡ (s || (none && r))
or_and true r none h = refl
or_and false r none h = ap (λ (z : Bool). z && r) (sym (h refl))

joined-starts : (a b : Chars) → begins_white (a ++ b) ≡ (begins_white a || (is_empty (cut (flat a)) && begins_white b))
joined-starts [] b = ap (λ (l : Bool). l && begins_white b) (sym (empty_cut (flat []) ∙ ap (λ (l : Chars). is_empty l) flat_nil))
joined-starts (c ∷ cs) b = or_and (is_white c) (begins_white b) (is_empty (cut (flat (c ∷ cs)))) (λ e. empty_cut (flat (c ∷ cs)) ∙ ink_first c cs e)

joined-ends : (a b : Chars) → ends_white (a ++ b) ≡ (ends_white b || (is_empty (cut (flat b)) && ends_white a))
joined-ends a b =
    sym (last_white-false (a ++ b)) ∙ last_white-append a b false ∙ ap (λ (w : Bool). last_white w b) (last_white-false a) ∙ last_white-flat b (ends_white a)
    ∙ ap (λ (e : Bool). ends_white b || (e && ends_white a)) (sym (empty_cut (flat b)))

abbrev pub phrase : Opening → Bool → Bool → Phrase
phrase opening starts ends = record { opening = opening; starts = starts; ends = ends }

or_none : (x : Bool) → (x || false) ≡ x
or_none true = refl
or_none false = refl

-- where more of the whole follows than is kept, how it ends is not kept; else it is kept of both parts
ends_kept : (here none other first between last : Bool) → (not ((first || between) || last) && (here || (none && other))) ≡ (not ((first || between) || last) && ((not last && here) || (none && (not first && other))))
ends_kept here none other true between last = refl
ends_kept here none other false true last = refl
ends_kept here none other false false true = refl
ends_kept here none other false false false = refl

-- how the first part ended is asked only where all of it is kept
gap_kept : (o : Opening) (ends begins : Bool) (t : Chars) → followed o (spaced o.words ((not o.more && ends) || begins) t) ≡ followed o (spaced o.words (ends || begins) t)
gap_kept o ends begins t = go o.more
  where
    go : (m : Bool) → followed (record { words = o.words; more = m }) (spaced o.words ((not m && ends) || begins) t) ≡ followed (record { words = o.words; more = m }) (spaced o.words (ends || begins) t)
    go true = refl
    go false = refl

parts-opening : (a b : Chars) → opening_of (flat (a ++ b)) ≡ joined_opening (piece_of a) (piece_of b)
unfolding piece_of
parts-opening a b =
    joined-opening a b ∙ ap (λ (o : Opening). and_more o (is_longer (flat b))) (sym (gap_kept (opening_of (flat a)) (ends_white a) (begins_white b) (cut (flat b))))

parts-ends : (a b : Chars) → (not (is_longer (flat (a ++ b))) && ends_white (a ++ b))
    ≡ (not (joined_opening (piece_of a) (piece_of b)).more && ((not (is_longer (flat b)) && ends_white b) || (is_empty (cut (flat b)) && (not (is_longer (flat a)) && ends_white a))))
unfolding piece_of
parts-ends a b =
    (λ i. not (parts-opening a b i).more && joined-ends a b i)
    ∙ ends_kept (ends_white b) (is_empty (cut (flat b))) (ends_white a) (is_longer (flat a)) (is_longer (cut (flat a) ++ spaced (cut (flat a)) ((not (is_longer (flat a)) && ends_white a) || begins_white b) (cut (flat b)))) (is_longer (flat b))

-- what is kept of the parts tells what is kept of the whole
pub pieces_join : (a b : Chars) → piece_of (a ++ b) ≡ joined (piece_of a) (piece_of b)
unfolding piece_of joined
pieces_join a b = λ i. record { opening = parts-opening a b i; starts = joined-starts a b i; ends = parts-ends a b i }

-- what is full takes nothing more in, and how it ended is not kept
pub full_stays : (a b : Phrase) → a.opening.more ≡ true → is_empty a.opening.words ≡ false → joined a b ≡ record { opening = a.opening; starts = a.starts; ends = false }
unfolding joined
full_stays a b full some = go a.opening.more (is_empty a.opening.words) full some
  where
    at : Bool → Opening
    at m = followed (record { words = a.opening.words; more = m }) (spaced a.opening.words (a.ends || b.starts) b.opening.words)

    go : (m e : Bool) → m ≡ true → e ≡ false
        → phrase (and_more (at m) b.opening.more) (a.starts || (e && b.starts)) (not (and_more (at m) b.opening.more).more && (b.ends || (is_empty b.opening.words && a.ends)))
        ≡ phrase (record { words = a.opening.words; more = m }) a.starts false
    go true false full some = ap (λ s. phrase (record { words = a.opening.words; more = true }) s false) (or_none a.starts)
    go true true full some = absurd (cc)
    go false e full some = absurd (cc)

-- what is kept tells whether the text was blank, and whether it was empty

pub blank_kept : (t : Chars) → has_no_words (piece_of t) ≡ is_blank t
unfolding piece_of
blank_kept t = empty_cut (flat t) ∙ sym (blank_flat t)

and_false : (x : Bool) → (x && false) ≡ false
and_false true = refl
and_false false = refl

pub nothing_kept : (t : Chars) → has_nothing (piece_of t) ≡ is_empty t
unfolding piece_of
nothing_kept [] = ap (λ (e : Bool). e && true) (empty_cut (flat []) ∙ ap (λ (l : Chars). is_empty l) flat_nil)
nothing_kept (c ∷ cs) = go (is_white c) refl
  where
    go : (s : Bool) → is_white c ≡ s → (is_empty (cut (flat (c ∷ cs))) && not s) ≡ false
    go true e = and_false (is_empty (cut (flat (c ∷ cs))))
    go false e = ap (λ (z : Bool). z && true) (empty_cut (flat (c ∷ cs)) ∙ ink_first c cs e)

-- a text that is put in

put_kept : (here none other first last : Bool) → (not (first || last) && (here || (none && other))) ≡ (not (first || last) && ((not last && here) || (none && other)))
put_kept here none other true last = refl
put_kept here none other false true = refl
put_kept here none other false false = refl

pub pushed : (old : Opening) (starts ends : Bool) (t : Chars) (new : Opening) (new_starts new_ends : Bool)
    → new ≡ followed old (spaced old.words (ends || begins_white t) (flat t))
    → new_starts ≡ (starts || (is_empty old.words && begins_white t))
    → new_ends ≡ (not new.more && (ends_white t || (is_empty t && ends)))
    → phrase new new_starts new_ends ≡ joined (phrase old starts ends) (piece_of t)
unfolding piece_of joined
pushed old starts ends t new new_starts new_ends p q r = λ i. record { opening = opening_is i; starts = q i; ends = ends_is i }
  where
    opening_is : new ≡ and_more (followed old (spaced old.words (ends || begins_white t) (cut (flat t)))) (is_longer (flat t))
    opening_is = p ∙ sym (spaced_cut old (ends || begins_white t) (flat t))

    last_is : (ends_white t || (is_empty t && ends)) ≡ (ends_white t || (is_empty (cut (flat t)) && ends))
    last_is = sym (last_white-empty t ends) ∙ last_white-flat t ends ∙ ap (λ (e : Bool). ends_white t || (e && ends)) (sym (empty_cut (flat t)))

    ends_is : new_ends ≡ (not (and_more (followed old (spaced old.words (ends || begins_white t) (cut (flat t)))) (is_longer (flat t))).more && ((not (is_longer (flat t)) && ends_white t) || (is_empty (cut (flat t)) && ends)))
    ends_is =
        r ∙ (λ i. not (opening_is i).more && last_is i)
        ∙ put_kept (ends_white t) (is_empty (cut (flat t))) ends (followed old (spaced old.words (ends || begins_white t) (cut (flat t)))).more (is_longer (flat t))

-- the piece of the empty text
pub empty_piece : (o : Opening) → o ≡ opening_of [] → phrase o false false ≡ piece_of []
unfolding piece_of
empty_piece o is = λ i. record { opening = opening_is i; starts = false; ends = sym (and_false (not (is_longer (flat [])))) i }
  where
    opening_is : o ≡ opening_of (flat [])
    opening_is = is ∙ ap opening_of (sym flat_nil)

-- the piece of one text
pub only_piece : (t : Chars) (p : Phrase) → p ≡ joined (piece_of []) (piece_of t) → p ≡ piece_of t
only_piece t p is = is ∙ sym (pieces_join [] t)

-- the ends of a text

last_of : (c d : ℕ) (ds : Chars) → slice_get (c ∷ d ∷ ds) (length (c ∷ d ∷ ds) - 1) ≡ slice_get (d ∷ ds) (length (d ∷ ds) - 1)
last_of c d ds = let deeper : length (c ∷ d ∷ ds) - 1 ≡ suc (length (d ∷ ds) - 1) = omega arith in ap (slice_get (c ∷ d ∷ ds)) deeper

pub ends_at : (t : Chars) (b : ℕ) → slice_get t (length t - 1) ≡ Some b → is_white b ≡ ends_white t
ends_at [] b is = absurd (cc)
ends_at (c ∷ []) b is = let same : b ≡ c = cc in ap is_white same
ends_at (c ∷ d ∷ ds) b is = ends_at (d ∷ ds) b (sym (last_of c d ds) ∙ is)

pub name_kept : (t : Chars) → name_of (piece_of t) ≡ cut (flat t)
unfolding piece_of
name_kept t = refl
