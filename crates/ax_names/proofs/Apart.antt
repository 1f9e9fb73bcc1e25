-- Flat texts that are joined by spaces.
use Rattle.std.proofs.Common.{◌≡◌, ◌⊎◌, inl, inr, ℕ, List, [], ◌∷◌, ◌++◌, length, map, Bool, true, false, cond, not, ◌&&◌, ◌||◌, ◌==◌, refl, sym, ap, ◌∙◌, arith, append-nil}
use Rattle.std.specs.List.{join_with_byte, filter}
use Rattle.std.proofs.lemmas.Bool.Decides.{nat_tests}
use Rattle.ax_base.specs.Characters.{Chars, flat, joined_by_spaces}
use Rattle.ax_names.specs.Pieces.{is_empty, ends_white, begins_white, space_behind, spaced, piece_of, flattened, all_apart}
use Rattle.ax_names.proofs.Added.{flat_added, flat_nil, flat_append}
use Rattle.ax_names.proofs.Again.{flat_kept}

-- those that are not empty
abbrev some_of : List Chars → List Chars
some_of ts = filter (λ (t : Chars). not (length t == 0)) ts

is_some : (c : ℕ) (cs : Chars) → (length (c ∷ cs) == 0) ≡ false
is_some c cs = grind (arith, nat_tests)

some_of-more : (c : ℕ) (cs : Chars) (ts : List Chars) → some_of ((c ∷ cs) ∷ ts) ≡ (c ∷ cs) ∷ some_of ts
some_of-more c cs ts = ap (λ (e : Bool). cond (not e) ((c ∷ cs) ∷ some_of ts) (some_of ts)) (is_some c cs)

join_some : (c : ℕ) (cs : Chars) (ts : List Chars) → is_empty (join_with_byte 32 ((c ∷ cs) ∷ ts)) ≡ false
join_some c cs [] = refl
join_some c cs (t ∷ ts) = refl

-- either none are there, or they say something
none_or_some : (ts : List Chars) → (some_of ts ≡ []) ⊎ (is_empty (joined_by_spaces ts) ≡ false)
none_or_some [] = inl refl
none_or_some ([] ∷ ts) = none_or_some ts
none_or_some ((c ∷ cs) ∷ ts) = inr (ap (λ (l : List Chars). is_empty (join_with_byte 32 l)) (some_of-more c cs ts) ∙ join_some c cs (some_of ts))

join_two : (x : Chars) (ts : List Chars) → (ts ≡ []) ⊎ (is_empty (join_with_byte 32 ts) ≡ false) → is_empty x ≡ false → join_with_byte 32 (x ∷ ts) ≡ x ++ spaced x true (join_with_byte 32 ts)
join_two x [] either some = sym (ap (λ (e : Bool). x ++ (cond (not e && false) (32 ∷ []) [] ++ [])) some ∙ append-nil x)
join_two x (t ∷ ts) (inl none) some = absurd (cc)
join_two x (t ∷ ts) (inr more) some = λ i. x ++ (cond (not (sym some i) && not (sym more i)) (32 ∷ []) [] ++ join_with_byte 32 (t ∷ ts))

-- the first text, and then the others behind a space
pub first_apart : (x : Chars) (ts : List Chars) → joined_by_spaces (x ∷ ts) ≡ x ++ spaced x true (joined_by_spaces ts)
first_apart [] ts = refl
first_apart (c ∷ cs) ts = ap (λ (l : List Chars). join_with_byte 32 l) (some_of-more c cs ts) ∙ join_two (c ∷ cs) (some_of ts) (none_or_some ts) refl

pub flat_space : (t : Chars) → flat (32 ∷ t) ≡ flat t
flat_space t = flat_added (32 ∷ t) false ∙ sym (flat_added t true)

pub and_false : (x : Bool) → (x && false) ≡ false
and_false true = refl
and_false false = refl

or_true : (x : Bool) → (x || true) ≡ true
or_true true = refl
or_true false = refl

white_between : (x : Chars) (white : Bool) (ts : List Chars) → spaced x (white || begins_white (all_apart ts)) (flat (all_apart ts)) ≡ spaced x true (flat (all_apart ts))
white_between x white [] =
    (λ i. spaced x (white || false) (flat_nil i)) ∙ ap (λ (b : Bool). space_behind x b ++ []) (and_false (white || false)) ∙ (λ i. spaced x true (sym flat_nil i))
white_between x white (t ∷ ts) = ap (λ (b : Bool). spaced x b (flat (all_apart (t ∷ ts)))) (or_true white)

flat_first : (t : Chars) (ts : List Chars) → flat (all_apart (t ∷ ts)) ≡ flat t ++ spaced (flat t) true (flat (all_apart ts))
flat_first t ts =
    flat_append (32 ∷ t) (all_apart ts)
    ∙ (λ i. flat_space t i ++ spaced (flat_space t i) (ends_white (32 ∷ t) || begins_white (all_apart ts)) (flat (all_apart ts)))
    ∙ ap (λ (l : Chars). flat t ++ l) (white_between (flat t) (ends_white (32 ∷ t)) ts)

-- flat texts joined by spaces are the flat text of all of them, each behind a space
pub flat_apart : (ts : List Chars) → joined_by_spaces (map flat ts) ≡ flat (all_apart ts)
flat_apart [] = sym flat_nil
flat_apart (t ∷ ts) = first_apart (flat t) (map flat ts) ∙ ap (λ (l : Chars). flat t ++ spaced (flat t) true l) (flat_apart ts) ∙ sym (flat_first t ts)

pub apart_kept : (ts : List Chars) → piece_of (joined_by_spaces (map flat ts)) ≡ flattened (piece_of (all_apart ts))
apart_kept ts = ap piece_of (flat_apart ts) ∙ flat_kept (all_apart ts)
