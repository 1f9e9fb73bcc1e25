-- Lists that are joined of several.
use Rattle.std.proofs.Common.{◌≡◌, ◌⊎◌, inl, inr, ℕ, zero, suc, List, [], ◌∷◌, ◌++◌, Contains, sym, subst, arith}
use Rattle.std.specs.List.{flat_map}
use Rattle.std.proofs.lemmas.List.Elements.{Contains-append_left, Contains-append_right, Contains-append_cases}
use Rattle.ax_base.specs.Trees.{HasNoRepeats}
use Rattle.ax_base.proofs.Membership.{Contains-head, Contains-tail}
use Rattle.ax_base.proofs.Repeats.{no_repeats-nil, head_apart, tail_no_repeats, no_repeats-cons}

-- what is in a list is its head or in its tail
pub Contains-cases : {X : Type 0} (x y : X) (ys : List X) → Contains (y ∷ ys) x → (y ≡ x) ⊎ Contains ys x
Contains-cases x y ys (zero, low, is) = inl is
Contains-cases x y ys (suc k, low, is) = inr (k, omega arith, is)

-- what is in a part is in the joined list
pub Contains-flat_map : (f : ℕ → List ℕ) (cs : List ℕ) (c x : ℕ) → Contains cs c → Contains (f c) x → Contains (flat_map f cs) x
Contains-flat_map f [] c x among inside = absurd (omega arith)
Contains-flat_map f (b ∷ cs) c x among inside = elim (Contains-cases c b cs among) [
  | inl is ↦ Contains-append_left (f b) (flat_map f cs) x (subst (λ y. Contains (f y) x) (sym is) inside)
  | inr more ↦ Contains-append_right (f b) (flat_map f cs) x (Contains-flat_map f cs c x more inside)
]

-- what is in a joined list is in one of its parts
pub in_flat_map : (f : ℕ → List ℕ) (cs : List ℕ) (x : ℕ) → Contains (flat_map f cs) x → (c : ℕ) × Contains cs c × Contains (f c) x
in_flat_map f [] x inside = absurd (omega arith)
in_flat_map f (c ∷ cs) x inside = elim (Contains-append_cases (f c) (flat_map f cs) x inside) [
  | inl here ↦ (c, Contains-head c cs, here)
  | inr more ↦ let rest = in_flat_map f cs x more in (rest.0, Contains-tail c rest.0 cs rest.1, rest.2)
]

-- nothing stands twice in two lists that share nothing
pub no_repeats-append : (xs ys : List ℕ) → HasNoRepeats xs → HasNoRepeats ys → ((x : ℕ) → Contains xs x → Contains ys x → ⊥) → HasNoRepeats (xs ++ ys)
no_repeats-append [] ys first second apart = second
no_repeats-append (x ∷ xs) ys first second apart =
    no_repeats-cons x (xs ++ ys)
    (λ inside. elim (Contains-append_cases xs ys x inside) [ inl twice ↦ head_apart x xs first twice | inr both ↦ apart x (Contains-head x xs) both ])
    (no_repeats-append xs ys (tail_no_repeats x xs first) second (λ y one other. apart y (Contains-tail x y xs one) other))

-- nothing stands twice in lists that share nothing, and have nothing twice
pub no_repeats-flat_map : (f : ℕ → List ℕ) (cs : List ℕ) → HasNoRepeats cs → ((c : ℕ) → Contains cs c → HasNoRepeats (f c))
    → ((a b x : ℕ) → Contains cs a → Contains cs b → Contains (f a) x → Contains (f b) x → a ≡ b) → HasNoRepeats (flat_map f cs)
no_repeats-flat_map f [] once each apart = no_repeats-nil
no_repeats-flat_map f (c ∷ cs) once each apart =
    no_repeats-append (f c) (flat_map f cs) (each c (Contains-head c cs))
    (no_repeats-flat_map f cs (tail_no_repeats c cs once) (λ b among. each b (Contains-tail c b cs among)) (λ a b x one other. apart a b x (Contains-tail c a cs one) (Contains-tail c b cs other)))
    (λ x here there.
    let part = in_flat_map f cs x there in
    let same : c ≡ part.0 = apart c part.0 x (Contains-head c cs) (Contains-tail c part.0 cs part.1) here part.2 in
    head_apart c cs once (subst (Contains cs) (sym same) part.1))
