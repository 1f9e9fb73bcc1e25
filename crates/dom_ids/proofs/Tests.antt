-- Elements of lists, by tests.
use Rattle.std.proofs.Common.{◌≡◌, ◌⊎◌, inl, inr, ℕ, Bool, true, false, ◌||◌, ◌&&◌, cond, List, [], ◌∷◌, ◌++◌, Contains, refl, sym, ap, subst, ◌∙◌, arith}
use Rattle.std.specs.Prelude.{filter}
use Rattle.std.specs.List.{list_any}
use Rattle.std.specs.Ordering.{nat_cmp}
use Rattle.std.specs.BTreeMap.{is_at}
use Rattle.std.proofs.lemmas.Bool.{or_left, or_right}
use Rattle.ax_dom.specs.Among.{is_in}
use Rattle.ax_base.proofs.Joins.{Contains-cases}
use Rattle.ax_base.proofs.Lookups.{finds, finds_is, finds_same, found_is}
use Rattle.ax_base.proofs.Membership.{Contains-head, Contains-tail}

-- whether a number is among some
abbrev pub mem : List ℕ → ℕ → Bool
mem ks n = list_any (is_at (nat_cmp n)) ks

-- the same, as a document says it
pub is_in_mem : (ks : List ℕ) (n : ℕ) → is_in ks n ≡ mem ks n
is_in_mem [] n = refl
is_in_mem (k ∷ ks) n = λ i. sym (finds_is n k) i || is_in_mem ks n i

pub mem_from : (ks : List ℕ) (n : ℕ) → Contains ks n → mem ks n ≡ true
mem_from [] n inside = absurd (omega arith)
mem_from (k ∷ ks) n inside = elim (Contains-cases n k ks inside) [
  | inl is ↦ or_left (finds n k) (mem ks n) (finds_same n k (sym is))
  | inr more ↦ or_right (finds n k) (mem ks n) (mem_from ks n more)
]

pub mem_to : (ks : List ℕ) (n : ℕ) → mem ks n ≡ true → Contains ks n
mem_to [] n on = cc
mem_to (k ∷ ks) n on = go (finds n k) refl on (λ e. mem_to ks n e)
  where
    go : (b : Bool) → finds n k ≡ b → (b || mem ks n) ≡ true → (mem ks n ≡ true → Contains ks n) → Contains (k ∷ ks) n
    go true is on rest = subst (Contains (k ∷ ks)) (sym (found_is n k is)) (Contains-head k ks)
    go false is on rest = Contains-tail k n ks (rest on)

-- what passes and is there is kept
pub kept_in : (p : ℕ → Bool) (xs : List ℕ) (x : ℕ) → Contains xs x → p x ≡ true → Contains (filter p xs) x
kept_in p [] x inside on = absurd (omega arith)
kept_in p (y ∷ xs) x inside on = elim (Contains-cases x y xs inside) [
  | inl is ↦ here is
  | inr more ↦ go (p y) (kept_in p xs x more on)
]
  where
    go : (b : Bool) → Contains (filter p xs) x → Contains (cond b (y ∷ filter p xs) (filter p xs)) x
    go true rest = Contains-tail y x (filter p xs) rest
    go false rest = rest

    here : y ≡ x → Contains (filter p (y ∷ xs)) x
    here is = subst (λ b. Contains (cond b (y ∷ filter p xs) (filter p xs)) x) (sym (ap p is ∙ on)) (subst (λ z. Contains (y ∷ filter p xs) z) is (Contains-head y (filter p xs)))

pub kept_cases : (p : ℕ → Bool) (xs : List ℕ) (x : ℕ) → Contains (filter p xs) x → Contains xs x × (p x ≡ true)
kept_cases p [] x inside = absurd (omega arith)
kept_cases p (y ∷ xs) x inside = go (p y) refl inside (λ more. kept_cases p xs x more)
  where
    go : (b : Bool) → p y ≡ b → Contains (cond b (y ∷ filter p xs) (filter p xs)) x → (Contains (filter p xs) x → Contains xs x × (p x ≡ true)) → Contains (y ∷ xs) x × (p x ≡ true)
    go true is inside rest = elim (Contains-cases x y (filter p xs) inside) [
      | inl same ↦ (subst (λ z. Contains (y ∷ xs) z) same (Contains-head y xs), ap p (sym same) ∙ is)
      | inr more ↦ let r = rest more in (Contains-tail y x xs r.0, r.1)
    ]
    go false is inside rest = let r = rest inside in (Contains-tail y x xs r.0, r.1)

pub and_left : (a b : Bool) → (a && b) ≡ true → a ≡ true
and_left true b e = refl
and_left false b e = e

pub and_right : (a b : Bool) → (a && b) ≡ true → b ≡ true
and_right true b e = e
and_right false b e = cc

pub and_both : (a b : Bool) → a ≡ true → b ≡ true → (a && b) ≡ true
and_both true b p q = q
and_both false b p q = cc
