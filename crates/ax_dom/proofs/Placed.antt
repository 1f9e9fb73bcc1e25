-- What is in a list with an id placed.
use Rattle.std.proofs.Common.{◌≡◌, ◌⊎◌, inl, inr, ℕ, zero, suc, ◌++◌, List, [], ◌∷◌, Bool, true, false, cond, Option, Some, None, Contains, sym, arith, eqb}
use Rattle.std.proofs.lemmas.List.Elements.{Contains-append_left, Contains-push, Contains-push_cases}
use Rattle.ax_base.specs.Trees.{HasNoRepeats}
use Rattle.ax_base.proofs.Membership.{Contains-head, Contains-tail}
use Rattle.ax_base.proofs.Repeats.{no_repeats-nil, head_apart, tail_no_repeats, no_repeats-cons}
use Rattle.ax_dom.specs.Places.{placed, placed_before}

pub Contains-cons_cases : {X : Type 0} (y x : X) (ys : List X) → Contains (y ∷ ys) x → (y ≡ x) ⊎ Contains ys x
Contains-cons_cases y x ys (zero, low, is) = inl is
Contains-cons_cases y x ys (suc k, low, is) = inr (k, omega arith, is)

placed_before_cases : (b id x : ℕ) (xs : List ℕ) → Contains (placed_before b id xs) x → Contains xs x ⊎ (x ≡ id)
placed_before_cases b id x [] (zero, low, is) = inr (sym is)
placed_before_cases b id x [] (suc k, low, is) = absurd (omega arith)
placed_before_cases b id x (y ∷ ys) inside = go (eqb y b) (placed_before_cases b id x ys) inside
  where
    go : (t : Bool) → (Contains (placed_before b id ys) x → Contains ys x ⊎ (x ≡ id)) → Contains (cond t (id ∷ y ∷ ys) (y ∷ placed_before b id ys)) x → Contains (y ∷ ys) x ⊎ (x ≡ id)
    go true rest inside = elim (Contains-cons_cases id x (y ∷ ys) inside) [ inl is ↦ inr (sym is) | inr old ↦ inl old ]
    go false rest inside = elim (Contains-cons_cases y x (placed_before b id ys) inside) [
      | inl is ↦ inl (0, omega arith, is)
      | inr more ↦ elim (rest more) [ inl old ↦ inl (Contains-tail y x ys old) | inr new ↦ inr new ]
    ]

placed_before_keeps : (b id x : ℕ) (xs : List ℕ) → Contains xs x → Contains (placed_before b id xs) x
placed_before_keeps b id x [] inside = absurd (omega arith)
placed_before_keeps b id x (y ∷ ys) inside = go (eqb y b) (placed_before_keeps b id x ys)
  where
    go : (t : Bool) → (Contains ys x → Contains (placed_before b id ys) x) → Contains (cond t (id ∷ y ∷ ys) (y ∷ placed_before b id ys)) x
    go true rest = Contains-tail id x (y ∷ ys) inside
    go false rest = elim (Contains-cons_cases y x ys inside) [ inl is ↦ (0, omega arith, is) | inr more ↦ Contains-tail y x (placed_before b id ys) (rest more) ]

placed_before_has : (b id : ℕ) (xs : List ℕ) → Contains (placed_before b id xs) id
placed_before_has b id [] = Contains-head id []
placed_before_has b id (y ∷ ys) = elim (eqb y b) as (λ t. Contains (cond t (id ∷ y ∷ ys) (y ∷ placed_before b id ys)) id) [ true ↦ Contains-head id (y ∷ ys) | false ↦ Contains-tail y id (placed_before b id ys) (placed_before_has b id ys) ]

placed_before_once : (b id : ℕ) (xs : List ℕ) → (Contains xs id → ⊥) → HasNoRepeats xs → HasNoRepeats (placed_before b id xs)
placed_before_once b id [] apart once = no_repeats-cons id [] (λ inside. absurd (omega arith)) no_repeats-nil
placed_before_once b id (y ∷ ys) apart once = go (eqb y b) (placed_before_once b id ys (λ inside. apart (Contains-tail y id ys inside)) (tail_no_repeats y ys once))
  where
    go : (t : Bool) → HasNoRepeats (placed_before b id ys) → HasNoRepeats (cond t (id ∷ y ∷ ys) (y ∷ placed_before b id ys))
    go true rest = no_repeats-cons id (y ∷ ys) apart once
    go false rest = no_repeats-cons y (placed_before b id ys)
        (λ inside. elim (placed_before_cases b id y ys inside) [ inl old ↦ head_apart y ys once old | inr new ↦ apart (0, omega arith, new) ])
        rest

-- an id that is no other's place goes to the end
placed_at_end : (id : ℕ) (xs : List ℕ) → (Contains xs id → ⊥) → HasNoRepeats xs → HasNoRepeats (xs ++ id ∷ [])
placed_at_end id [] apart once = no_repeats-cons id [] (λ inside. absurd (omega arith)) no_repeats-nil
placed_at_end id (y ∷ ys) apart once = no_repeats-cons y (ys ++ id ∷ [])
    (λ inside. elim (Contains-push_cases ys id y inside) [ inl old ↦ head_apart y ys once old | inr new ↦ apart (0, omega arith, sym new) ])
    (placed_at_end id ys (λ inside. apart (Contains-tail y id ys inside)) (tail_no_repeats y ys once))

pub placed_cases : (o : Option ℕ) (id x : ℕ) (xs : List ℕ) → Contains (placed o id xs) x → Contains xs x ⊎ (x ≡ id)
placed_cases None id x xs inside = elim (Contains-push_cases xs id x inside) [ inl old ↦ inl old | inr new ↦ inr (sym new) ]
placed_cases (Some b) id x xs inside = placed_before_cases b id x xs inside

pub placed_keeps : (o : Option ℕ) (id x : ℕ) (xs : List ℕ) → Contains xs x → Contains (placed o id xs) x
placed_keeps None id x xs inside = Contains-append_left xs (id ∷ []) x inside
placed_keeps (Some b) id x xs inside = placed_before_keeps b id x xs inside

pub placed_has : (o : Option ℕ) (id : ℕ) (xs : List ℕ) → Contains (placed o id xs) id
placed_has None id xs = Contains-push xs id
placed_has (Some b) id xs = placed_before_has b id xs

pub placed_once : (o : Option ℕ) (id : ℕ) (xs : List ℕ) → (Contains xs id → ⊥) → HasNoRepeats xs → HasNoRepeats (placed o id xs)
placed_once None id xs apart once = placed_at_end id xs apart once
placed_once (Some b) id xs apart once = placed_before_once b id xs apart once
