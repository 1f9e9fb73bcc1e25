-- Lists that are filtered.
use Rattle.std.proofs.Common.{◌≡◌, ℕ, List, [], ◌∷◌, ◌++◌, filter, reverse, Contains, Bool, true, false, cond, refl, sym, ap, subst, ◌∙◌, arith, inl, inr, append-nil}
use Rattle.std.specs.Prelude.{find, Some, None}
use Rattle.std.proofs.lemmas.List.{reverse-append}
use Rattle.std.proofs.lemmas.List.Elements.{filter-append}
use Rattle.ax_base.specs.Trees.{HasNoRepeats}
use Rattle.ax_base.proofs.Membership.{Contains-head, Contains-tail}
use Rattle.ax_base.proofs.Repeats.{no_repeats-nil, no_repeats-cons, head_apart, tail_no_repeats}
use Rattle.ax_base.proofs.Joins.{Contains-cases}

module _ (q : ℕ → Bool) where
  pub kept : (x : ℕ) (xs : List ℕ) (b : Bool) → q x ≡ b → filter q (x ∷ xs) ≡ cond b (x ∷ filter q xs) (filter q xs)
  kept x xs b e = ap (λ c. cond c (x ∷ filter q xs) (filter q xs)) e

  -- what is kept was there
  pub in_filter : (xs : List ℕ) (y : ℕ) → Contains (filter q xs) y → Contains xs y
  in_filter [] y inside = inside
  in_filter (x ∷ xs) y inside = go (λ more. in_filter xs y more) (q x) refl
    where
      go : (Contains (filter q xs) y → Contains xs y) → (b : Bool) → q x ≡ b → Contains (x ∷ xs) y
      go rest true e = elim (Contains-cases y x (filter q xs) (subst (λ l. Contains l y) (kept x xs true e) inside)) [ inl is ↦ subst (Contains (x ∷ xs)) is (Contains-head x xs) | inr more ↦ Contains-tail x y xs (rest more) ]
      go rest false e = Contains-tail x y xs (rest (subst (λ l. Contains l y) (kept x xs false e) inside))

  -- what is kept of a list without repeats has none
  pub filter_once : (xs : List ℕ) → HasNoRepeats xs → HasNoRepeats (filter q xs)
  filter_once [] once = no_repeats-nil
  filter_once (x ∷ xs) once = go (filter_once xs (tail_no_repeats x xs once)) (q x) refl
    where
      go : HasNoRepeats (filter q xs) → (b : Bool) → q x ≡ b → HasNoRepeats (filter q (x ∷ xs))
      go rest true e = subst HasNoRepeats (sym (kept x xs true e)) (no_repeats-cons x (filter q xs) (λ inside. head_apart x xs once (in_filter xs x inside)) rest)
      go rest false e = subst HasNoRepeats (sym (kept x xs false e)) rest

  pub filter_none : (xs : List ℕ) → None ≡ find q xs → filter q xs ≡ []
  filter_none [] e = refl
  filter_none (x ∷ xs) e = go (λ later. filter_none xs later) (q x) refl
    where
      go : (None ≡ find q xs → filter q xs ≡ []) → (b : Bool) → q x ≡ b → filter q (x ∷ xs) ≡ []
      go rest true b = let wrong : None ≡ Some x = e ∙ ap (λ c. cond c (Some x) (find q xs)) b in absurd (grind arith)
      go rest false b = kept x xs false b ∙ rest (e ∙ ap (λ c. cond c (Some x) (find q xs)) b)

  -- the first one that passes, and those behind it
  pub filter_found : (xs : List ℕ) (y : ℕ) → find q xs ≡ Some y → (q y ≡ true) × (pre : List ℕ) × (post : List ℕ) × (xs ≡ pre ++ y ∷ post) × (filter q xs ≡ y ∷ filter q post)
  filter_found [] y e = absurd (grind arith)
  filter_found (x ∷ xs) y e = go (λ rest. filter_found xs y rest) (q x) refl
    where
      more : (q y ≡ true) × (pre : List ℕ) × (post : List ℕ) × (xs ≡ pre ++ y ∷ post) × (filter q xs ≡ y ∷ filter q post) → q x ≡ false
          → (q y ≡ true) × (pre : List ℕ) × (post : List ℕ) × (x ∷ xs ≡ pre ++ y ∷ post) × (filter q (x ∷ xs) ≡ y ∷ filter q post)
      more r b = (r.0, x ∷ r.1, r.2, ap (λ l. x ∷ l) r.3, ap (λ c. cond c (x ∷ filter q xs) (filter q xs)) b ∙ r.4)

      go : (find q xs ≡ Some y → (q y ≡ true) × (pre : List ℕ) × (post : List ℕ) × (xs ≡ pre ++ y ∷ post) × (filter q xs ≡ y ∷ filter q post))
          → (b : Bool) → q x ≡ b → (q y ≡ true) × (pre : List ℕ) × (post : List ℕ) × (x ∷ xs ≡ pre ++ y ∷ post) × (filter q (x ∷ xs) ≡ y ∷ filter q post)
      go rest true b =
          let is : Some x ≡ Some y = sym (ap (λ c. cond c (Some x) (find q xs)) b) ∙ e in
          let same : x ≡ y = grind arith in
          (ap q (sym same) ∙ b, [], xs, ap (λ z. z ∷ xs) same, ap (λ c. cond c (x ∷ filter q xs) (filter q xs)) b ∙ ap (λ z. z ∷ filter q xs) same)
      go rest false b = more (rest (sym (ap (λ c. cond c (Some x) (find q xs)) b) ∙ e)) b

  -- what is kept of the reverse
  pub filter-reverse : (xs : List ℕ) → filter q (reverse xs) ≡ reverse (filter q xs)
  filter-reverse [] = refl
  filter-reverse (x ∷ xs) = ap (filter q) (reverse-append (x ∷ []) xs) ∙ filter-append q (reverse xs) (x ∷ []) ∙ ap (λ l. l ++ filter q (x ∷ [])) (filter-reverse xs) ∙ go (q x) refl
    where
      go : (b : Bool) → q x ≡ b → reverse (filter q xs) ++ filter q (x ∷ []) ≡ reverse (filter q (x ∷ xs))
      go true e = ap (λ l. reverse (filter q xs) ++ l) (kept x [] true e) ∙ sym (ap reverse (kept x xs true e) ∙ reverse-append (x ∷ []) (filter q xs))
      go false e = ap (λ l. reverse (filter q xs) ++ l) (kept x [] false e) ∙ append-nil (reverse (filter q xs)) ∙ sym (ap reverse (kept x xs false e))
