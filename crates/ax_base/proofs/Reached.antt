-- What is reached from a node by going down.
use Rattle.std.proofs.Common.{◌≡◌, ◌⊎◌, inl, inr, ℕ, zero, suc, ◌<◌, ◌≤◌, ◌-◌, List, [], ◌∷◌, ◌++◌, map, Contains, refl, sym, ap, subst, ◌∙◌, arith}
use Rattle.std.specs.List.{flat_map}
use Rattle.ax_base.specs.Recursion.{from_below}
use Rattle.ax_base.specs.Trees.{HasNoRepeats}
use Rattle.ax_base.specs.Kids.{objects_from}
use Rattle.ax_base.proofs.Membership.{Contains-head, Contains-tail}
use Rattle.ax_base.proofs.Repeats.{no_repeats-cons}
use Rattle.ax_base.proofs.Below.{from_below_unfolds}
use Rattle.ax_base.proofs.Joins.{Contains-cases, Contains-flat_map, in_flat_map, no_repeats-flat_map}

-- a node, and then what is reached from each node below it, at most so many levels down
abbrev pub reached : (ℕ → List ℕ) → ℕ → ℕ → List ℕ
reached below levels n = from_below objects_from (λ k. k) below levels n

module _ (below : ℕ → List ℕ) (rank : ℕ → ℕ) (most : ℕ) (low : (n : ℕ) → rank n ≤ most) (falls : (n k : ℕ) → Contains (below n) k → rank k < rank n) where
  reached_each : (ks : List ℕ) → flat_map (λ (c : ℕ × List ℕ). c.1) (map (λ k. (k, reached below most k)) ks) ≡ flat_map (reached below most) ks
  reached_each [] = refl
  reached_each (k ∷ ks) = ap (λ l. reached below most k ++ l) (reached_each ks)

  -- what is reached from a node is the node, and what is reached from those below it
  pub reached-below : (n : ℕ) → reached below most n ≡ n ∷ flat_map (reached below most) (below n)
  reached-below n = from_below_unfolds objects_from (λ k. k) below rank falls most n (low n) ∙ ap (λ l. n ∷ l) (reached_each (below n))

  pub reached_self : (n : ℕ) → Contains (reached below most n) n
  reached_self n = subst (λ l. Contains l n) (sym (reached-below n)) (Contains-head n (flat_map (reached below most) (below n)))

  pub reached_more : (n k x : ℕ) → Contains (below n) k → Contains (reached below most k) x → Contains (reached below most n) x
  reached_more n k x under inside =
      subst (λ l. Contains l x) (sym (reached-below n)) (Contains-tail n x (flat_map (reached below most) (below n)) (Contains-flat_map (reached below most) (below n) k x under inside))

  pub reached_cases : (n x : ℕ) → Contains (reached below most n) x → (n ≡ x) ⊎ ((k : ℕ) × Contains (below n) k × Contains (reached below most k) x)
  reached_cases n x inside = elim (Contains-cases x n (flat_map (reached below most) (below n)) (subst (λ l. Contains l x) (reached-below n) inside)) [
    | inl is ↦ inl is
    | inr more ↦ inr (in_flat_map (reached below most) (below n) x more)
  ]

  -- What holds of n, and goes on to what is below a node of which it holds, holds of all that is reached from n.
  module _ (P : ℕ → Type 0) (step : (p k : ℕ) → P p → Contains (below p) k → P k) where
    by_reached_within : (levels n x : ℕ) → rank n ≤ levels → P n → Contains (reached below most n) x → P x
    by_reached_within zero n x fits first inside = elim (reached_cases n x inside) [
      | inl is ↦ subst P is first
      | inr (k, under, more) ↦ let e = falls n k under in absurd (omega arith)
    ]
    by_reached_within (suc levels) n x fits first inside = elim (reached_cases n x inside) [
      | inl is ↦ subst P is first
      | inr (k, under, more) ↦ let e = falls n k under in by_reached_within levels k x (omega arith) (step n k first under) more
    ]

    pub by_reached : (n x : ℕ) → P n → Contains (reached below most n) x → P x
    by_reached n x first inside = by_reached_within (rank n) n x (omega arith) first inside

  reached_on_within : (levels n p k : ℕ) → rank n ≤ levels → Contains (reached below most n) p → Contains (below p) k → Contains (reached below most n) k
  reached_on_within zero n p k fits inside under = elim (reached_cases n p inside) [
    | inl is ↦ reached_more n k k (subst (λ q. Contains (below q) k) (sym is) under) (reached_self k)
    | inr (j, next, more) ↦ let e = falls n j next in absurd (omega arith)
  ]
  reached_on_within (suc levels) n p k fits inside under = elim (reached_cases n p inside) [
    | inl is ↦ reached_more n k k (subst (λ q. Contains (below q) k) (sym is) under) (reached_self k)
    | inr (j, next, more) ↦ let e = falls n j next in reached_more n j k next (reached_on_within levels j p k (omega arith) more under)
  ]

  -- what is below something that is reached is reached
  pub reached_on : (n p k : ℕ) → Contains (reached below most n) p → Contains (below p) k → Contains (reached below most n) k
  reached_on n p k inside under = reached_on_within (rank n) n p k (omega arith) inside under

  -- nothing that is reached has a greater rank
  pub reached_lower : (n x : ℕ) → Contains (reached below most n) x → rank x ≤ rank n
  reached_lower n x inside = by_reached (λ k. rank k ≤ rank n) (λ p k lower under. let e = falls p k under in omega arith) n x (omega arith) inside

  -- x is n, or is below something that is reached from n
  abbrev IsFrom : ℕ → ℕ → Type 0
  IsFrom n x = (n ≡ x) ⊎ ((p : ℕ) × Contains (reached below most n) p × Contains (below p) x)

  abbrev Holds : ℕ → ℕ → Type 0
  Holds n x = Contains (reached below most n) x × IsFrom n x

  -- what is reached is the node itself, or is below something that is reached
  pub reached_from : (n x : ℕ) → Contains (reached below most n) x → IsFrom n x
  reached_from n x inside = (by_reached (Holds n) (λ p k held under. (reached_on n p k held.0 under, inr (p, held.0, under))) n x (reached_self n, inl refl) inside).1

  -- Where nothing stands twice in one list, or in two, nothing is reached twice.
  module _ (once : (n : ℕ) → HasNoRepeats (below n)) (one_list : (p q k : ℕ) → Contains (below p) k → Contains (below q) k → p ≡ q) where
    -- a node is not reached from what is below it
    not_above : (n c p : ℕ) → Contains (below n) c → Contains (reached below most c) p → n ≡ p → ⊥
    not_above n c p next inside same = let e = falls n c next in let f = reached_lower c p inside in let g : rank n ≡ rank p = ap rank same in omega arith

    apart_step : (n a b x : ℕ) → Contains (below n) a → Contains (below n) b → ((p : ℕ) → rank x < rank p → Contains (reached below most a) p → Contains (reached below most b) p → a ≡ b)
        → IsFrom a x → IsFrom b x → a ≡ b
    apart_step n a b x under other rest (inl is) (inl same) = is ∙ sym same
    apart_step n a b x under other rest (inl is) (inr (q, inside, holds)) = absurd (not_above n b q other inside (one_list n q x (subst (Contains (below n)) is under) holds))
    apart_step n a b x under other rest (inr (p, inside, holds)) (inl same) = absurd (not_above n a p under inside (one_list n p x (subst (Contains (below n)) same other) holds))
    apart_step n a b x under other rest (inr (p, inside, holds)) (inr (q, also, keeps)) =
        rest p (falls p x holds) inside (subst (Contains (reached below most b)) (sym (one_list p q x holds keeps)) also)

    apart_within : (levels n a b x : ℕ) → most - rank x ≤ levels → Contains (below n) a → Contains (below n) b → Contains (reached below most a) x → Contains (reached below most b) x → a ≡ b
    apart_within zero n a b x fits under other from_a from_b =
        apart_step n a b x under other (λ p more one two. let l = low p in absurd (omega arith)) (reached_from a x from_a) (reached_from b x from_b)
    apart_within (suc levels) n a b x fits under other from_a from_b =
        apart_step n a b x under other (λ p more one two. let l = low p in apart_within levels n a b p (omega arith) under other one two) (reached_from a x from_a) (reached_from b x from_b)

    once_step : (n : ℕ) → ((c : ℕ) → Contains (below n) c → HasNoRepeats (reached below most c)) → HasNoRepeats (reached below most n)
    once_step n each = subst HasNoRepeats (sym (reached-below n))
        (no_repeats-cons n (flat_map (reached below most) (below n))
        (λ inside. let part = in_flat_map (reached below most) (below n) n inside in not_above n part.0 n part.1 part.2 refl)
        (no_repeats-flat_map (reached below most) (below n) (once n) each (λ a b x under other from_a from_b. apart_within most n a b x (omega arith) under other from_a from_b)))

    once_within : (levels n : ℕ) → rank n ≤ levels → HasNoRepeats (reached below most n)
    once_within zero n fits = once_step n (λ c under. let e = falls n c under in absurd (omega arith))
    once_within (suc levels) n fits = once_step n (λ c under. let e = falls n c under in once_within levels c (omega arith))

    -- nothing is reached twice
    pub reached_once : (n : ℕ) → HasNoRepeats (reached below most n)
    reached_once n = once_within (rank n) n (omega arith)
