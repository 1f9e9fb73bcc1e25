-- What is counted in tree order is what is counted by rising id.
use Rattle.std.proofs.Common.{◌≡◌, inl, inr, ℕ, ◌+◌, ◌*◌, ◌≤◌, List, [], ◌∷◌, length, Bool, true, false, cond, not, Contains, refl, sym, ap, subst, ◌∙◌, arith}
use Rattle.std.specs.Prelude.{filter, sum_by}
use Rattle.std.proofs.lemmas.Bool.Decides.{eqb_tells}
use Rattle.std.proofs.lemmas.List.Sums.{sum_by-append}
use Rattle.ax_base.specs.Document.{Document, root, ids, order}
use Rattle.ax_base.specs.Trees.{IsTree, HasNoRepeats}
use Rattle.ax_base.proofs.Joins.{Contains-cases}
use Rattle.ax_base.proofs.Membership.{Contains-head, Contains-tail}
use Rattle.ax_base.proofs.Places.{among_ids}
use Rattle.ax_base.proofs.Repeats.{no_repeats-nil, no_repeats-cons, head_apart, tail_no_repeats}
use Rattle.ax_dom.specs.Places.{without}
use Rattle.ax_dom.proofs.Subtrees.{subtree_once, within_known}
use Rattle.ax_dom.proofs.Without.{without_keeps}
use Rattle.dirty_set.specs.Reach.{Marked, is_reached, weight_of, weight}
use Rattle.dirty_set.proofs.Firsts.{kept_cases}
use Rattle.dirty_set.proofs.Edits.{kept_in}

module _ (f : ℕ → ℕ) where
  sum_cons : (x : ℕ) (xs : List ℕ) → sum_by f (x ∷ xs) ≡ f x + sum_by f xs
  sum_cons x xs = let s = sum_by-append f (x ∷ []) xs in let one : sum_by f (x ∷ []) ≡ f x = omega arith in omega arith

  without_less : (x : ℕ) (ys : List ℕ) → sum_by f (without x ys) ≤ sum_by f ys
  without_less x [] = omega arith
  without_less x (y ∷ ys) = elim (eqb_tells y x) [
    | inl (on, _) ↦ (let rest = without_less x ys in let s = sum_cons y ys in let e : sum_by f (without x (y ∷ ys)) ≡ sum_by f (without x ys) = ap (λ b. sum_by f (cond (not b) (y ∷ without x ys) (without x ys))) on in omega arith)
    | inr (off, _) ↦ (let rest = without_less x ys in let s = sum_cons y ys in let r = sum_cons y (without x ys) in let e : sum_by f (without x (y ∷ ys)) ≡ sum_by f (y ∷ without x ys) = ap (λ b. sum_by f (cond (not b) (y ∷ without x ys) (without x ys))) off in omega arith)
  ]

  -- without an element, the sum is less by what it counts
  without_sum : (x : ℕ) (ys : List ℕ) → Contains ys x → f x + sum_by f (without x ys) ≤ sum_by f ys
  without_sum x [] inside = absurd (omega arith)
  without_sum x (y ∷ ys) inside = elim (eqb_tells y x) [
    | inl (on, is) ↦ (let rest = without_less x ys in let s = sum_cons y ys in let same : f y ≡ f x = ap f is in
        let e : sum_by f (without x (y ∷ ys)) ≡ sum_by f (without x ys) = ap (λ b. sum_by f (cond (not b) (y ∷ without x ys) (without x ys))) on in omega arith)
    | inr (off, apart) ↦ (elim (Contains-cases x y ys inside) [
      | inl is ↦ absurd (apart is)
      | inr more ↦ (let rest = without_sum x ys more in let s = sum_cons y ys in let r = sum_cons y (without x ys) in
          let e : sum_by f (without x (y ∷ ys)) ≡ sum_by f (y ∷ without x ys) = ap (λ b. sum_by f (cond (not b) (y ∷ without x ys) (without x ys))) off in omega arith)
    ])
  ]

  -- a list that has nothing twice counts no more than one that has all of it
  pub sum_less : (xs ys : List ℕ) → HasNoRepeats xs → ((x : ℕ) → Contains xs x → Contains ys x) → sum_by f xs ≤ sum_by f ys
  sum_less [] ys once inside = omega arith
  sum_less (x ∷ xs) ys once inside =
      let rest = sum_less xs (without x ys) (tail_no_repeats x xs once) (λ y among. without_keeps x y ys (inside y (Contains-tail x y xs among)) (λ same. head_apart x xs once (subst (Contains xs) same among))) in
      let s = sum_cons x xs in
      let w = without_sum x ys (inside x (Contains-head x xs)) in
      omega arith

filter_once : (p : ℕ → Bool) (xs : List ℕ) → HasNoRepeats xs → HasNoRepeats (filter p xs)
filter_once p [] once = no_repeats-nil
filter_once p (x ∷ xs) once = go (p x) (filter_once p xs (tail_no_repeats x xs once))
  where
    go : (b : Bool) → HasNoRepeats (filter p xs) → HasNoRepeats (cond b (x ∷ filter p xs) (filter p xs))
    go true rest = no_repeats-cons x (filter p xs) (λ inside. head_apart x xs once (kept_cases p xs x inside).0) rest
    go false rest = rest

-- what is counted for the nodes that marks reach, in tree order, is at most the weight
pub weight_bounds : (d : Document) (t : IsTree d) (m : Marked) → sum_by (weight_of d) (filter (is_reached d m) (order d)) ≤ weight d m
weight_bounds d t m = sum_less (weight_of d) (filter (is_reached d m) (order d)) (filter (is_reached d m) (ids d))
    (filter_once (is_reached d m) (order d) (subtree_once d t root))
    (λ x inside.
    let r = kept_cases (is_reached d m) (order d) x inside in
    kept_in (is_reached d m) (ids d) x (among_ids d.nodes x (within_known d t root x t.has_root r.0)) r.1)

-- what is counted for some nodes alone
only_some : (p : ℕ → Bool) (g : ℕ → ℕ) (xs : List ℕ) → sum_by (λ n. cond (p n) (g n) 0) xs ≡ sum_by g (filter p xs)
only_some p g [] = refl
only_some p g (x ∷ xs) = go (p x) refl (only_some p g xs)
  where
    go : (b : Bool) → p x ≡ b → sum_by (λ n. cond (p n) (g n) 0) xs ≡ sum_by g (filter p xs) → sum_by (λ n. cond (p n) (g n) 0) (x ∷ xs) ≡ sum_by g (cond b (x ∷ filter p xs) (filter p xs))
    go true is rest =
        let s = sum_cons (λ n. cond (p n) (g n) 0) x xs in
        let here : cond (p x) (g x) 0 ≡ g x = ap (λ b. cond b (g x) 0) is in
        s ∙ (λ i. here i + rest i) ∙ sym (sum_cons g x (filter p xs))
    go false is rest =
        let s = sum_cons (λ n. cond (p n) (g n) 0) x xs in
        let here : cond (p x) (g x) 0 ≡ 0 = ap (λ b. cond b (g x) 0) is in
        let all : sum_by (λ n. cond (p n) (g n) 0) (x ∷ xs) ≡ 0 + sum_by g (filter p xs) = s ∙ (λ i. here i + rest i) in
        omega (arith, all)

sum_times : (g h : ℕ → ℕ) (k : ℕ) (xs : List ℕ) → ((n : ℕ) → g n ≤ k * h n) → sum_by g xs ≤ k * sum_by h xs
sum_times g h k [] each = omega arith
sum_times g h k (x ∷ xs) each =
    let rest = sum_times g h k xs each in
    let a = sum_cons g x xs in
    let b = sum_cons h x xs in
    let here = each x in
    let spread : k * (h x + sum_by h xs) ≡ k * h x + k * sum_by h xs = grind arith in
    let whole : k * sum_by h (x ∷ xs) ≡ k * (h x + sum_by h xs) = ap (λ n. k * n) b in
    omega arith

-- a pass that counts so many times what a node weighs, for the nodes that marks reach, counts so many times the weight
pub pass_weighs : (d : Document) (t : IsTree d) (m : Marked) (g : ℕ → ℕ) (k : ℕ) → ((n : ℕ) → g n ≤ k * weight_of d n) → sum_by (λ n. cond (is_reached d m n) (g n) 0) (order d) ≤ k * weight d m
pass_weighs d t m g k each =
    let some = only_some (is_reached d m) g (order d) in
    let times = sum_times g (weight_of d) k (filter (is_reached d m) (order d)) each in
    let all = weight_bounds d t m in
    let more : k * sum_by (weight_of d) (filter (is_reached d m) (order d)) ≤ k * weight d m = grind (arith, all) in
    omega arith

-- nodes are no more than they weigh
pub length_weighs : (d : Document) (xs : List ℕ) → length xs ≤ sum_by (weight_of d) xs
length_weighs d [] = omega arith
length_weighs d (x ∷ xs) = let rest = length_weighs d xs in let s = sum_cons (weight_of d) x xs in omega arith
