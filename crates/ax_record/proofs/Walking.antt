-- The objects of a tree, gathered by a walk.
use Rattle.std.proofs.Common.{◌≡◌, inl, inr, ℕ, zero, suc, ◌-◌, ◌<◌, List, [], ◌∷◌, ◌++◌, map, true, false, Contains, Some, None, refl, sym, ap, subst, ◌∙◌, arith, append_assoc, eqb}
use Rattle.std.specs.List.{flat_map}
use Rattle.std.specs.List.Sorted.{IsPermutation, IsSorted, IsStrictlyIncreasing}
use Rattle.std.specs.Option.{option_map_or}
use Rattle.std.specs.Ordering.{nat_cmp}
use Rattle.std.specs.Cmp.{nat_cmp_total, eq_by_cmp_equiv}
use Rattle.std.specs.List.{AllByRecursion, IsDistinct}
use Rattle.std.proofs.lemmas.Bool.Decides.{eqb_tells, nat_tests}
use Rattle.std.proofs.lemmas.Map.Keys.{IsStrictlyIncreasing-from_distinct, IsDistinct-IsPermutation}
use Rattle.std.proofs.lemmas.Map.Views.{Contains-from_any, list_any-from_Contains}
use Rattle.std.proofs.lemmas.List.Sorted.{Contains-permutation, IsPermutation-sym, IsNonDecreasingBy-from_sort}
use Rattle.ax_base.proofs.Lookups.{found_is}
use Rattle.ax_base.proofs.Membership.{Contains-head, Contains-tail}
use Rattle.ax_base.proofs.Repeats.{head_apart, tail_no_repeats}
use Rattle.ax_record.proofs.TreeOf.{is_some-lookup}
use Rattle.ax_base.specs.Trees.{HasNoRepeats}
use Rattle.ax_base.specs.Recursion.{from_below}
use Rattle.ax_record.specs.declared.record.Record.{Record}
use Rattle.ax_record.specs.Tree.{Tree, record_at, kids_of, objects_within, preorder, object_ids, has_object}
use Rattle.ax_record.specs.ObjectTrees.{IsObjectTree}
use Rattle.ax_record.proofs.Preorder.{preorder_known, in_preorder, preorder_once}
use Rattle.ax_base.proofs.Rising.{rising_same}

module _ (t : Tree) where
  flat : (levels : ℕ) (ks : List ℕ) → flat_map (λ (c : ℕ × List ℕ). c.1) (map (λ k. (k, objects_within t levels k)) ks) ≡ flat_map (objects_within t levels) ks
  flat levels [] = refl
  flat levels (k ∷ ks) = ap (λ l. objects_within t levels k ++ l) (flat levels ks)

  -- an object alone, with no level below it
  pub lowest : (n : ℕ) → objects_within t 0 n ≡ n ∷ []
  unfolding from_below
  lowest n = refl

  -- an object, and what is below each of its kids
  pub above : (levels n : ℕ) → objects_within t (suc levels) n ≡ n ∷ flat_map (objects_within t levels) (kids_of t n)
  unfolding from_below
  above levels n = ap (λ l. n ∷ l) (flat levels (kids_of t n))

  alone_there : (levels n : ℕ) → None ≡ record_at t n → objects_within t levels n ≡ n ∷ []
  alone_there zero n is = lowest n
  alone_there (suc levels) n is = above levels n ∙ ap (λ o. n ∷ flat_map (objects_within t levels) (option_map_or (λ (x : Record). x.kids) o [])) (sym is)

  pub at_last : (levels n : ℕ) (old new : List ℕ) → levels ≡ 0 → new ≡ old ++ n ∷ [] → new ≡ old ++ objects_within t levels n
  at_last levels n old new last is = is ∙ ap (λ l. old ++ l) (sym (lowest n)) ∙ ap (λ m. old ++ objects_within t m n) (sym last)

  pub none_there : (levels n : ℕ) (old new : List ℕ) → None ≡ record_at t n → new ≡ old ++ n ∷ [] → new ≡ old ++ objects_within t levels n
  none_there levels n old new none is = is ∙ ap (λ l. old ++ l) (sym (alone_there levels n none))

  pub with_kids : (levels n : ℕ) (r : Record) (old mid new ks : List ℕ) → Some r ≡ record_at t n → 0 < levels → ks ≡ r.kids
      → mid ≡ old ++ n ∷ [] → new ≡ mid ++ flat_map (objects_within t (levels - 1)) ks → new ≡ old ++ objects_within t levels n
  with_kids levels n r old mid new ks is high same first rest =
      let next : suc (levels - 1) ≡ levels = omega arith in
      let kids : ks ≡ kids_of t n = same ∙ ap (λ o. option_map_or (λ (x : Record). x.kids) o []) is in
      rest ∙ (λ i. first i ++ flat_map (objects_within t (levels - 1)) (kids i))
      ∙ append_assoc old (n ∷ []) (flat_map (objects_within t (levels - 1)) (kids_of t n))
      ∙ ap (λ l. old ++ l) (sym (above (levels - 1) n) ∙ ap (λ m. objects_within t m n) next)

-- what is in a list is not what is apart from it
apart_all : (x : ℕ) (xs : List ℕ) → (Contains xs x → ⊥) → AllByRecursion (λ y. eqb x y ≡ false) xs
apart_all x [] none = tt
apart_all x (y ∷ ys) none = (elim (eqb_tells x y) [ inl (e, is) ↦ absurd (none (subst (λ z. Contains (y ∷ ys) z) (sym is) (Contains-head y ys))) | inr (e, apart) ↦ e ], apart_all x ys (λ inside. none (Contains-tail y x ys inside)))

pub distinct : (xs : List ℕ) → HasNoRepeats xs → IsDistinct eqb xs
unfolding IsDistinct
distinct [] once = tt
distinct (x ∷ xs) once = (apart_all x xs (head_apart x xs once), distinct xs (tail_no_repeats x xs once))

-- an id is among those of the objects just where there is such an object
pub id_there : (t : Tree) (n : ℕ) → has_object t n ≡ true → Contains (object_ids t) n
id_there t n there = Contains-from_any found_is n (object_ids t) (is_some-lookup n t.entries ∙ there)

pub there_id : (t : Tree) (n : ℕ) → Contains (object_ids t) n → has_object t n ≡ true
there_id t n inside = sym (is_some-lookup n t.entries) ∙ list_any-from_Contains (eq_by_cmp_equiv nat_cmp_total) n (object_ids t) inside

-- the objects in tree order, sorted, are the objects by rising id
pub sorted_ids : (t : Tree) → IsObjectTree t → (walked sorted : List ℕ) → walked ≡ preorder t → IsPermutation walked sorted → IsSorted nat_cmp sorted → sorted ≡ object_ids t
sorted_ids t hangs walked sorted is moved rises =
    rising_same sorted (object_ids t) climbs hangs.rising
    (λ n inside. id_there t n (preorder_known t hangs n (subst (λ l. Contains l n) is (Contains-permutation sorted walked n (IsPermutation-sym walked sorted moved) inside))))
    (λ n inside. Contains-permutation walked sorted n moved (subst (λ l. Contains l n) (sym is) (in_preorder t hangs n (there_id t n inside))))
  where
    climbs : IsStrictlyIncreasing sorted
    climbs = IsStrictlyIncreasing-from_distinct sorted (IsNonDecreasingBy-from_sort (λ x. x) sorted rises) (IsDistinct-IsPermutation eqb (λ x y. grind (arith, nat_tests)) walked sorted moved (subst (IsDistinct eqb) (sym is) (distinct (preorder t) (preorder_once t hangs))))
