-- The kids of an object that hung elsewhere before are sought only where the kids differ.
use Rattle.std.proofs.Common.{◌≡◌, ℕ, ◌-◌, List, [], ◌∷◌, ◌++◌, take, drop, Bool, false, cond, not, ◌&&◌, Some, Contains, refl, sym, ap, subst, ◌∙◌, append-nil}
use Rattle.std.specs.Prelude.{nat_eq, filter}
use Rattle.std.specs.Option.{option_eq}
use Rattle.std.proofs.lemmas.Bool.{eq-eqb}
use Rattle.std.proofs.lemmas.List.Elements.{filter-append}
use Rattle.ax_base.proofs.Membership.{Contains-head, Contains-tail}
use Rattle.ax_dom.specs.Among.{is_in}
use Rattle.ax_record.specs.Tree.{Tree, kids_of, IsKid}
use Rattle.ax_record.specs.ObjectTrees.{IsObjectTree}
use Rattle.tree_diff.specs.Candidates.{is_moved}
use Rattle.ax_base.specs.Splices.{AreSharedBut}
use Rattle.ax_base.proofs.Splicing.{in_front, in_three}

module _ (before : Tree) (t : IsObjectTree before) (ns : List ℕ) (above : ℕ) where
  abbrev test : ℕ → Bool
  test = is_moved before ns above

  -- a kid that hung on the object did not move
  stays : (k : ℕ) → IsKid before above k → is_moved before ns above k ≡ false
  stays k kid = (λ i. not (option_eq nat_eq (t.parent above k kid i) (Some above)) && not (is_in ns k)) ∙ ap (λ b. not b && not (is_in ns k)) (eq-eqb above above refl)

  -- of those that hung on it none moved
  pub none_moved : (xs : List ℕ) → ((k : ℕ) → Contains xs k → IsKid before above k) → filter (is_moved before ns above) xs ≡ []
  none_moved [] hung = refl
  none_moved (x ∷ xs) hung =
      let rest : filter (is_moved before ns above) xs ≡ [] = none_moved xs (λ k inside. hung k (Contains-tail x k xs inside)) in
      ap (λ b. cond b (x ∷ filter (is_moved before ns above) xs) (filter (is_moved before ns above) xs)) (stays x (hung x (Contains-head x xs))) ∙ rest

  pub between : (hung was : List ℕ) (start end : ℕ) → was ≡ kids_of before above → AreSharedBut start end hung was
      → (none kids : List ℕ) → none ≡ [] → kids ≡ none ++ filter (is_moved before ns above) (take (end - start) (drop start hung))
      → kids ≡ filter (is_moved before ns above) hung
  between hung was start end same shared none kids empty found =
      found
      ∙ (λ i. empty i ++ middle)
      ∙ sym (append-nil middle)
      ∙ (λ i. middle ++ sym back i)
      ∙ sym (filter-append test (take (end - start) (drop start hung)) (drop end hung))
      ∙ (λ i. sym front i ++ filter test (take (end - start) (drop start hung) ++ drop end hung))
      ∙ sym (filter-append test (take start hung) (take (end - start) (drop start hung) ++ drop end hung))
      ∙ ap (filter test) (in_three hung start end shared.order)
    where
      middle : List ℕ
      middle = filter (is_moved before ns above) (take (end - start) (drop start hung))

      kid : (k : ℕ) → Contains was k → IsKid before above k
      kid k inside = subst (λ l. Contains l k) same inside

      front : filter (is_moved before ns above) (take start hung) ≡ []
      front = none_moved (take start hung) (λ k inside. kid k (in_front start end hung was shared k inside))

      back : filter (is_moved before ns above) (drop end hung) ≡ []
      back = none_moved (drop end hung) (λ k inside. kid k (shared.after k inside))
