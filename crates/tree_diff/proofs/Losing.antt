-- What is gone from below an object, gathered by a walk.
use Rattle.std.proofs.Common.{◌≡◌, ℕ, zero, suc, ◌-◌, ◌<◌, List, [], ◌∷◌, ◌++◌, map, true, false, cond, Some, None, refl, sym, ap, subst, ◌∙◌, arith, append_assoc, append-nil, take, drop, Contains}
use Rattle.std.specs.List.{flat_map}
use Rattle.std.specs.Option.{option_map_or}
use Rattle.std.proofs.lemmas.Grind.{flat_map-append}
use Rattle.ax_base.specs.Document.{Document, has}
use Rattle.ax_base.specs.Recursion.{from_below}
use Rattle.ax_base.specs.Kids.{kids}
use Rattle.ax_base.specs.Trees.{IsTree}
use Rattle.ax_base.proofs.Membership.{Contains-head, Contains-tail}
use Rattle.ax_base.proofs.Objects.{kids_known}
use Rattle.ax_record.specs.declared.record.Record.{Record}
use Rattle.ax_record.specs.Tree.{Tree, record_at, kids_of}
use Rattle.tree_diff.specs.Lost.{still, lost_from, lost, lost_within, given_within}
use Rattle.ax_base.specs.Splices.{AreSharedBut}
use Rattle.ax_base.proofs.Splicing.{in_front, in_three}

-- the kids of a node that is there are there
pub kids_there : (d : Document) (t : IsTree d) (n : ℕ) (ks : List ℕ) → true ≡ has d n → (has d n ≡ true → ks ≡ kids d n) → (k : ℕ) → Contains ks k → has d k ≡ true
kids_there d t n ks there are k inside = kids_known d t n k (subst (λ l. Contains l k) (are (sym there)) inside)

module _ (before : Tree) (now : Document) where
  pub each_given : (levels : ℕ) (n : ℕ) (ks : List ℕ) → lost_from (still now n) (map (λ k. (still now k, lost_within before now levels k)) ks) ≡ flat_map (given_within before now levels) ks
  each_given levels n [] = refl
  each_given levels n (k ∷ ks) = ap (λ l. given_within before now levels k ++ l) (each_given levels n ks)

  lowest : (n : ℕ) → lost_within before now 0 n ≡ []
  unfolding from_below
  lowest n = refl

  above : (levels n : ℕ) → lost_within before now (suc levels) n ≡ flat_map (given_within before now levels) (kids_of before n)
  unfolding from_below
  above levels n = each_given levels n (kids_of before n)

  -- what is not there has nothing below it
  none_lost : (levels n : ℕ) → None ≡ record_at before n → lost_within before now levels n ≡ []
  none_lost zero n is = lowest n
  none_lost (suc levels) n is = above levels n ∙ ap (λ o. flat_map (given_within before now levels) (option_map_or (λ (x : Record). x.kids) o [])) (sym is)

  pub at_last : (levels n : ℕ) (old : List ℕ) → levels ≡ 0 → old ≡ old ++ lost_within before now levels n
  at_last levels n old last = sym (append-nil old) ∙ ap (λ l. old ++ l) (sym (lowest n)) ∙ ap (λ m. old ++ lost_within before now m n) (sym last)

  pub none_there : (levels n : ℕ) (old : List ℕ) → None ≡ record_at before n → old ≡ old ++ lost_within before now levels n
  none_there levels n old none = sym (append-nil old) ∙ ap (λ l. old ++ l) (sym (none_lost levels n none))

  pub with_kids : (levels n : ℕ) (r : Record) (old new ks : List ℕ) → Some r ≡ record_at before n → 0 < levels → ks ≡ r.kids
      → new ≡ old ++ flat_map (given_within before now (levels - 1)) ks → new ≡ old ++ lost_within before now levels n
  with_kids levels n r old new ks is high same rest =
      let next : suc (levels - 1) ≡ levels = omega arith in
      let hung : ks ≡ kids_of before n = same ∙ ap (λ o. option_map_or (λ (x : Record). x.kids) o []) is in
      rest ∙ (λ i. old ++ flat_map (given_within before now (levels - 1)) (hung i))
      ∙ ap (λ l. old ++ l) (sym (above (levels - 1) n) ∙ ap (λ m. lost_within before now m n) next)

  -- a kid that is there gives nothing
  pub there_gives : (levels k : ℕ) (old : List ℕ) → true ≡ has now k → old ≡ old ++ given_within before now levels k
  there_gives levels k old there = sym (append-nil old) ∙ ap (λ b. old ++ cond b [] (k ∷ lost_within before now levels k)) there

  -- one that is gone gives itself and what it gives
  pub gone_gives : (levels k : ℕ) (old mid new : List ℕ) → false ≡ has now k → mid ≡ old ++ k ∷ [] → new ≡ mid ++ lost_within before now levels k → new ≡ old ++ given_within before now levels k
  gone_gives levels k old mid new gone first rest =
      rest ∙ ap (λ l. l ++ lost_within before now levels k) first ∙ append_assoc old (k ∷ []) (lost_within before now levels k) ∙ ap (λ b. old ++ cond b [] (k ∷ lost_within before now levels k)) gone

  -- those of which all are there give nothing
  all_there : (levels : ℕ) (ks : List ℕ) → ((k : ℕ) → Contains ks k → has now k ≡ true) → flat_map (given_within before now levels) ks ≡ []
  all_there levels [] there = refl
  all_there levels (k ∷ ks) there =
      (λ i. cond (there k (Contains-head k ks) i) [] (k ∷ lost_within before now levels k) ++ flat_map (given_within before now levels) ks)
      ∙ all_there levels ks (λ c inside. there c (Contains-tail k c ks inside))

  -- nothing is gone from below an object of which all kids are there
  pub none_gone : (n : ℕ) → ((k : ℕ) → Contains (kids_of before n) k → has now k ≡ true) → lost before now n ≡ []
  none_gone n there = above 127 n ∙ all_there 127 (kids_of before n) there

  -- what is gone from below an object, from those of its kids alone that differ from others which are there
  pub lost_among : (n : ℕ) (was others : List ℕ) (start end : ℕ) → was ≡ kids_of before n → AreSharedBut start end was others → ((k : ℕ) → Contains others k → has now k ≡ true)
      → (old new : List ℕ) → new ≡ old ++ flat_map (given_within before now 127) (take (end - start) (drop start was)) → new ≡ old ++ lost before now n
  lost_among n was others start end same shared there old new is =
      is ∙ ap (λ l. old ++ l) (middle ∙ ap (flat_map (given_within before now 127)) same ∙ sym (above 127 n))
    where
      give : List ℕ → List ℕ
      give = flat_map (given_within before now 127)

      first : List ℕ
      first = take start was

      last : List ℕ
      last = drop end was

      part : List ℕ
      part = take (end - start) (drop start was)

      middle : give part ≡ give was
      middle =
          sym (append-nil (give part))
          ∙ (λ i. sym (all_there 127 first (λ k inside. there k (in_front start end was others shared k inside))) i ++ (give part ++ sym (all_there 127 last (λ k inside. there k (shared.after k inside))) i))
          ∙ (λ i. give first ++ sym (flat_map-append (given_within before now 127) part last) i)
          ∙ sym (flat_map-append (given_within before now 127) first (part ++ last))
          ∙ ap give (in_three was start end shared.order)
