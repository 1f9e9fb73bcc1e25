-- Every object that is gone is found from one of the nodes that are not alike.
use Rattle.std.proofs.Common.{◌≡◌, ◌⊎◌, inl, inr, ℕ, zero, suc, ◌-◌, ◌≤◌, ◌<◌, List, [], ◌∷◌, Bool, true, false, cond, Contains, refl, sym, ap, subst, ◌∙◌, arith}
use Rattle.std.specs.List.{flat_map}
use Rattle.ax_base.specs.Document.{Document, has}
use Rattle.ax_base.specs.Trees.{IsTree}
use Rattle.ax_base.specs.Kids.{kids, objects}
use Rattle.ax_base.proofs.Below.{from_below_unfolds}
use Rattle.ax_base.proofs.Joins.{Contains-cases, Contains-flat_map, in_flat_map}
use Rattle.ax_base.proofs.KidsLaws.{kids_deeper}
use Rattle.ax_base.proofs.Membership.{Contains-head, Contains-tail}
use Rattle.ax_dom.specs.Among.{is_in}
use Rattle.ax_record.specs.Tree.{Tree, kids_of, IsKid}
use Rattle.ax_record.specs.ObjectTrees.{IsObjectTree}
use Rattle.ax_record.specs.Records.{tree}
use Rattle.ax_record.proofs.TreeOf.{kids_are, is_one, tree_hangs}
use Rattle.tree_diff.specs.Alike.{AreAlikeBut}
use Rattle.tree_diff.specs.Lost.{still, lost_from, lost, given_within}
use Rattle.tree_diff.proofs.Differs.{gone_hung}
use Rattle.tree_diff.proofs.Losing.{each_given}

module _ (before : Tree) (now : Document) (t : IsObjectTree before) where
  -- what a kid gives
  abbrev given : ℕ → List ℕ
  given k = given_within before now 128 k

  falls : (n k : ℕ) → Contains (kids_of before n) k → 128 - t.level k < 128 - t.level n
  falls n k kid = let deep = t.deeper n k kid in let low = t.shallow k in omega arith

  lost_kids : (n : ℕ) → lost before now n ≡ flat_map given (kids_of before n)
  lost_kids n = from_below_unfolds lost_from (still now) (kids_of before) (λ n. 128 - t.level n) falls 128 n (omega arith) ∙ each_given before now 128 n (kids_of before n)

  gives : (n k x : ℕ) → IsKid before n k → Contains (given k) x → Contains (lost before now n) x
  gives n k x kid inside = subst (λ l. Contains l x) (sym (lost_kids n)) (Contains-flat_map given (kids_of before n) k x kid inside)

  given_gone : (k : ℕ) → has now k ≡ false → given k ≡ k ∷ lost before now k
  given_gone k gone = ap (λ b. cond b [] (k ∷ lost before now k)) gone

  -- what is given is not nothing, so the kid is gone
  given_from : (k x : ℕ) → Contains (given k) x → has now k ≡ false
  given_from k x inside = go (has now k) refl
    where
      nothing : Contains [] x → ⊥
      nothing none = omega arith

      go : (b : Bool) → has now k ≡ b → has now k ≡ false
      go true there = absurd (nothing (subst (λ l. Contains l x) (ap (λ b. cond b [] (k ∷ lost before now k)) there) inside))
      go false gone = gone

  given_cases : (k x : ℕ) → Contains (given k) x → (k ≡ x) ⊎ Contains (lost before now k) x
  given_cases k x inside = Contains-cases x k (lost before now k) (subst (λ l. Contains l x) (given_gone k (given_from k x inside)) inside)

  -- a kid that is gone is given
  lost_kid : (n k : ℕ) → IsKid before n k → has now k ≡ false → Contains (lost before now n) k
  lost_kid n k kid gone = gives n k k kid (subst (λ l. Contains l k) (sym (given_gone k gone)) (Contains-head k (lost before now k)))

  -- so is what hung on one that is given
  further : (q k p n : ℕ) → IsKid before q k → Contains (given k) p → IsKid before p n → has now n ≡ false → (Contains (lost before now k) p → Contains (lost before now k) n) → Contains (lost before now q) n
  further q k p n kid inside under gone rest =
      gives q k n kid (subst (λ l. Contains l n) (sym (given_gone k (given_from k p inside))) (Contains-tail k n (lost before now k) (elim (given_cases k p inside) [
        | inl is ↦ lost_kid k n (subst (λ x. Contains (kids_of before x) n) (sym is) under) gone
        | inr more ↦ rest more
      ])))

  pub lost_on : (l q p n : ℕ) → 128 - t.level q ≤ l → Contains (lost before now q) p → IsKid before p n → has now n ≡ false → Contains (lost before now q) n
  lost_on zero q p n low inside under gone =
      let r = in_flat_map given (kids_of before q) p (subst (λ l. Contains l p) (lost_kids q) inside) in
      let e = falls q r.0 r.1 in absurd (omega arith)
  lost_on (suc l) q p n low inside under gone =
      let r = in_flat_map given (kids_of before q) p (subst (λ l. Contains l p) (lost_kids q) inside) in
      let e = falls q r.0 r.1 in
      further q r.0 p n r.1 r.2 under gone (λ more. lost_on l r.0 p n (omega arith) more under gone)

  lost_gone_within : (l q n : ℕ) → 128 - t.level q ≤ l → Contains (lost before now q) n → has now n ≡ false
  lost_gone_within zero q n low inside =
      let r = in_flat_map given (kids_of before q) n (subst (λ l. Contains l n) (lost_kids q) inside) in
      let e = falls q r.0 r.1 in absurd (omega arith)
  lost_gone_within (suc l) q n low inside =
      let r = in_flat_map given (kids_of before q) n (subst (λ l. Contains l n) (lost_kids q) inside) in
      let e = falls q r.0 r.1 in
      elim (given_cases r.0 n r.2) [
        | inl is ↦ subst (λ x. has now x ≡ false) is (given_from r.0 n r.2)
        | inr more ↦ lost_gone_within l r.0 n (omega arith) more
      ]

  -- what is lost is gone
  pub lost_gone : (q n : ℕ) → Contains (lost before now q) n → has now n ≡ false
  lost_gone q n inside = lost_gone_within (128 - t.level q) q n (omega arith) inside

module _ (old now : Document) (t : IsTree old) (u : IsTree now) (ns : List ℕ) (alike : AreAlikeBut old now ns) where
  abbrev IsFound : ℕ → Type 0
  IsFound n = (q : ℕ) × (is_in ns q ≡ true) × Contains (lost (tree old) now q) n

  hangs : IsObjectTree (tree old)
  hangs = tree_hangs old t

  kid_of : (n k : ℕ) → Contains (objects old) n → Contains (kids old n) k → IsKid (tree old) n k
  kid_of n k one kid = subst (λ l. Contains l k) (sym (kids_are old t n ∙ ap (λ b. cond b (kids old n) []) (is_one old t n one))) kid

  -- from what is above, or from one of the nodes
  one_up : (n p : ℕ) → IsKid (tree old) p n → has now n ≡ false → ((has now p ≡ false) ⊎ (is_in ns p ≡ true)) → (has now p ≡ false → IsFound p) → IsFound n
  one_up n p kid gone (inl above) rest = let r = rest above in (r.0, r.1, lost_on (tree old) now hangs (128 - hangs.level r.0) r.0 p n (omega arith) r.2 kid gone)
  one_up n p kid gone (inr on) rest = (p, on, lost_kid (tree old) now hangs p n kid gone)

  found_within : (l n : ℕ) → t.level n ≤ l → Contains (objects old) n → has now n ≡ false → IsFound n
  found_within zero n low object gone =
      let h = gone_hung old now t u ns alike n object gone in
      let e = kids_deeper old t h.0 n h.2 in absurd (omega arith)
  found_within (suc l) n low object gone =
      let h = gone_hung old now t u ns alike n object gone in
      let e = kids_deeper old t h.0 n h.2 in
      one_up n h.0 (kid_of h.0 n h.1 h.2) gone h.3 (λ above. found_within l h.0 (omega arith) h.1 above)

  -- each object that is gone is lost from one of the nodes
  pub gone_found : (n : ℕ) → Contains (objects old) n → has now n ≡ false → (q : ℕ) × (is_in ns q ≡ true) × Contains (lost (tree old) now q) n
  gone_found n object gone = found_within (t.level n) n (omega arith) object gone
