-- How deep objects stand, and what is so many levels above one.
use Rattle.std.proofs.Common.{◌≡◌, ◌≢◌, ℕ, zero, suc, ◌+◌, ◌≤◌, inl, inr, true, refl, sym, ap, subst, ◌∙◌, arith}
use Rattle.std.specs.Prelude.{Option, Some, None}
use Rattle.std.specs.Option.{option_map_or}
use Rattle.std.proofs.lemmas.Bool.Decides.{eqb_tells}
use Rattle.ax_base.specs.Document.{root}
use Rattle.ax_record.specs.Tree.{Tree, has_object, parent_of, IsKid}
use Rattle.ax_record.specs.ObjectTrees.{IsObjectTree}
use Rattle.ax_record.proofs.Preorder.{has_kids}
use Rattle.ax_record.proofs.Climbs.{hangs_on, is_root}
use Rattle.text_marker.specs.Ancestors.{ancestor, depth_within, depth}
use Rattle.text_marker.proofs.Branches.{spot, size, kid_after, kid_within, AreApart, kids_apart}

module _ (t : Tree) where
  within-zero : (n : ℕ) → depth_within t 0 n ≡ 0
  unfolding depth_within
  within-zero n = refl

  within-top : (levels n : ℕ) → parent_of t n ≡ None → depth_within t (suc levels) n ≡ 0
  unfolding depth_within
  within-top levels n none = ap (λ o. option_map_or (λ p. suc (depth_within t levels p)) o 0) none

  within-none : (levels n : ℕ) → parent_of t n ≡ None → depth_within t levels n ≡ 0
  within-none zero n none = within-zero n
  within-none (suc levels) n none = within-top levels n none

  within-some : (levels n p : ℕ) → parent_of t n ≡ Some p → depth_within t (suc levels) n ≡ suc (depth_within t levels p)
  unfolding depth_within
  within-some levels n p above = ap (λ o. option_map_or (λ m. suc (depth_within t levels m)) o 0) above

  within_few : (levels n : ℕ) → depth_within t levels n ≤ levels
  within_few zero n = let e = within-zero n in omega arith
  within_few (suc levels) n = go (parent_of t n) refl (λ p. within_few levels p)
    where
      go : (o : Option ℕ) → parent_of t n ≡ o → ((p : ℕ) → depth_within t levels p ≤ levels) → depth_within t (suc levels) n ≤ suc levels
      go None e few = let d = within-none (suc levels) n e in omega arith
      go (Some p) e few = let d = within-some levels n p e in let f = few p in omega arith

  -- no object has more than 128 ancestors
  pub few_above : (n : ℕ) → depth t n ≤ 128
  few_above n = within_few 128 n

  pub depth-none : (n : ℕ) → parent_of t n ≡ None → depth t n ≡ 0
  depth-none n none = within-none 128 n none

  pub ancestor-some : (levels n p : ℕ) → parent_of t n ≡ Some p → ancestor t (suc levels) n ≡ ancestor t levels p
  ancestor-some levels n p above = ap (λ o. option_map_or (ancestor t levels) o n) above

  pub ancestor-none : (levels n : ℕ) → parent_of t n ≡ None → ancestor t levels n ≡ n
  ancestor-none zero n none = refl
  ancestor-none (suc levels) n none = ap (λ o. option_map_or (ancestor t levels) o n) none

  module _ (hangs : IsObjectTree t) where
    -- the count of levels means nothing where it is as great as the object's own
    steady : (a b n : ℕ) → hangs.level n ≤ a → hangs.level n ≤ b → has_object t n ≡ true → depth_within t a n ≡ depth_within t b n
    steady zero b n low high there = go (parent_of t n) refl
      where
        go : (o : Option ℕ) → parent_of t n ≡ o → depth_within t 0 n ≡ depth_within t b n
        go None e = within-none 0 n e ∙ sym (within-none b n e)
        go (Some p) e = let d = hangs.deeper p n (hangs_on t hangs n p there e) in absurd (omega arith)
    steady (suc a) zero n low high there = go (parent_of t n) refl
      where
        go : (o : Option ℕ) → parent_of t n ≡ o → depth_within t (suc a) n ≡ depth_within t 0 n
        go None e = within-none (suc a) n e ∙ sym (within-none 0 n e)
        go (Some p) e = let d = hangs.deeper p n (hangs_on t hangs n p there e) in absurd (omega arith)
    steady (suc a) (suc b) n low high there = go (parent_of t n) refl (λ p. steady a b p)
      where
        go : (o : Option ℕ) → parent_of t n ≡ o → ((p : ℕ) → hangs.level p ≤ a → hangs.level p ≤ b → has_object t p ≡ true → depth_within t a p ≡ depth_within t b p)
            → depth_within t (suc a) n ≡ depth_within t (suc b) n
        go None e rest = within-none (suc a) n e ∙ sym (within-none (suc b) n e)
        go (Some p) e rest =
            let kid = hangs_on t hangs n p there e in
            let d = hangs.deeper p n kid in
            within-some a n p e ∙ ap (λ k. suc k) (rest p (omega arith) (omega arith) (has_kids t p n kid)) ∙ sym (within-some b n p e)

    -- an object has one ancestor more than its parent
    pub depth-some : (n p : ℕ) → has_object t n ≡ true → parent_of t n ≡ Some p → depth t n ≡ suc (depth t p)
    depth-some n p there above =
        let kid = hangs_on t hangs n p there above in
        let d = hangs.deeper p n kid in
        let s = hangs.shallow n in
        within-some 127 n p above ∙ ap (λ k. suc k) (steady 127 128 p (omega arith) (omega arith) (has_kids t p n kid))

    has_parent : (n levels : ℕ) → has_object t n ≡ true → depth t n ≡ suc levels → (p : ℕ) × IsKid t p n × (depth t p ≡ levels)
    has_parent n levels there deep = go (parent_of t n) refl
      where
        go : (o : Option ℕ) → parent_of t n ≡ o → (p : ℕ) × IsKid t p n × (depth t p ≡ levels)
        go None e = let d = depth-none n e in absurd (omega arith)
        go (Some p) e = let d = depth-some n p there e in (p, hangs_on t hangs n p there e, omega arith)

    -- what has no ancestor is the root
    pub top : (n : ℕ) → has_object t n ≡ true → depth t n ≡ 0 → n ≡ root
    top n there deep = go (parent_of t n) refl
      where
        go : (o : Option ℕ) → parent_of t n ≡ o → n ≡ root
        go None e = is_root t hangs n there e
        go (Some p) e = let d = depth-some n p there e in absurd (omega arith)

    -- what is above an object: how deep it stands, and that the object is in its branch
    pub record IsAbove (levels n at : ℕ) : Type 0 where
      pub there : has_object t at ≡ true
      pub deep : depth t at + levels ≡ depth t n
      pub from : spot t at + levels ≤ spot t n
      pub to : spot t n + size t n ≤ spot t at + size t at

    pub lifts : (levels n : ℕ) → has_object t n ≡ true → levels ≤ depth t n → IsAbove levels n (ancestor t levels n)
    lifts zero n there low = record { there = there; deep = omega arith; from = omega arith; to = omega arith }
    lifts (suc levels) n there low = go (parent_of t n) refl (λ p. lifts levels p)
      where
        go : (o : Option ℕ) → parent_of t n ≡ o → ((p : ℕ) → has_object t p ≡ true → levels ≤ depth t p → IsAbove levels p (ancestor t levels p)) → IsAbove (suc levels) n (ancestor t (suc levels) n)
        go None e rest = let d = depth-none n e in absurd (omega arith)
        go (Some p) e rest =
            let kid = hangs_on t hangs n p there e in
            let d = depth-some n p there e in
            let a = kid_after t hangs p n kid in
            let w = kid_within t hangs p n kid in
            let r = rest p (has_kids t p n kid) (omega arith) in
            let r_deep = r.deep in let r_from = r.from in let r_to = r.to in
            subst (IsAbove (suc levels) n) (sym (ancestor-some levels n p e)) (record { there = r.there; deep = omega arith; from = omega arith; to = omega arith })

    -- the branches of two objects of the same depth are apart
    pub level_apart : (levels x y : ℕ) → depth t x ≡ levels → depth t y ≡ levels → has_object t x ≡ true → has_object t y ≡ true → x ≢ y → AreApart t hangs x y
    level_apart zero x y x_deep y_deep x_there y_there apart = absurd (apart (top x x_there x_deep ∙ sym (top y y_there y_deep)))
    level_apart (suc levels) x y x_deep y_deep x_there y_there apart =
        let p = has_parent x levels x_there x_deep in
        let q = has_parent y levels y_there y_deep in
        elim (eqb_tells p.0 q.0) [
          | inl (_, is) ↦ kids_apart t hangs p.0 x y p.1 (subst (λ m. IsKid t m y) (sym is) q.1) apart
          | inr (_, off) ↦ parents_apart p.0 q.0 x y p.1 q.1 (level_apart levels p.0 q.0 p.2 q.2 (has_kids t p.0 x p.1) (has_kids t q.0 y q.1) off)
        ]
      where
        parents_apart : (p q x y : ℕ) → IsKid t p x → IsKid t q y → AreApart t hangs p q → AreApart t hangs x y
        parents_apart p q x y one other (inl front) = let a = kid_within t hangs p x one in let b = kid_after t hangs q y other in inl (omega arith)
        parents_apart p q x y one other (inr behind) = let a = kid_within t hangs q y other in let b = kid_after t hangs p x one in inr (omega arith)
