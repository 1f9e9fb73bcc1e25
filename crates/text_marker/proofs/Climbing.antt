-- Climbing from two objects to their lowest common ancestor.
use Rattle.std.proofs.Common.{◌≡◌, ℕ, suc, ◌+◌, ◌-◌, ◌<◌, ◌≤◌, inl, inr, true, false, length, nat_lt, eqb, Bool, refl, sym, ap, subst, ◌∙◌, arith}
use Rattle.std.specs.Prelude.{Some, None}
use Rattle.std.proofs.lemmas.Bool.{lt-ltb, le-ltb, eqb-true, eqb-false}
use Rattle.std.proofs.lemmas.Bool.Decides.{leb_tells}
use Rattle.ax_record.specs.Tree.{Tree, has_object, kids_of, parent_of, IsKid}
use Rattle.ax_record.specs.ObjectTrees.{IsObjectTree}
use Rattle.ax_record.specs.Orders.{before}
use Rattle.ax_record.proofs.Preorder.{has_kids}
use Rattle.ax_record.proofs.Climbs.{hangs_on}
use Rattle.text_marker.specs.Ancestors.{ancestor, depth}
use Rattle.text_marker.proofs.Branches.{spot, kid_after, kid_within, not_empty, kids_order, in_branches}
use Rattle.text_marker.proofs.Depths.{few_above, depth-none, depth-some, top, IsAbove, lifts, level_apart}

module _ (t : Tree) (hangs : IsObjectTree t) where
  kid : (n p : ℕ) → has_object t n ≡ true → Some p ≡ parent_of t n → IsKid t p n
  kid n p there above = hangs_on t hangs n p there (sym above)

  pub parent_known : (n p : ℕ) → has_object t n ≡ true → Some p ≡ parent_of t n → has_object t p ≡ true
  parent_known n p there above = has_kids t p n (kid n p there above)

  deeper : (n p : ℕ) → has_object t n ≡ true → Some p ≡ parent_of t n → depth t n ≡ suc (depth t p)
  deeper n p there above = depth-some t hangs n p there (sym above)

  -- a parent has fewer ancestors
  pub climbs : (n p : ℕ) → has_object t n ≡ true → Some p ≡ parent_of t n → depth t p < depth t n
  climbs n p there above = let d = deeper n p there above in omega arith

  -- one more ancestor is counted
  pub one_more : (n at p count next : ℕ) → has_object t at ≡ true → Some p ≡ parent_of t at → next ≡ count + 1 → depth t n ≡ count + depth t at → depth t n ≡ next + depth t p
  one_more n at p count next there above is sofar = let d = deeper at p there above in omega arith

  pub still_few : (n at p count : ℕ) → has_object t at ≡ true → Some p ≡ parent_of t at → depth t n ≡ count + depth t at → count + 1 ≤ 128
  still_few n at p count there above sofar = let d = deeper at p there above in let f = few_above t n in omega arith

  pub all_counted : (n at count : ℕ) → None ≡ parent_of t at → depth t n ≡ count + depth t at → count ≡ depth t n
  all_counted n at count none sofar = let d = depth-none t at (sym none) in omega arith

  -- of two objects of the same depth, both or none have a parent
  pub uneven : (x y p : ℕ) → has_object t x ≡ true → depth t x ≡ depth t y → Some p ≡ parent_of t x → None ≡ parent_of t y → ⊥
  uneven x y p there level above none = let d = deeper x p there above in let e = depth-none t y (sym none) in omega arith

  pub both_top : (x y : ℕ) → has_object t x ≡ true → has_object t y ≡ true → depth t x ≡ depth t y → eqb x y ≡ false → None ≡ parent_of t x → ⊥
  both_top x y x_there y_there level apart none =
      let d = depth-none t x (sym none) in
      eqb-false x y apart (top t hangs x x_there d ∙ sym (top t hangs y y_there (omega arith)))

  -- their parents have the same depth, and come in the same order where they differ
  pub parents_level : (x y p q : ℕ) → has_object t x ≡ true → has_object t y ≡ true → depth t x ≡ depth t y → Some p ≡ parent_of t x → Some q ≡ parent_of t y → depth t p ≡ depth t q
  parents_level x y p q x_there y_there level x_above y_above =
      let d = deeper x p x_there x_above in let e = deeper y q y_there y_above in omega arith

  pub parents_order : (x y p q : ℕ) → has_object t x ≡ true → has_object t y ≡ true → depth t x ≡ depth t y → Some p ≡ parent_of t x → Some q ≡ parent_of t y → eqb p q ≡ false
      → nat_lt (spot t x) (spot t y) ≡ nat_lt (spot t p) (spot t q)
  parents_order x y p q x_there y_there level x_above y_above apart =
      let one = kid x p x_there x_above in
      let other = kid y q y_there y_above in
      let away = level_apart t hangs (depth t q) p q (parents_level x y p q x_there y_there level x_above y_above) refl (has_kids t p x one) (has_kids t q y other) (eqb-false p q apart) in
      let xa = kid_after t hangs p x one in
      let xw = kid_within t hangs p x one in
      let xs = not_empty t hangs x in
      let ya = kid_after t hangs q y other in
      let yw = kid_within t hangs q y other in
      let ys = not_empty t hangs y in
      sym (in_branches t hangs p q x y away (omega arith) (omega arith) (omega arith) (omega arith))

  -- where they have one parent, its kids tell the order
  pub kids_tell : (x y p q : ℕ) (r : Bool) → has_object t x ≡ true → has_object t y ≡ true → eqb x y ≡ false → Some p ≡ parent_of t x → Some q ≡ parent_of t y → eqb p q ≡ true
      → r ≡ nat_lt (length (before x (kids_of t p))) (length (before y (kids_of t p))) → r ≡ nat_lt (spot t x) (spot t y)
  kids_tell x y p q r x_there y_there apart x_above y_above is told =
      told ∙ kids_order t hangs p x y (kid x p x_there x_above) (subst (λ m. IsKid t m y) (sym (eqb-true p q is)) (kid y q y_there y_above)) (eqb-false x y apart)

  -- two objects, and what stands above them at the depth of the one that is less deep
  pub record AreLifted (a b from_a from_b one other : ℕ) : Type 0 where
    pub a_there : has_object t a ≡ true
    pub b_there : has_object t b ≡ true
    pub a_deep : from_a ≡ depth t a
    pub b_deep : from_b ≡ depth t b
    pub one_is : one ≡ ancestor t (from_a - from_b) a
    pub other_is : other ≡ ancestor t (from_b - from_a) b

  pub are_lifted : (a b from_a from_b up_a up_b one other : ℕ) → has_object t a ≡ true → has_object t b ≡ true → from_a ≡ depth t a → from_b ≡ depth t b
      → up_a ≡ from_a - from_b → up_b ≡ from_b - from_a → one ≡ ancestor t up_a a → other ≡ ancestor t up_b b → AreLifted a b from_a from_b one other
  are_lifted a b from_a from_b up_a up_b one other a_there b_there a_deep b_deep a_up b_up one_is other_is =
      record { a_there = a_there; b_there = b_there; a_deep = a_deep; b_deep = b_deep; one_is = one_is ∙ ap (λ k. ancestor t k a) a_up; other_is = other_is ∙ ap (λ k. ancestor t k b) b_up }

  module _ (a b from_a from_b one other : ℕ) (l : AreLifted a b from_a from_b one other) where
    left : IsAbove t hangs (from_a - from_b) a one
    left = let d = l.a_deep in subst (IsAbove t hangs (from_a - from_b) a) (sym l.one_is) (lifts t hangs (from_a - from_b) a l.a_there (omega arith))

    right : IsAbove t hangs (from_b - from_a) b other
    right = let d = l.b_deep in subst (IsAbove t hangs (from_b - from_a) b) (sym l.other_is) (lifts t hangs (from_b - from_a) b l.b_there (omega arith))

    pub one_there : has_object t one ≡ true
    one_there = left.there

    pub other_there : has_object t other ≡ true
    other_there = right.there

    pub level : depth t one ≡ depth t other
    level =
        let x = left.deep in let y = right.deep in
        let d = l.a_deep in let e = l.b_deep in
        omega arith

    -- where one is above the other, it comes first
    pub one_above : one ≡ other → nat_lt from_a from_b ≡ nat_lt (spot t a) (spot t b)
    one_above met =
        let same = ap (spot t) met in
        let x = left.from in let y = right.from in
        elim (leb_tells (suc from_a) from_b) [
          | inl (e, less) ↦
              let own = ap (spot t) (l.one_is ∙ ap (λ k. ancestor t k a) (none from_a from_b (omega arith))) in
              e ∙ sym (lt-ltb (spot t a) (spot t b) (omega arith))
          | inr (e, most) ↦
              let own = ap (spot t) (l.other_is ∙ ap (λ k. ancestor t k b) (none from_b from_a (omega arith))) in
              e ∙ sym (le-ltb (spot t a) (spot t b) (omega arith))
        ]
      where
        none : (m n : ℕ) → m ≤ n → m - n ≡ 0
        none m n low = omega arith

    -- else they come in the order of what is above them
    pub as_above : (r : Bool) → eqb one other ≡ false → r ≡ nat_lt (spot t one) (spot t other) → r ≡ nat_lt (spot t a) (spot t b)
    as_above r apart told =
        let away = level_apart t hangs (depth t other) one other level refl one_there other_there (eqb-false one other apart) in
        let xf = left.from in let xt = left.to in
        let yf = right.from in let yt = right.to in
        let xs = not_empty t hangs a in let ys = not_empty t hangs b in
        told ∙ in_branches t hangs one other a b away (omega arith) (omega arith) (omega arith) (omega arith)
