-- Loops over nodes in an order from above, forward and backward, whatever is kept of nodes.
use Rattle.std.proofs.Common.{◌≡◌, ◌⊎◌, inl, inr, ℕ, zero, suc, ◌+◌, ◌<◌, ◌≤◌, ◌||◌, List, [], ◌∷◌, length, take, drop, get_or, Bool, true, false, refl, sym, ap, subst, ◌∙◌, arith}
use Rattle.std.proofs.lemmas.Bool.{false≢true}
use Rattle.std.proofs.lemmas.Bool.Decides.{eqb_tells}
use Rattle.ax_base.specs.Document.{Document, has, IsChild}
use Rattle.ax_base.specs.Trees.{IsTree}
use Rattle.ax_dom.specs.Among.{is_in}
use Rattle.node_order.specs.Orders.{IsFromAbove, AreRightBefore, AreRightFrom}
use Rattle.node_order.proofs.Members.{either, taken_cases, parted, place_of, taken_less, at_place}

none_taken : (n : ℕ) → is_in [] n ≡ true → ⊥
none_taken n on = false≢true on

module _ (d : Document) (ns : List ℕ) where
  -- Forward: at first what is none of the nodes is right,
  pub before_begun : (P : ℕ → Type 0) → ((n : ℕ) → has d n ≡ true → is_in ns n ≡ false → P n) → AreRightBefore d ns 0 P
  before_begun P others n there which = elim which [ inl off ↦ others n there off | inr on ↦ absurd (none_taken n on) ]

  -- then one more,
  pub before_more : (P Q : ℕ → Type 0) (i x : ℕ) → i < length ns → x ≡ get_or ns i x → AreRightBefore d ns i P → ((n : ℕ) → P n → Q n) → Q x → AreRightBefore d ns (i + 1) Q
  before_more P Q i x low is right keeps here n there which = elim which [
    | inl off ↦ keeps n (right n there (inl off))
    | inr on ↦ (elim (taken_cases ns i x n low is on) [
      | inl before ↦ keeps n (right n there (inr before))
      | inr same ↦ subst Q (sym same) here
    ])
  ]

  -- and at last all is right.
  pub before_all : (P : ℕ → Type 0) (i : ℕ) → i ≡ length ns → AreRightBefore d ns i P → (n : ℕ) → has d n ≡ true → P n
  before_all P i end right n there = elim (either (is_in ns n)) [
    | inl off ↦ right n there (inl off)
    | inr on ↦ right n there (inr (ap (λ l. is_in l n) (ap (λ k. take k ns) end ∙ whole ns) ∙ on))
  ]
    where
      whole : (l : List ℕ) → take (length l) l ≡ l
      whole [] = refl
      whole (y ∷ ys) = ap (λ r. y ∷ r) (whole ys)

  -- The parent of the node at hand is right.
  pub parent_right : (t : IsTree d) (order : IsFromAbove d ns) (P : ℕ → Type 0) (i p x : ℕ) → i < length ns → x ≡ get_or ns i x → AreRightBefore d ns i P → has d p ≡ true → IsChild d p x → P p
  parent_right t order P i p x low is right there child = right p there (inr (order.behind i p x low is child))

  -- Backward: at first what is none of the nodes is right,
  pub from_begun : (P : ℕ → Type 0) (i : ℕ) → i ≡ length ns → ((n : ℕ) → has d n ≡ true → is_in ns n ≡ false → P n) → AreRightFrom d ns i P
  from_begun P i end others n there which = elim which [ inl off ↦ others n there off | inr on ↦ absurd (none_taken n (sym (ap (λ l. is_in l n) (ap (λ k. drop k ns) end ∙ nothing ns)) ∙ on)) ]
    where
      nothing : (l : List ℕ) → drop (length l) l ≡ []
      nothing [] = refl
      nothing (y ∷ ys) = nothing ys

  -- then one more,
  pub from_more : (P Q : ℕ → Type 0) (i x : ℕ) → i < length ns → x ≡ get_or ns i x → AreRightFrom d ns (i + 1) P → ((n : ℕ) → P n → Q n) → Q x → AreRightFrom d ns i Q
  from_more P Q i x low is right keeps here n there which = elim which [
    | inl off ↦ keeps n (right n there (inl off))
    | inr on ↦ (elim (eqb_tells n x) [
      | inl (_, same) ↦ subst Q (sym same) here
      | inr (apart, _) ↦ keeps n (right n there (inr (sym (ap (λ b. b || is_in (drop (i + 1) ns) n) apart) ∙ sym (ap (λ l. is_in l n) (at_place ns i x low is)) ∙ on)))
    ])
  ]

  -- and at last all is right.
  pub from_all : (P : ℕ → Type 0) → AreRightFrom d ns 0 P → (n : ℕ) → has d n ≡ true → P n
  from_all P right n there = elim (either (is_in ns n)) [ inl off ↦ right n there (inl off) | inr on ↦ right n there (inr on) ]

  -- Each child of the node at hand is right.
  pub children_right : (t : IsTree d) (order : IsFromAbove d ns) (P : ℕ → Type 0) (i x c : ℕ) → i < length ns → x ≡ get_or ns i x → AreRightFrom d ns (i + 1) P → IsChild d x c → P c
  children_right t order P i x c low is right child = right c (t.known x c child) (which (is_in ns c) refl)
    where
      -- a child does not stand before its parent
      not_before : is_in (take (i + 1) ns) c ≡ true → ⊥
      not_before on =
          let at = place_of (take (i + 1) ns) c on in
          let early = order.behind at.0 x c (placed at.0 at.1) (stands at.0 at.1 at.2) child in
          false≢true (sym (order.once i x low is) ∙ taken_less ns at.0 i x (near at.0 at.1) early)
        where
          near : (j : ℕ) → j < length (take (i + 1) ns) → j ≤ i
          near j less = let short = take_short ns (i + 1) in omega arith
            where
              take_short : (l : List ℕ) (k : ℕ) → length (take k l) ≤ k
              take_short l zero = omega arith
              take_short [] (suc k) = omega arith
              take_short (y ∷ ys) (suc k) = let rest = take_short ys k in omega arith

          placed : (j : ℕ) → j < length (take (i + 1) ns) → j < length ns
          placed j less = let up = near j less in omega arith

          stands : (j : ℕ) → j < length (take (i + 1) ns) → c ≡ get_or (take (i + 1) ns) j c → c ≡ get_or ns j c
          stands j less here = here ∙ taken_at ns (i + 1) j less
            where
              taken_at : (l : List ℕ) (k j : ℕ) → j < length (take k l) → get_or (take k l) j c ≡ get_or l j c
              taken_at l zero j less = absurd (omega arith)
              taken_at [] (suc k) j less = refl
              taken_at (y ∷ ys) (suc k) zero less = refl
              taken_at (y ∷ ys) (suc k) (suc j) less = taken_at ys k j (omega arith)

      which : (b : Bool) → is_in ns c ≡ b → (is_in ns c ≡ false) ⊎ (is_in (drop (i + 1) ns) c ≡ true)
      which false off = inl off
      which true on = inr (elim (either (is_in (take (i + 1) ns) c)) [
        | inl off ↦ sym (ap (λ b. b || is_in (drop (i + 1) ns) c) off) ∙ sym (parted ns (i + 1) c) ∙ on
        | inr before ↦ absurd (not_before before)
      ])
