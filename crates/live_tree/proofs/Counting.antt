-- How many nodes are on the way up from one.
use Rattle.std.proofs.Common.{◌≡◌, inl, inr, ℕ, zero, suc, ◌+◌, ◌<◌, ◌≤◌, List, [], ◌∷◌, length, true, Contains, sym, ap, subst, ◌∙◌, eqb, arith}
use Rattle.std.specs.Cmp.{nat_eq_equiv}
use Rattle.std.proofs.lemmas.Bool.{eqb-true}
use Rattle.std.proofs.lemmas.Bool.Decides.{eqb_tells}
use Rattle.std.proofs.lemmas.Map.Made.{length-le_from_is_member}
use Rattle.std.proofs.lemmas.Map.Views.{Contains-from_any}
use Rattle.ax_base.specs.Document.{Document, has, root, children, lineage, ancestors, depth}
use Rattle.ax_base.specs.Trees.{IsTree, HasNoRepeats}
use Rattle.ax_base.proofs.Joins.{Contains-cases}
use Rattle.ax_base.proofs.KidsLaws.{lineage-ancestors}
use Rattle.ax_base.proofs.Places.{has_children, lineage-child, lineage-root}
use Rattle.ax_base.proofs.Repeats.{no_repeats-nil, no_repeats-cons}
use Rattle.ax_dom.specs.Among.{is_in, IsClosedUp}
use Rattle.ax_record.proofs.Walking.{distinct}

module _ (ns : List ℕ) where
  few_among : (xs : List ℕ) → HasNoRepeats xs → ((q : ℕ) → Contains xs q → is_in ns q ≡ true) → length xs ≤ length ns
  few_among xs once inside = length-le_from_is_member {eq = eqb} nat_eq_equiv xs ns (distinct xs once) (λ q there. inside q (Contains-from_any eqb-true q xs there))

module _ (d : Document) (t : IsTree d) (ns : List ℕ) where
  module _ (closed : IsClosedUp d ns) where
    -- a node and its ancestors are different nodes among them
    abbrev Climbs : (List ℕ) → ℕ → Type 0
    Climbs above n = HasNoRepeats above × ((a : ℕ) → Contains above a → (t.level a ≤ t.level n) × (is_in ns a ≡ true))

    one_climb : (n : ℕ) → is_in ns n ≡ true → Climbs (n ∷ []) n
    one_climb n on = (
      no_repeats-cons n [] (λ inside. absurd (omega arith)) no_repeats-nil,
      λ a inside. elim (Contains-cases a n [] inside) [
        | inl is ↦ (let same : t.level a ≡ t.level n = ap t.level (sym is) in (omega arith, ap (is_in ns) (sym is) ∙ on))
        | inr none ↦ absurd (omega arith)
      ],
    )

    more_climb : (n p : ℕ) (above : List ℕ) → is_in ns n ≡ true → t.level p < t.level n → Climbs above p → Climbs (n ∷ above) n
    more_climb n p above on higher rest = (
      no_repeats-cons n above (λ inside. let low = (rest.1 n inside).0 in absurd (omega arith)) rest.0,
      λ a inside. elim (Contains-cases a n above inside) [
        | inl is ↦ (let same : t.level a ≡ t.level n = ap t.level (sym is) in (omega arith, ap (is_in ns) (sym is) ∙ on))
        | inr more ↦ (let r = rest.1 a more in let low = r.0 in (omega arith, r.1))
      ],
    )

    -- from the parent on, and then the node
    from_parent : (n p : ℕ) → Contains (children d p) n → is_in ns n ≡ true → Climbs (lineage d p) p → Climbs (lineage d n) n
    from_parent n p child on rest =
        let e = t.deeper p n child in
        let higher : t.level p < t.level n = omega arith in
        subst (λ a. Climbs a n) (sym (lineage-child d t p n child)) (more_climb n p (lineage d p) on higher rest)

    from_root : (n : ℕ) → n ≡ root → is_in ns n ≡ true → Climbs (lineage d n) n
    from_root n is on = subst (λ m. is_in ns m ≡ true → Climbs (lineage d m) m) (sym is) (λ top. subst (λ a. Climbs a root) (sym (lineage-root d t)) (one_climb root top)) on

    climbs : (l n : ℕ) → t.level n ≤ l → has d n ≡ true → is_in ns n ≡ true → Climbs (lineage d n) n
    climbs zero n fits there on = elim (eqb_tells n root) [
      | inl (_, is) ↦ from_root n is on
      | inr (_, apart) ↦ (let up = t.hung n there apart in let higher = t.deeper up.0 n up.1 in absurd (omega arith))
    ]
    climbs (suc l) n fits there on = elim (eqb_tells n root) [
      | inl (_, is) ↦ from_root n is on
      | inr (_, apart) ↦
          (let up = t.hung n there apart in
          let higher = t.deeper up.0 n up.1 in
          from_parent n up.0 up.1 on (climbs l up.0 (omega arith) (has_children d up.0 n up.1) (closed up.0 n up.1 on)))
    ]

    -- the node that has the focus and its ancestors are no more than they are
    pub focus_few : (n : ℕ) → has d n ≡ true → is_in ns n ≡ true → depth d n + 1 ≤ length ns
    focus_few n there on =
        let all = climbs (t.level n) n (omega arith) there on in
        let few = few_among ns (lineage d n) all.0 (λ q inside. (all.1 q inside).1) in
        let is : length (lineage d n) ≡ length (ancestors d n) + 1 = ap length (lineage-ancestors d t n there) ∙ grind arith in
        omega arith
