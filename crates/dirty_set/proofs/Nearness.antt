-- What the nodes near marks take.
use Rattle.std.proofs.Common.{◌≡◌, ◌⊎◌, inl, inr, ℕ, zero, suc, ◌+◌, ◌≤◌, ◌<◌, List, [], ◌∷◌, ◌++◌, length, take, get_or, Bool, true, false, ◌||◌, ◌&&◌, Contains, refl, sym, ap, subst, ◌∙◌, arith}
use Rattle.std.specs.Prelude.{filter}
use Rattle.std.specs.List.{list_any}
use Rattle.std.specs.List.Sorted.{IsStrictlyIncreasing}
use Rattle.std.proofs.lemmas.Bool.{false≢true, or_left, or_right}
use Rattle.std.proofs.lemmas.List.{take_all, take_more}
use Rattle.std.proofs.lemmas.List.Kept.{IsStrictlyIncreasing-filter}
use Rattle.std.proofs.lemmas.List.Elements.{Contains-push_cases}
use Rattle.ax_base.specs.Document.{Document, has, ids, lineage, IsChild}
use Rattle.ax_base.specs.Trees.{IsTree}
use Rattle.ax_base.proofs.Places.{among_ids}
use Rattle.ax_base.proofs.Rising.{rising_same}
use Rattle.ax_dom.specs.Subtrees.{subtree}
use Rattle.ax_dom.proofs.Subtrees.{subtree_has, within_child, within_parent, within_level, within_known, lineage_within_subtree}
use Rattle.ax_dom.specs.Among.{is_in, has_within}
use Rattle.dirty_set.specs.Reach.{is_at_marks, nodes_near}
use Rattle.dirty_set.proofs.Tests.{any_at, found}
use Rattle.dirty_set.proofs.Follows.{lineage_head, lineage_known, within_below}
use Rattle.dirty_set.proofs.Edits.{kept_in, in_from, in_is}
use Rattle.dirty_set.proofs.Closing.{has_id, mem_in, in_mem, lineage_below}
use Rattle.dirty_set.proofs.Firsts.{kept_cases}
use Rattle.dirty_set.proofs.Lengths.{fits_in}
use Rattle.dirty_set.specs.NodeSets.{mem, IsUpClosed, IsDownClosed, IsDownClosedBelow, KeepsAll, OnlyAdds}
use Rattle.dirty_set.specs.Near.{ComesFrom, LiesBelow, HasKnownOf, HasBelowOf}

taken_cases : (xs : List ℕ) (i x n : ℕ) → i < length xs → x ≡ get_or xs i x → Contains (take (i + 1) xs) n → Contains (take i xs) n ⊎ (n ≡ x)
taken_cases xs i x n low is inside = elim (Contains-push_cases (take i xs) x n (subst (λ l. Contains l n) (take_more xs i x low ∙ ap (λ y. take i xs ++ y ∷ []) (sym is)) inside)) [ inl old ↦ inl old | inr new ↦ inr (sym new) ]

-- what a loop over nodes to climb from has done
pub record Climbed (d : Document) (old now some : List ℕ) (first steps i : ℕ) : Type 0 where
  pub closed : IsUpClosed d now
  pub all : HasKnownOf d (take i some) now
  pub keeps : KeepsAll old now
  pub only : (n : ℕ) → mem now n ≡ true → (mem old n ≡ true) ⊎ ComesFrom d some n
  pub counted : steps + length old ≤ first + length now
  pub rises : IsStrictlyIncreasing now

pub climbed_first : (d : Document) (old some : List ℕ) (steps : ℕ) → IsUpClosed d old → IsStrictlyIncreasing old → Climbed d old old some steps steps 0
climbed_first d old some steps closed rising = record { closed = closed; rises = rising; all = λ n inside there. absurd (omega arith); keeps = λ n on. on; only = λ n on. inl on; counted = omega arith }

module _ (d : Document) (old now some : List ℕ) (first steps i x : ℕ) (low : i < length some) (is : x ≡ get_or some i x) (far : Climbed d old now some first steps i)
    (after : List ℕ) (last : ℕ) (keeps : KeepsAll now after) (only : (n : ℕ) → mem after n ≡ true → (mem now n ≡ true) ⊎ ((has d x ≡ true) × Contains (lineage d x) n)) (counted : last + length now ≤ steps + length after) where
  pub climbed_keeps : KeepsAll old after
  climbed_keeps n on = keeps n (far.keeps n on)

  pub climbed_only : (n : ℕ) → mem after n ≡ true → (mem old n ≡ true) ⊎ ComesFrom d some n
  climbed_only n on = elim (only n on) [ inl was ↦ far.only n was | inr (there, inside) ↦ inr (x, (i, low, sym is), there, inside) ]

  pub climbed_counted : last + length old ≤ first + length after
  climbed_counted = let c = far.counted in omega arith

  pub climbed_more : IsUpClosed d after → (has d x ≡ true → mem after x ≡ true) → IsStrictlyIncreasing after → Climbed d old after some first last (i + 1)
  climbed_more closed added rising = record {
    rises = rising;
    closed = closed;
    all = λ n inside there. elim (taken_cases some i x n low is inside) [ inl earlier ↦ keeps n (far.all n earlier there) | inr same ↦ ap (mem after) same ∙ added (ap (has d) (sym same) ∙ there) ];
    keeps = climbed_keeps;
    only = climbed_only;
    counted = climbed_counted;
  }

pub climbed_all : (d : Document) (old now some : List ℕ) (first steps i : ℕ) → length some ≤ i → Climbed d old now some first steps i → HasKnownOf d some now
climbed_all d old now some first steps i past far n inside there = far.all n (subst (λ l. Contains l n) (sym (take_all i some past)) inside) there

-- what a loop over roots to walk from has done
pub record Walked (d : Document) (old now roots : List ℕ) (first steps i : ℕ) : Type 0 where
  pub closed : IsDownClosed d now
  pub all : HasBelowOf d (take i roots) now
  pub keeps : KeepsAll old now
  pub only : (n : ℕ) → mem now n ≡ true → (mem old n ≡ true) ⊎ LiesBelow d roots n
  pub counted : steps + length old ≤ first + length now
  pub rises : IsStrictlyIncreasing now

pub walked_first : (d : Document) (old roots : List ℕ) (steps : ℕ) → IsDownClosed d old → IsStrictlyIncreasing old → Walked d old old roots steps steps 0
walked_first d old roots steps closed rising = record { closed = closed; rises = rising; all = λ n below. nothing n below; keeps = λ n on. on; only = λ n on. inl on; counted = omega arith }
  where
    nothing : (n : ℕ) → LiesBelow d [] n → mem old n ≡ true
    nothing n (r, inside, there, below) = absurd (omega arith)

module _ (d : Document) (old now roots : List ℕ) (first steps i x : ℕ) (low : i < length roots) (is : x ≡ get_or roots i x) (far : Walked d old now roots first steps i)
    (after : List ℕ) (last : ℕ) (keeps : KeepsAll now after) (only : (n : ℕ) → mem after n ≡ true → (mem now n ≡ true) ⊎ ((has d x ≡ true) × Contains (subtree d x) n)) (counted : last + length now ≤ steps + length after) where
  pub walked_keeps : KeepsAll old after
  walked_keeps n on = keeps n (far.keeps n on)

  pub walked_only : (n : ℕ) → mem after n ≡ true → (mem old n ≡ true) ⊎ LiesBelow d roots n
  walked_only n on = elim (only n on) [ inl was ↦ far.only n was | inr (there, inside) ↦ inr (x, (i, low, sym is), there, inside) ]

  pub walked_counted : last + length old ≤ first + length after
  walked_counted = let c = far.counted in omega arith

  pub walked_more : IsDownClosed d after → (has d x ≡ true → (n : ℕ) → Contains (subtree d x) n → mem after n ≡ true) → IsStrictlyIncreasing after → Walked d old after roots first last (i + 1)
  walked_more closed within rising = record {
    rises = rising;
    closed = closed;
    all = λ n below. elim (taken_cases roots i x below.0 low is below.1) [
      | inl earlier ↦ keeps n (far.all n (below.0, earlier, below.2, below.3))
      | inr same ↦ within (ap (has d) (sym same) ∙ below.2) n (subst (λ r. Contains (subtree d r) n) same below.3)
    ];
    keeps = walked_keeps;
    only = walked_only;
    counted = walked_counted;
  }

pub walked_all : (d : Document) (old now roots : List ℕ) (first steps i : ℕ) → length roots ≤ i → Walked d old now roots first steps i → HasBelowOf d roots now
walked_all d old now roots first steps i past far n below = far.all n (below.0, subst (λ l. Contains l below.0) (sym (take_all i roots past)) below.1, below.2, below.3)

-- a walk that began where all was closed downwards ends so
pub down_again : (d : Document) (t : IsTree d) (old new : List ℕ) (root : ℕ) → IsDownClosed d old → KeepsAll old new → OnlyAdds old new (subtree d root) → IsDownClosedBelow d new root → IsDownClosed d new
down_again d t old new root closed keeps only near p c child on = elim (only p on) [
  | inl was ↦ keeps c (closed p c child was)
  | inr inside ↦ (elim (near t p c child on) [
    | inl there ↦ there
    | inr high ↦ (let low = within_level d t root p inside in absurd (omega arith))
  ])
]

pub same_bools : (a b : Bool) → (a ≡ true → b ≡ true) → (b ≡ true → a ≡ true) → a ≡ b
same_bools true b from to = sym (from refl)
same_bools false true from to = to refl
same_bools false false from to = refl

pub both_true : (a b : Bool) → (a && b) ≡ true → (a ≡ true) × (b ≡ true)
both_true true b on = (refl, on)
both_true false b on = absurd (false≢true on)

-- a set that holds nothing but what is reached from some, if it began with nothing
pub from_nothing : (A : ℕ → Type 0) (old now : List ℕ) → old ≡ [] → ((n : ℕ) → mem now n ≡ true → (mem old n ≡ true) ⊎ A n) → (n : ℕ) → mem now n ≡ true → A n
from_nothing A old now empty only n on = elim (only n on) [
  | inl none ↦ absurd (false≢true (sym (ap (λ ks. mem ks n) empty) ∙ none))
  | inr from ↦ from
]

module _ (d : Document) (t : IsTree d) where
  -- what has something within that passes has it above too
  pub within_up : (test : ℕ → Bool) (p c : ℕ) → IsChild d p c → has_within d test c ≡ true → has_within d test p ≡ true
  within_up test p c child on =
      let r = found test (subtree d c) on in
      any_at test (subtree d p) r.0 (within_below d t p c r.0 (within_child d t p p c (subtree_has d t p) child) r.1) r.2

  -- a set that is closed upwards has what is above each of its nodes
  pub above_too : (ks : List ℕ) → IsUpClosed d ks → (l n q : ℕ) → t.level q ≤ l → Contains (subtree d n) q → mem ks q ≡ true → mem ks n ≡ true
  above_too ks closed zero n q low inside on = elim (within_parent d t n q inside) [
    | inl is ↦ ap (mem ks) (sym is) ∙ on
    | inr (p, child, above) ↦ (let e = t.deeper p q child in absurd (omega arith))
  ]
  above_too ks closed (suc l) n q low inside on = elim (within_parent d t n q inside) [
    | inl is ↦ ap (mem ks) (sym is) ∙ on
    | inr (p, child, above) ↦ (let e = t.deeper p q child in above_too ks closed l n p (omega arith) above (closed p q child on))
  ]

  -- a node that passes is within each node of its lineage
  pub at_lineage : (test : ℕ → Bool) (n q : ℕ) → has d q ≡ true → Contains (lineage d q) n → test q ≡ true → (has d n ≡ true) × (has_within d test n ≡ true)
  at_lineage test n q there inside on = (lineage_known d 64 q n there inside, any_at test (subtree d n) q (lineage_below d t (t.level q) n q (omega arith) there inside) on)

  pub kept_there : (test : ℕ → Bool) (n : ℕ) → Contains (filter test (ids d)) n → (has d n ≡ true) × (test n ≡ true)
  kept_there test n inside = let r = kept_cases test (ids d) n inside in (has_id d.nodes n r.0, r.1)

  pub there_kept : (test : ℕ → Bool) (n : ℕ) → has d n ≡ true → test n ≡ true → Contains (filter test (ids d)) n
  there_kept test n there on = kept_in test (ids d) n (among_ids d.nodes n there) on

  pub kept_rises : (test : ℕ → Bool) → IsStrictlyIncreasing (filter test (ids d))
  kept_rises test = IsStrictlyIncreasing-filter test (ids d) t.rising

  -- rising ids that have just the nodes that pass are these
  pub kept_is : (test : ℕ → Bool) (ks : List ℕ) → IsStrictlyIncreasing ks → ((n : ℕ) → mem ks n ≡ true → (has d n ≡ true) × (test n ≡ true)) → ((n : ℕ) → has d n ≡ true → test n ≡ true → mem ks n ≡ true) → ks ≡ filter test (ids d)
  kept_is test ks rises goes comes = rising_same ks (filter test (ids d)) rises (kept_rises test)
      (λ n inside. let r = goes n (in_mem ks n inside) in there_kept test n r.0 r.1)
      (λ n inside. let r = kept_there test n inside in mem_in ks n (comes n r.0 r.1))

  -- rising ids that have only nodes that pass are no more than these
  pub kept_few : (test : ℕ → Bool) (ks : List ℕ) → IsStrictlyIncreasing ks → ((n : ℕ) → mem ks n ≡ true → (has d n ≡ true) × (test n ≡ true)) → length ks ≤ length (filter test (ids d))
  kept_few test ks rises goes = fits_in ks (filter test (ids d)) rises (kept_rises test) (λ n inside. let r = goes n (in_mem ks n inside) in there_kept test n r.0 r.1)

  module _ (nodes roots : List ℕ) where
    -- a node is there and has a marked node, or what is at or below a marked root, at it or below it
    abbrev pub IsNear : ℕ → Type 0
    IsNear n = (has d n ≡ true) × (has_within d (is_at_marks nodes roots d) n ≡ true)

    pub above_node : (n : ℕ) → ComesFrom d nodes n → IsNear n
    above_node n (q, among, there, inside) = at_lineage (is_at_marks nodes roots d) n q there inside (or_left (is_in nodes q) (list_any (is_in roots) (lineage d q)) (in_from nodes q among))

    from_root : (q : ℕ) → LiesBelow d roots q → is_at_marks nodes roots d q ≡ true
    from_root q (r, among, there, inside) = or_right (is_in nodes q) (list_any (is_in roots) (lineage d q)) (any_at (is_in roots) (lineage d q) r (lineage_within_subtree d t r q inside) (in_from roots r among))

    pub below_root : (n : ℕ) → LiesBelow d roots n → IsNear n
    below_root n lies = at_lineage (is_at_marks nodes roots d) n n (within_known d t lies.0 n lies.2 lies.3) (lineage_head d n) (from_root n lies)

    pub above_walked : (walked listed : List ℕ) → listed ≡ walked → ((n : ℕ) → mem walked n ≡ true → LiesBelow d roots n) → (n : ℕ) → ComesFrom d listed n → IsNear n
    above_walked walked listed list from n (q, among, there, inside) =
        at_lineage (is_at_marks nodes roots d) n q there inside (from_root q (from q (in_mem walked q (subst (λ l. Contains l q) list among))))

    -- a climb from the nodes, and one from what was walked
    pub both_near : (some ks walked listed : List ℕ) → listed ≡ walked → ((n : ℕ) → mem walked n ≡ true → LiesBelow d roots n) → ((n : ℕ) → mem some n ≡ true → ComesFrom d nodes n) → ((n : ℕ) → mem ks n ≡ true → (mem some n ≡ true) ⊎ ComesFrom d listed n)
        → (n : ℕ) → mem ks n ≡ true → IsNear n
    both_near some ks walked listed list from some_from ks_from n on = elim (ks_from n on) [
      | inl was ↦ above_node n (some_from n was)
      | inr more ↦ above_walked walked listed list from n more
    ]

    pub few_near : (ks : List ℕ) → IsStrictlyIncreasing ks → ((n : ℕ) → mem ks n ≡ true → IsNear n) → length ks ≤ length (nodes_near nodes roots d)
    few_near ks rises goes = kept_few (has_within d (is_at_marks nodes roots d)) ks rises goes

    module _ (walked some ks listed : List ℕ) (below : HasBelowOf d roots walked) (known : HasKnownOf d nodes some) (list : listed ≡ walked) (keeps : KeepsAll some ks) (rest : HasKnownOf d listed ks) (closed : IsUpClosed d ks) where
      source_in : (q : ℕ) → has d q ≡ true → is_at_marks nodes roots d q ≡ true → mem ks q ≡ true
      source_in q there on = go (is_in nodes q) refl on
        where
          go : (b : Bool) → is_in nodes q ≡ b → (b || list_any (is_in roots) (lineage d q)) ≡ true → mem ks q ≡ true
          go true among on = keeps q (known q (in_is nodes q among) there)
          go false among on =
              let r = found (is_in roots) (lineage d q) on in
              rest q (subst (λ l. Contains l q) (sym list) (mem_in walked q (below q (r.0, in_is roots r.0 r.2, lineage_known d 64 q r.0 there r.1, lineage_below d t (t.level q) r.0 q (omega arith) there r.1)))) there

      comes : (n : ℕ) → has d n ≡ true → has_within d (is_at_marks nodes roots d) n ≡ true → mem ks n ≡ true
      comes n there on =
          let r = found (is_at_marks nodes roots d) (subtree d n) on in
          above_too ks closed (t.level r.0) n r.0 (omega arith) r.1 (source_in r.0 (within_known d t n r.0 there r.1) r.2)

      pub near_is : IsStrictlyIncreasing ks → ((n : ℕ) → mem ks n ≡ true → IsNear n) → ks ≡ nodes_near nodes roots d
      near_is rises goes = kept_is (has_within d (is_at_marks nodes roots d)) ks rises goes comes
