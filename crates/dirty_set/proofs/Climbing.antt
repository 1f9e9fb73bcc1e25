-- What a climb from a node takes.
use Rattle.std.proofs.Common.{◌≡◌, ◌⊎◌, inl, inr, ℕ, zero, suc, ◌+◌, ◌≤◌, List, [], ◌∷◌, length, Bool, true, false, ◌||◌, Some, None, Contains, refl, sym, ap, subst, ◌∙◌, arith}
use Rattle.std.specs.List.Sorted.{IsStrictlyIncreasing}
use Rattle.std.specs.Ordering.{nat_cmp, match_ordering}
use Rattle.std.specs.declared.cmp.Ordering.{Ordering}
use Rattle.std.specs.declared.cmp.Ordering.TheVariants.{Less, Equal, Greater}
use Rattle.std.specs.BTreeSet.{insert_key}
use Rattle.std.specs.FinMap.{nat_cmp-IsAntisymmetric}
use Rattle.std.proofs.lemmas.Bool.{false≢true, or_parts, or_left, or_right}
use Rattle.std.proofs.lemmas.Bool.Decides.{eqb_tells}
use Rattle.ax_base.specs.Document.{Document, has, root, parent, lineage, lineage_within, IsChild}
use Rattle.ax_base.specs.Trees.{IsTree}
use Rattle.ax_base.proofs.Joins.{Contains-cases}
use Rattle.ax_base.proofs.Lookups.{finds, finds_same, found_is, list_any-insert_key, rising-insert_key}
use Rattle.ax_base.proofs.Membership.{Contains-head, Contains-tail}
use Rattle.ax_base.proofs.Places.{has_children, parent-child, lineage-child, lineage-root}
use Rattle.ax_dom.proofs.Walks.{child_from_parent}
use Rattle.dirty_set.specs.NodeSets.{mem, IsUpClosed, KeepsAll, OnlyAdds}

-- a new id makes a set larger by one
pub length-insert_key : (k : ℕ) (ks : List ℕ) → mem ks k ≡ false → length (insert_key nat_cmp ks k) ≡ suc (length ks)
length-insert_key k [] off = refl
length-insert_key k (x ∷ xs) off = go (nat_cmp k x) refl (length-insert_key k xs (or_parts (finds k x) (mem xs k) off).1)
  where
    go : (r : Ordering) → nat_cmp k x ≡ r → length (insert_key nat_cmp xs k) ≡ suc (length xs) → length (match_ordering r (k ∷ x ∷ xs) (x ∷ xs) (x ∷ insert_key nat_cmp xs k)) ≡ suc (suc (length xs))
    go Less is rest = refl
    go Equal is rest = absurd (false≢true (sym (or_parts (finds k x) (mem xs k) off).0 ∙ finds_same k x (nat_cmp-IsAntisymmetric k x is)))
    go Greater is rest = ap suc rest

pub after_cases : (q k : ℕ) (ks : List ℕ) → mem (insert_key nat_cmp ks k) q ≡ true → (q ≡ k) ⊎ (mem ks q ≡ true)
after_cases q k ks on = go (finds q k) refl (list_any-insert_key q k ks ∙ on)
  where
    go : (b : Bool) → finds q k ≡ b → (b || mem ks q) ≡ true → (q ≡ k) ⊎ (mem ks q ≡ true)
    go true is on = inl (found_is q k is)
    go false is on = inr on

pub after_old : (q k : ℕ) (ks : List ℕ) → mem ks q ≡ true → mem (insert_key nat_cmp ks k) q ≡ true
after_old q k ks on = sym (list_any-insert_key q k ks) ∙ or_right (finds q k) (mem ks q) on

pub after_new : (k : ℕ) (ks : List ℕ) → mem (insert_key nat_cmp ks k) k ≡ true
after_new k ks = sym (list_any-insert_key k k ks) ∙ or_left (finds k k) (mem ks k) (finds_same k k refl)

head_in : (d : Document) (n : ℕ) → Contains (lineage d n) n
unfolding lineage_within
head_in d n = Contains-head n _

-- with a node its parent is in a lineage
none_above : (d : Document) (t : IsTree d) (id c p : ℕ) → id ≡ root → Contains (lineage d id) c → IsChild d p c → ⊥
none_above d t id c p is inside child = elim (Contains-cases c root [] (subst (λ xs. Contains xs c) (ap (lineage d) is ∙ lineage-root d t) inside)) [
  | inl at ↦ (let e = t.deeper p c child in let f : t.level root ≡ t.level c = ap t.level at in let r = t.root_level in omega arith)
  | inr more ↦ nothing more
]
  where
    nothing : Contains [] c → ⊥
    nothing more = omega arith

below_top : (d : Document) (t : IsTree d) (up id c p : ℕ) → IsChild d up id → Contains (lineage d id) c → IsChild d p c → (Contains (lineage d up) c → Contains (lineage d up) p) → Contains (lineage d id) p
below_top d t up id c p hung inside child rest = subst (λ xs. Contains xs p) (sym (lineage-child d t up id hung)) (Contains-tail id p (lineage d up) (elim (Contains-cases c id (lineage d up) (subst (λ xs. Contains xs c) (lineage-child d t up id hung) inside)) [
  | inl at ↦ subst (Contains (lineage d up)) (t.one_parent up p c (subst (IsChild d up) at hung) child) (head_in d up)
  | inr more ↦ rest more
]))

lineage_up : (d : Document) (t : IsTree d) (l id c p : ℕ) → t.level id ≤ l → has d id ≡ true → Contains (lineage d id) c → IsChild d p c → Contains (lineage d id) p
lineage_up d t zero id c p low there inside child = elim (eqb_tells id root) [
  | inl (_, is) ↦ absurd (none_above d t id c p is inside child)
  | inr (_, apart) ↦ (let up = t.hung id there apart in let e = t.deeper up.0 id up.1 in absurd (omega arith))
]
lineage_up d t (suc l) id c p low there inside child = elim (eqb_tells id root) [
  | inl (_, is) ↦ absurd (none_above d t id c p is inside child)
  | inr (_, apart) ↦ (let up = t.hung id there apart in let e = t.deeper up.0 id up.1 in
      below_top d t up.0 id c p up.1 inside child (λ more. lineage_up d t l up.0 c p (omega arith) (has_children d up.0 id up.1) more child))
]

-- what a climb has done
pub record Climbing (d : Document) (old now : List ℕ) (id at first steps : ℕ) : Type 0 where
  pub near : (p c : ℕ) → IsChild d p c → mem now c ≡ true → (mem now p ≡ true) ⊎ (p ≡ at)
  pub above : Contains (lineage d id) at
  pub known : has d at ≡ true
  pub keeps : KeepsAll old now
  pub only : OnlyAdds old now (lineage d id)
  pub counted : steps + length old ≤ first + length now
  pub rises : IsStrictlyIncreasing now
  pub added : (at ≡ id) ⊎ (mem now id ≡ true)

pub climb_first : (d : Document) (old : List ℕ) (id steps : ℕ) → has d id ≡ true → IsUpClosed d old → IsStrictlyIncreasing old → Climbing d old old id id steps steps
climb_first d old id steps there closed rising = record {
  near = λ p c child on. inl (closed p c child on);
  above = head_in d id;
  known = there;
  keeps = λ n on. on;
  only = λ n on. inl on;
  counted = omega arith;
  rises = rising;
  added = inl refl;
}

module _ (d : Document) (t : IsTree d) (old now : List ℕ) (id at first steps : ℕ) (there : has d id ≡ true) (far : Climbing d old now id at first steps) where
  -- it ends at a node that is there
  pub end_closed : true ≡ mem now at → IsUpClosed d now
  end_closed on p c child there = elim (far.near p c child there) [ inl up ↦ up | inr is ↦ ap (mem now) is ∙ sym on ]

  pub end_added : true ≡ mem now at → mem now id ≡ true
  end_added on = elim far.added [ inl is ↦ ap (mem now) (sym is) ∙ sym on | inr was ↦ was ]

  module _ (off : false ≡ mem now at) (more : List ℕ) (adds : more ≡ insert_key nat_cmp now at) where
    new_cases : (q : ℕ) → mem more q ≡ true → (q ≡ at) ⊎ (mem now q ≡ true)
    new_cases q on = after_cases q at now (ap (λ ks. mem ks q) (sym adds) ∙ on)

    new_old : (q : ℕ) → mem now q ≡ true → mem more q ≡ true
    new_old q on = ap (λ ks. mem ks q) adds ∙ after_old q at now on

    new_at : mem more at ≡ true
    new_at = ap (λ ks. mem ks at) adds ∙ after_new at now

    pub more_keeps : KeepsAll old more
    more_keeps n on = new_old n (far.keeps n on)

    pub more_only : OnlyAdds old more (lineage d id)
    more_only n on = elim (new_cases n on) [ inl is ↦ inr (subst (Contains (lineage d id)) (sym is) far.above) | inr was ↦ far.only n was ]

    pub more_counted : (last : ℕ) → last ≡ steps + 1 → last + length old ≤ first + length more
    more_counted last one = let l = ap length adds ∙ length-insert_key at now (sym off) in let c = far.counted in omega arith

    pub more_rises : IsStrictlyIncreasing more
    more_rises = subst IsStrictlyIncreasing (sym adds) (rising-insert_key at now far.rises)

    pub more_added : mem more id ≡ true
    more_added = elim far.added [ inl is ↦ ap (mem more) (sym is) ∙ new_at | inr was ↦ new_old id was ]

    more_near : (p c : ℕ) → IsChild d p c → mem more c ≡ true → (mem more p ≡ true) ⊎ ((c ≡ at) × IsChild d p at)
    more_near p c child on = elim (new_cases c on) [
      | inl is ↦ inr (is, subst (IsChild d p) is child)
      | inr was ↦ (elim (far.near p c child was) [ inl up ↦ inl (new_old p up) | inr same ↦ inl (ap (mem more) same ∙ new_at) ])
    ]

    -- the top of the tree was added
    pub top_closed : None ≡ parent d at → IsUpClosed d more
    top_closed none p c child on = elim (more_near p c child on) [ inl up ↦ up | inr (_, hung) ↦ absurd (apart (none ∙ parent-child d t p at hung)) ]
      where
        apart : {X : Type 0} {x : X} → None ≡ Some x → ⊥
        apart e = cc

    -- one node was added, and its parent is next
    pub climb_more : (up last : ℕ) → Some up ≡ parent d at → last ≡ steps + 1 → Climbing d old more id up first last
    climb_more up last is one =
        let child : IsChild d up at = child_from_parent d at up (sym is) in
        record {
          near = λ p c below on. elim (more_near p c below on) [ inl there ↦ inl there | inr (_, hung) ↦ inr (t.one_parent p up at hung child) ];
          above = lineage_up d t (t.level id) id at up (omega arith) there far.above child;
          known = has_children d up at child;
          keeps = more_keeps;
          only = more_only;
          counted = more_counted last one;
          rises = more_rises;
          added = inr more_added;
        }
