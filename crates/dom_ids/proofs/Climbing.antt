-- What a climb from a node takes.
use Rattle.std.proofs.Common.{◌≡◌, ◌⊎◌, inl, inr, ℕ, ◌+◌, ◌<◌, ◌≤◌, List, [], ◌∷◌, take, get_or, length, Bool, true, false, ◌||◌, Option, Some, None, refl, sym, ap, subst, ◌∙◌, arith}
use Rattle.std.specs.Prelude.{nat_eq}
use Rattle.std.specs.List.{list_any}
use Rattle.std.specs.Ordering.{nat_cmp}
use Rattle.std.specs.BTreeSet.{insert_key}
use Rattle.std.proofs.lemmas.Bool.{false≢true, or_left, or_right, eqb-true}
use Rattle.std.proofs.lemmas.List.{take_all}
use Rattle.std.proofs.lemmas.List.Folds.{list_any-append}
use Rattle.ax_base.specs.Document.{Document, parent, IsChild}
use Rattle.ax_base.specs.Trees.{IsTree}
use Rattle.ax_base.proofs.Lookups.{finds, finds_is, finds_same, found_is, list_any-insert_key}
use Rattle.ax_base.proofs.Places.{parent-child}
use Rattle.ax_dom.specs.Among.{is_in, IsClosedUp}
use Rattle.ax_dom.proofs.Walks.{child_from_parent}
use Rattle.dom_ids.specs.Ordering.{AreWaysTo}
use Rattle.dom_ids.proofs.Changes.{one_more}
use Rattle.dom_ids.proofs.Tests.{mem, is_in_mem}

pub after_cases : (q k : ℕ) (ks : List ℕ) → is_in (insert_key nat_cmp ks k) q ≡ true → (q ≡ k) ⊎ (is_in ks q ≡ true)
after_cases q k ks on = go (finds q k) refl (list_any-insert_key q k ks ∙ sym (is_in_mem (insert_key nat_cmp ks k) q) ∙ on)
  where
    go : (b : Bool) → finds q k ≡ b → (b || mem ks q) ≡ true → (q ≡ k) ⊎ (is_in ks q ≡ true)
    go true is on = inl (found_is q k is)
    go false is on = inr (is_in_mem ks q ∙ on)

pub after_old : (q k : ℕ) (ks : List ℕ) → is_in ks q ≡ true → is_in (insert_key nat_cmp ks k) q ≡ true
after_old q k ks on = is_in_mem (insert_key nat_cmp ks k) q ∙ sym (list_any-insert_key q k ks) ∙ or_right (finds q k) (mem ks q) (sym (is_in_mem ks q) ∙ on)

pub after_new : (k : ℕ) (ks : List ℕ) → is_in (insert_key nat_cmp ks k) k ≡ true
after_new k ks = is_in_mem (insert_key nat_cmp ks k) k ∙ sym (list_any-insert_key k k ks) ∙ or_left (finds k k) (mem ks k) (finds_same k k refl)

-- what a climb has done
pub record Climbing (d : Document) (old now : List ℕ) (id at : ℕ) : Type 0 where
  pub near : (p c : ℕ) → IsChild d p c → is_in now c ≡ true → (is_in now p ≡ true) ⊎ (p ≡ at)
  pub keeps : (n : ℕ) → is_in old n ≡ true → is_in now n ≡ true
  pub added : (at ≡ id) ⊎ (is_in now id ≡ true)

pub climb_first : (d : Document) (old : List ℕ) (id : ℕ) → IsClosedUp d old → Climbing d old old id id
climb_first d old id closed = record {
  near = λ p c child on. inl (closed p c child on);
  keeps = λ n on. on;
  added = inl refl;
}

module _ (d : Document) (t : IsTree d) (old now : List ℕ) (id at : ℕ) (far : Climbing d old now id at) where
  -- it ends at a node that is there
  pub end_closed : true ≡ is_in now at → IsClosedUp d now
  end_closed on p c child there = elim (far.near p c child there) [ inl up ↦ up | inr is ↦ ap (is_in now) is ∙ sym on ]

  pub end_added : true ≡ is_in now at → is_in now id ≡ true
  end_added on = elim far.added [ inl is ↦ ap (is_in now) (sym is) ∙ sym on | inr was ↦ was ]

  module _ (more : List ℕ) (adds : more ≡ insert_key nat_cmp now at) where
    new_cases : (q : ℕ) → is_in more q ≡ true → (q ≡ at) ⊎ (is_in now q ≡ true)
    new_cases q on = after_cases q at now (ap (λ ks. is_in ks q) (sym adds) ∙ on)

    new_old : (q : ℕ) → is_in now q ≡ true → is_in more q ≡ true
    new_old q on = ap (λ ks. is_in ks q) adds ∙ after_old q at now on

    new_at : is_in more at ≡ true
    new_at = ap (λ ks. is_in ks at) adds ∙ after_new at now

    pub more_keeps : (n : ℕ) → is_in old n ≡ true → is_in more n ≡ true
    more_keeps n on = new_old n (far.keeps n on)

    pub more_added : is_in more id ≡ true
    more_added = elim far.added [ inl is ↦ ap (is_in more) (sym is) ∙ new_at | inr was ↦ new_old id was ]

    more_near : (p c : ℕ) → IsChild d p c → is_in more c ≡ true → (is_in more p ≡ true) ⊎ ((c ≡ at) × IsChild d p at)
    more_near p c child on = elim (new_cases c on) [
      | inl is ↦ inr (is, subst (IsChild d p) is child)
      | inr was ↦ (elim (far.near p c child was) [ inl up ↦ inl (new_old p up) | inr same ↦ inl (ap (is_in more) same ∙ new_at) ])
    ]

    -- the top of the tree was added
    pub top_closed : None ≡ parent d at → IsClosedUp d more
    top_closed none p c child on = elim (more_near p c child on) [ inl up ↦ up | inr (_, hung) ↦ absurd (apart (none ∙ parent-child d t p at hung)) ]
      where
        apart : {X : Type 0} {x : X} → None ≡ Some x → ⊥
        apart e = cc

    -- one node was added, and its parent is next
    pub climb_more : (up : ℕ) → Some up ≡ parent d at → Climbing d old more id up
    climb_more up is =
        let child : IsChild d up at = child_from_parent d at up (sym is) in
        record {
          near = λ p c below on. elim (more_near p c below on) [ inl there ↦ inl there | inr (_, hung) ↦ inr (t.one_parent p up at hung child) ];
          keeps = more_keeps;
          added = inr more_added;
        }

-- whether a node is among one more
more_in : (ns : List ℕ) (i x n : ℕ) → i < length ns → x ≡ get_or ns i x → is_in (take (i + 1) ns) n ≡ true → (is_in (take i ns) n ≡ true) ⊎ (n ≡ x)
more_in ns i x n low is on = go (is_in (take i ns) n) refl (sym (list_any-append (nat_eq n) (take i ns) (x ∷ [])) ∙ ap (λ l. is_in l n) (sym (one_more ns i x low is)) ∙ on)
  where
    go : (b : Bool) → is_in (take i ns) n ≡ b → (b || (nat_eq n x || false)) ≡ true → (is_in (take i ns) n ≡ true) ⊎ (n ≡ x)
    go true was on = inl was
    go false was on = inr (eqb-true n x (lone (nat_eq n x) on))
      where
        lone : (b : Bool) → (b || false) ≡ true → b ≡ true
        lone true e = refl
        lone false e = e

-- the ways to no nodes, to one more, and to all
pub no_ways : (d : Document) (ns : List ℕ) → AreWaysTo d (take 0 ns) []
no_ways d ns = record { all = λ n on. on; closed = λ p c child on. absurd (false≢true on) }

pub more_ways : (d : Document) (ns : List ℕ) (i x : ℕ) (ways more : List ℕ) → i < length ns → x ≡ get_or ns i x → AreWaysTo d (take i ns) ways → IsClosedUp d more → is_in more x ≡ true → ((n : ℕ) → is_in ways n ≡ true → is_in more n ≡ true) → AreWaysTo d (take (i + 1) ns) more
more_ways d ns i x ways more low is far closed added keeps = record {
  all = λ n on. elim (more_in ns i x n low is on) [ inl was ↦ keeps n (far.all n was) | inr here ↦ ap (is_in more) here ∙ added ];
  closed = closed;
}

pub all_ways : (d : Document) (ns : List ℕ) (i : ℕ) (ways : List ℕ) → length ns ≤ i → AreWaysTo d (take i ns) ways → AreWaysTo d ns ways
all_ways d ns i ways past far = record { all = λ n on. far.all n (ap (λ l. is_in l n) (take_all i ns past) ∙ on); closed = far.closed }

-- a set of some nodes, and of one more
pub more_of : (ns : List ℕ) (i x n : ℕ) (set more : List ℕ) → i < length ns → x ≡ get_or ns i x → is_in set n ≡ is_in (take i ns) n → more ≡ insert_key nat_cmp set x → is_in more n ≡ is_in (take (i + 1) ns) n
more_of ns i x n set more low is same adds =
    ap (λ l. is_in l n) adds ∙ is_in_mem (insert_key nat_cmp set x) n ∙ sym (list_any-insert_key n x set)
    ∙ (λ j. finds_is n x j || (sym (is_in_mem set n) ∙ same) j)
    ∙ turned (nat_eq n x) (is_in (take i ns) n)
    ∙ sym (list_any-append (nat_eq n) (take i ns) (x ∷ []))
    ∙ ap (λ l. is_in l n) (sym (one_more ns i x low is))
  where
    turned : (a b : Bool) → (a || b) ≡ (b || (a || false))
    turned true true = refl
    turned true false = refl
    turned false true = refl
    turned false false = refl
