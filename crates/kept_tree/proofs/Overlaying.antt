-- Entries that are renewed at some ids.
use Rattle.std.proofs.Common.{◌≡◌, ◌≢◌, ◌⊎◌, inl, inr, ℕ, List, [], ◌∷◌, Bool, true, false, cond, ◌||◌, Option, Some, None, is_some, Contains, refl, sym, ap, subst, ◌∙◌, eqb, arith}
use Rattle.std.specs.Cmp.{nat_eq_equiv}
use Rattle.std.specs.Ordering.{nat_cmp}
use Rattle.std.specs.Map.{remove_entry}
use Rattle.std.specs.BTreeMap.{is_at}
use Rattle.std.specs.List.Sorted.{IsStrictlyIncreasing}
use Rattle.std.proofs.lemmas.Map.Views.{list_any-from_Contains, Contains-from_any}
use Rattle.std.proofs.lemmas.List.Kept.{AllPairs-from_increasing}
use Rattle.std.proofs.lemmas.Bool.{eqb-true, false≢true}
use Rattle.std.proofs.lemmas.Bool.Decides.{eqb_tells}
use Rattle.ax_base.proofs.Lookups.{finds, finds_is, finds_tells, found_is, lookup-insert_entry}
use Rattle.ax_base.proofs.Membership.{Contains-head, Contains-tail}
use Rattle.ax_base.proofs.Rising.{Rises, rises_from}
use Rattle.ax_base.proofs.SameLookups.{same_lookups}
use Rattle.ax_dom.specs.Among.{is_in}
use Rattle.ax_record.specs.declared.record.Record.{Record}
use Rattle.ax_record.specs.Tree.{Tree, entry_at, record_at, object_ids, has_object}
use Rattle.ax_record.specs.ObjectTrees.{IsObjectTree}
use Rattle.ax_record.proofs.Walking.{id_there}
use Rattle.ax_batch.proofs.Entries.{Rise, rise_without, rise_with, lookup_without}
use Rattle.kept_tree.specs.Renewing.{with_at, renewed, renewed_tree, IsRenewed}

abbrev Entries : Type 0
Entries = List (ℕ × Record)

rise_at : (es : Entries) (n : ℕ) (o : Option Record) → Rise es → Rise (with_at es n o)
rise_at es n None rises = rise_without n es rises
rise_at es n (Some r) rises = rise_with n r es rises

-- the ids go on to rise
pub renewed_rises : (es fresh : Entries) (ns : List ℕ) → Rise es → Rise (renewed es fresh ns)
renewed_rises es fresh [] rises = rises
renewed_rises es fresh (n ∷ ns) rises = renewed_rises (with_at es n (entry_at fresh n)) fresh ns (rise_at es n (entry_at fresh n) rises)

flipped : (a b : ℕ) → finds a b ≡ finds b a
flipped a b = finds_is a b ∙ turned (eqb_tells a b) ∙ sym (finds_is b a)
  where
    turned : ((eqb a b ≡ true) × (a ≡ b)) ⊎ ((eqb a b ≡ false) × (a ≡ b → ⊥)) → eqb a b ≡ eqb b a
    turned (inl (on, is)) = λ i. eqb (is i) (sym is i)
    turned (inr (off, apart)) = off ∙ elim (eqb_tells b a) [ inl (on, is) ↦ absurd (apart (sym is)) | inr (away, other) ↦ sym away ]

found_at : (es : Entries) (n q : ℕ) (o : Option Record) → Rise es → entry_at (with_at es n o) q ≡ cond (eqb q n) o (entry_at es q)
found_at es n q None rises = lookup_without q n es rises ∙ ap (λ b. cond b None (entry_at es q)) (flipped n q ∙ finds_is q n)
found_at es n q (Some r) rises = lookup-insert_entry q n r es ∙ ap (λ b. cond b (Some r) (entry_at es q)) (finds_is q n)

-- what is found after that
pub renewed_at : (es fresh : Entries) (ns : List ℕ) → Rise es → (q : ℕ) → entry_at (renewed es fresh ns) q ≡ cond (is_in ns q) (entry_at fresh q) (entry_at es q)
renewed_at es fresh [] rises q = refl
renewed_at es fresh (n ∷ ns) rises q =
    renewed_at (with_at es n (entry_at fresh n)) fresh ns (rise_at es n (entry_at fresh n) rises) q
    ∙ ap (λ o. cond (is_in ns q) (entry_at fresh q) o) (found_at es n q (entry_at fresh n) rises)
    ∙ go (eqb q n) (is_in ns q) refl
  where
    go : (a b : Bool) → eqb q n ≡ a → cond b (entry_at fresh q) (cond a (entry_at fresh n) (entry_at es q)) ≡ cond (a || b) (entry_at fresh q) (entry_at es q)
    go true true e = refl
    go true false e = ap (entry_at fresh) (sym (eqb-true q n e))
    go false b e = refl

-- renewed where the other entries differ, they are the others
pub renewed_is : (es fs fresh : Entries) (ns : List ℕ) → Rise es → Rise fs → ((n : ℕ) → Contains ns n → entry_at fresh n ≡ entry_at fs n) → ((n : ℕ) → Contains ns n ⊎ (entry_at es n ≡ entry_at fs n)) → renewed es fresh ns ≡ fs
renewed_is es fs fresh ns rises climbs made differ =
    same_lookups (renewed es fresh ns) fs (renewed_rises es fresh ns rises) climbs (λ q. renewed_at es fresh ns rises q ∙ at q)
  where
    by_test : (q : ℕ) (b : Bool) → is_in ns q ≡ b → (Contains ns q → b ≡ true) → Contains ns q ⊎ (entry_at es q ≡ entry_at fs q) → (b ≡ true → Contains ns q) → cond b (entry_at fresh q) (entry_at es q) ≡ entry_at fs q
    by_test q true e on either back = made q (back refl)
    by_test q false e on (inl inside) back = absurd (false≢true (on inside))
    by_test q false e on (inr same) back = same

    at : (q : ℕ) → cond (is_in ns q) (entry_at fresh q) (entry_at es q) ≡ entry_at fs q
    at q = by_test q (is_in ns q) refl (λ inside. list_any-from_Contains nat_eq_equiv q ns inside) (differ q) (λ on. Contains-from_any eqb-true q ns on)

lacks : (o : Option Record) → is_some o ≡ false → None ≡ o
lacks None e = refl
lacks (Some r) e = absurd (false≢true (sym e))

-- the records of a tree at the ids of its objects are the tree
pub copied_is : (t : Tree) → IsObjectTree t → (ids : List ℕ) (es : Entries) (focus : Option ℕ) → ids ≡ object_ids t → es ≡ renewed [] t.entries ids → focus ≡ t.focus → record { entries = es; focus = focus } ≡ t
copied_is t hangs ids es focus all is same = λ i. record { entries = (is ∙ ap (renewed [] t.entries) all ∙ renewed_is [] t.entries t.entries (object_ids t) (λ k low. absurd (omega arith)) hangs.rising (λ n inside. refl) either) i; focus = same i }
  where
    either : (n : ℕ) → Contains (object_ids t) n ⊎ (entry_at [] n ≡ entry_at t.entries n)
    either n = go (has_object t n) refl
      where
        go : (b : Bool) → has_object t n ≡ b → Contains (object_ids t) n ⊎ (entry_at [] n ≡ entry_at t.entries n)
        go true there = inl (id_there t n there)
        go false lost = inr (lacks (record_at t n) lost)

-- what is found at an id that is renewed, and at any other
module _ (kept : Tree) (fresh : Entries) (ids : List ℕ) (focus : Option ℕ) (is : IsRenewed kept fresh ids focus) (places : List ℕ) (n : ℕ) (o : Option Record) (same : places ≡ ids) where
  by_place : (b : Bool) → b ≡ is_in places n → cond b (entry_at fresh n) (record_at kept n) ≡ record_at (renewed_tree kept fresh ids focus) n
  by_place b at = ap (λ b. cond b (entry_at fresh n) (record_at kept n)) (at ∙ ap (λ ns. is_in ns n) same) ∙ sym (renewed_at kept.entries fresh ids is.was.rising n)

  pub found_fresh : true ≡ is_in places n → o ≡ entry_at fresh n → o ≡ record_at (renewed_tree kept fresh ids focus) n
  found_fresh on found = found ∙ by_place true on

  pub found_kept : false ≡ is_in places n → o ≡ record_at kept n → o ≡ record_at (renewed_tree kept fresh ids focus) n
  found_kept off found = found ∙ by_place false off

-- the records of a tree, renewed, are those of the tree that is renewed
pub settled_is : (entries : Entries) (was : Option ℕ) (kept : Tree) (fresh es : Entries) (ids : List ℕ) (focus : Option ℕ) → record { entries = entries; focus = was } ≡ kept → es ≡ renewed entries fresh ids
    → record { entries = es; focus = focus } ≡ renewed_tree kept fresh ids focus
settled_is entries was kept fresh es ids focus view is = λ i. record { entries = (is ∙ (λ j. renewed (ap (λ (t : Tree). t.entries) view j) fresh ids)) i; focus = focus }

-- an entry that is taken out is missed at no other id
found_still : (k n : ℕ) (es : Entries) → k ≢ n → entry_at (remove_entry (is_at (nat_cmp k)) es) n ≡ entry_at es n
found_still k n [] apart = refl
found_still k n (e ∷ es) apart = go (finds k e.0) refl (found_still k n es apart)
  where
    off : finds k e.0 ≡ true → finds n e.0 ≡ false
    off here = elim (finds_tells n e.0) [ inl (on, is) ↦ absurd (apart (found_is k e.0 here ∙ sym is)) | inr (away, other) ↦ away ]

    go : (b : Bool) → finds k e.0 ≡ b → entry_at (remove_entry (is_at (nat_cmp k)) es) n ≡ entry_at es n
        → entry_at (cond b es (e ∷ remove_entry (is_at (nat_cmp k)) es)) n ≡ cond (finds n e.0) (Some e.1) (entry_at es n)
    go true here rest = sym (ap (λ b. cond b (Some e.1) (entry_at es n)) (off here))
    go false here rest = ap (cond (finds n e.0) (Some e.1)) rest

renewed_still : (es fresh : Entries) (k : ℕ) (ns : List ℕ) → ((n : ℕ) → Contains ns n → k ≢ n) → renewed es (remove_entry (is_at (nat_cmp k)) fresh) ns ≡ renewed es fresh ns
renewed_still es fresh k [] apart = refl
renewed_still es fresh k (n ∷ ns) apart =
    ap (λ o. renewed (with_at es n o) (remove_entry (is_at (nat_cmp k)) fresh) ns) (found_still k n fresh (apart n (Contains-head n ns)))
    ∙ renewed_still (with_at es n (entry_at fresh n)) fresh k ns (λ q inside. apart q (Contains-tail n q ns inside))

-- what is left to settle: the ids rise, and the records so far, renewed at them, are the whole
pub record IsLeft (whole es fresh : Entries) (ns : List ℕ) : Type 0 where
  pub rising : Rises ns
  pub rest : renewed es fresh ns ≡ whole

pub left_at_first : (es fresh : Entries) (ids ns : List ℕ) → IsStrictlyIncreasing ids → ns ≡ ids → IsLeft (renewed es fresh ids) es fresh ns
left_at_first es fresh ids ns rising same = record {
  rising = subst Rises (sym same) (rises_from ids (AllPairs-from_increasing ids rising));
  rest = ap (renewed es fresh) same;
}

pub left_then : (whole es fresh next others : Entries) (n : ℕ) (left ns : List ℕ) (o : Option Record) → left ≡ n ∷ ns → o ≡ entry_at fresh n → others ≡ remove_entry (is_at (nat_cmp n)) fresh → next ≡ with_at es n o
    → IsLeft whole es fresh left → IsLeft whole next others ns
left_then whole es fresh next others n left ns o split found out put was = record {
  rising = here.rising.1;
  rest = (λ i. renewed ((put ∙ ap (with_at es n) found) i) (out i) ns)
      ∙ renewed_still (with_at es n (entry_at fresh n)) fresh n ns (λ q inside is. let above = here.rising.0 q inside in omega arith)
      ∙ here.rest;
}
  where
    here : IsLeft whole es fresh (n ∷ ns)
    here = subst (IsLeft whole es fresh) split was
