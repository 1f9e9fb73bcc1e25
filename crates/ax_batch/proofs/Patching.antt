-- A tree that takes a batch over becomes the tree that the batch leads to.
use Rattle.std.proofs.Common.{◌≡◌, ◌⊎◌, inl, inr, ℕ, ◌<◌, List, [], ◌∷◌, ◌++◌, Bool, true, false, cond, ◌&&◌, ◌||◌, not, Option, Some, None, is_some, Contains, refl, sym, ap, subst, ◌∙◌, arith}
use Rattle.std.specs.Prelude.{unwrap_or, nat_eq}
use Rattle.std.specs.List.{list_any, flat_map}
use Rattle.std.specs.Option.{option_map_or, option_eq}
use Rattle.std.specs.Ordering.{nat_cmp}
use Rattle.std.specs.Map.{remove_entry, set_value}
use Rattle.std.specs.BTreeMap.{is_at, insert_entry}
use Rattle.std.proofs.lemmas.Bool.{false≢true}
use Rattle.std.proofs.lemmas.Bool.Decides.{Decides-eqb}
use Rattle.ax_base.proofs.Lookups.{finds, finds_same, found_is, finds_tells, lookup-insert_entry, lookup-set_value_at}
use Rattle.ax_base.proofs.SameLookups.{same_lookups}
use Rattle.ax_base.proofs.Joins.{Contains-cases}
use Rattle.ax_base.proofs.Membership.{Contains-head, Contains-tail}
use Rattle.ax_record.specs.declared.prop.PropValue.{PropValue}
use Rattle.ax_record.specs.declared.record.Record.{Record}
use Rattle.ax_record.specs.Tree.{Tree, entry_at, record_at, object_ids, has_object, made_at}
use Rattle.ax_record.specs.ObjectTrees.{IsObjectTree}
use Rattle.ax_record.specs.Differences.{changed_props, with_props}
use Rattle.std.proofs.lemmas.List.Kept.{AllPairs-from_increasing}
use Rattle.ax_base.proofs.Rising.{Rises, rises_from}
use Rattle.ax_record.proofs.TakenOver.{taken_over, same_record, unchanged}
use Rattle.ax_record.proofs.Equalities.{option_equality}
use Rattle.ax_record.proofs.TreeOf.{is_some-lookup}
use Rattle.ax_batch.specs.declared.batch.Batch.{Batch}
use Rattle.ax_batch.specs.declared.batch.Change.{Change}
use Rattle.ax_batch.specs.Batches.{added_at, change_of, changed_at, removed_at, focus_change, batch_between, without, with_change, with_changes, with_added, patched, Fits}
use Rattle.ax_batch.proofs.Entries.{Rise, rise_without, rise_with, rise_set, lookup_without}

abbrev Entries : Type 0
Entries = List (ℕ × Record)

-- whether an id is among some
abbrev among : List ℕ → ℕ → Bool
among ns q = list_any (finds q) ns

-- an answer at one id, and else what there was
at_first : {A : Type 0} (b c : Bool) (x y : A) → cond b x (cond c x y) ≡ cond (b || c) x y
at_first true c x y = refl
at_first false c x y = refl

rise_all_without : (ns : List ℕ) (es : Entries) → Rise es → Rise (without es ns)
rise_all_without [] es rises = rises
rise_all_without (n ∷ ns) es rises = rise_all_without ns (remove_entry (is_at (nat_cmp n)) es) (rise_without n es rises)

rise_change : (c : Change) (es : Entries) → Rise es → Rise (with_change es c)
rise_change c es rises = go (entry_at es c.id)
  where
    go : (o : Option Record) → Rise (option_map_or (λ r. set_value (is_at (nat_cmp c.id)) es (with_props r c.props)) o es)
    go None = rises
    go (Some r) = rise_set c.id (with_props r c.props) es rises

rise_changes : (cs : List Change) (es : Entries) → Rise es → Rise (with_changes es cs)
rise_changes [] es rises = rises
rise_changes (c ∷ cs) es rises = rise_changes cs (with_change es c) (rise_change c es rises)

rise_added : (rs : List Record) (es : Entries) → Rise es → Rise (with_added es rs)
rise_added [] es rises = rises
rise_added (r ∷ rs) es rises = rise_added rs (insert_entry nat_cmp es r.id r) (rise_with r.id r es rises)

-- after a batch the ids rise
pub rise_patched : (t : Tree) (b : Batch) → Rise t.entries → Rise (patched t b).entries
rise_patched t b rises = rise_added b.added _ (rise_changes b.changed _ (rise_all_without b.removed t.entries rises))

module _ (a b : Tree) where
  -- what is gone
  abbrev gone : ℕ → Bool
  gone q = is_some (record_at a q) && not (is_some (record_at b q))

  abbrev both : ℕ → Bool
  both q = is_some (record_at a q) && is_some (record_at b q)

  abbrev new : ℕ → Bool
  new q = not (is_some (record_at a q)) && is_some (record_at b q)

  cons : {A : Type 0} (q n : ℕ) (ns : List ℕ) (p : ℕ → Bool) (x y : A) → cond (among ns q && p q) x (cond (finds q n && p q) x y) ≡ cond (among (n ∷ ns) q && p q) x y
  cons q n ns p x y = go (among ns q) (finds q n) (p q)
    where
      go : (c d e : Bool) → cond (c && e) x (cond (d && e) x y) ≡ cond ((d || c) && e) x y
      go true true true = refl
      go true true false = refl
      go true false true = refl
      go true false false = refl
      go false true true = refl
      go false true false = refl
      go false false true = refl
      go false false false = refl

  -- what passes at n passes at q where q is n
  hit : (p : ℕ → Bool) (q n : ℕ) → p n ≡ true → (finds q n && p q) ≡ finds n q
  hit p q n here = elim (finds_tells q n) [
    | inl (at, is) ↦ (λ i. at i && p q) ∙ ap p is ∙ here ∙ sym (finds_same n q (sym is))
    | inr (off, apart) ↦ (λ i. off i && p q) ∙ elim (finds_tells n q) [ inl (at, is) ↦ absurd (apart (sym is)) | inr (away, other) ↦ sym away ]
  ]

  miss : (p : ℕ → Bool) (q n : ℕ) → p n ≡ false → (finds q n && p q) ≡ false
  miss p q n none = elim (finds_tells q n) [
    | inl (at, is) ↦ (λ i. at i && p q) ∙ ap p is ∙ none
    | inr (off, apart) ↦ (λ i. off i && p q)
  ]

  -- a step, and the rest
  more : {A : Type 0} (q n : ℕ) (ns : List ℕ) (p : ℕ → Bool) (x : Option A) (after before whole : Option A) → whole ≡ cond (among ns q && p q) x after → after ≡ cond (finds q n && p q) x before → whole ≡ cond (among (n ∷ ns) q && p q) x before
  more q n ns p x after before whole rest one = rest ∙ ap (λ y. cond (among ns q && p q) x y) one ∙ cons q n ns p x before

  untouched : {A : Type 0} (p : ℕ → Bool) (q n : ℕ) (x before : Option A) → p n ≡ false → before ≡ cond (finds q n && p q) x before
  untouched p q n x before none = ap (λ c. cond c x before) (sym (miss p q n none))

  removed_is : (ns : List ℕ) (es : Entries) → Rise es → (q : ℕ) → entry_at (without es (flat_map (made_at removed_at a b) ns)) q ≡ cond (among ns q && gone q) None (entry_at es q)
  removed_is [] es rises q = refl
  removed_is (n ∷ ns) es rises q = go (record_at a n) (record_at b n) refl refl (removed_is ns)
    where
      go : (x y : Option Record) → record_at a n ≡ x → record_at b n ≡ y
          → ((fs : Entries) → Rise fs → (r : ℕ) → entry_at (without fs (flat_map (made_at removed_at a b) ns)) r ≡ cond (among ns r && gone r) None (entry_at fs r))
          → entry_at (without es (removed_at x y n ++ flat_map (made_at removed_at a b) ns)) q ≡ cond (among (n ∷ ns) q && gone q) None (entry_at es q)
      go (Some r) None was is rest =
          more q n ns gone None _ (entry_at es q) _ (rest (remove_entry (is_at (nat_cmp n)) es) (rise_without n es rises) q)
          (lookup_without q n es rises ∙ ap (λ c. cond c None (entry_at es q)) (sym (hit gone q n (λ i. is_some (was i) && not (is_some (is i))))))
      go (Some r) (Some s) was is rest = more q n ns gone None _ (entry_at es q) _ (rest es rises q) (untouched gone q n None (entry_at es q) (λ i. is_some (was i) && not (is_some (is i))))
      go None y was is rest = more q n ns gone None _ (entry_at es q) _ (rest es rises q) (untouched gone q n None (entry_at es q) (λ i. is_some (was i) && not (is_some (is i))))

  module _ (own : (n : ℕ) (r : Record) → record_at b n ≡ Some r → r.id ≡ n) where
    put_in : (es : Entries) (q n : ℕ) (r : Record) → record_at a n ≡ None → record_at b n ≡ Some r → entry_at (insert_entry nat_cmp es r.id r) q ≡ cond (finds q n && new q) (record_at b q) (entry_at es q)
    put_in es q n r was is =
        lookup-insert_entry q r.id r es ∙ ap (λ k. cond (finds q k) (Some r) (entry_at es q)) (own n r is)
        ∙ elim (finds_tells q n) [
          | inl (at, same) ↦ (λ i. cond (at i) (Some r) (entry_at es q)) ∙ sym is ∙ ap (record_at b) (sym same)
              ∙ sym (ap (λ c. cond c (record_at b q) (entry_at es q)) ((λ j. at j && new q) ∙ ap new same ∙ (λ j. not (is_some (was j)) && is_some (is j))))
          | inr (off, apart) ↦ (λ i. cond (off i) (Some r) (entry_at es q)) ∙ sym (λ i. cond (off i && new q) (record_at b q) (entry_at es q))
        ]

    added_is : (ns : List ℕ) (es : Entries) (q : ℕ) → entry_at (with_added es (flat_map (made_at added_at a b) ns)) q ≡ cond (among ns q && new q) (record_at b q) (entry_at es q)
    added_is [] es q = refl
    added_is (n ∷ ns) es q = go (record_at a n) (record_at b n) refl refl (added_is ns)
      where
        go : (x y : Option Record) → record_at a n ≡ x → record_at b n ≡ y
            → ((fs : Entries) (r : ℕ) → entry_at (with_added fs (flat_map (made_at added_at a b) ns)) r ≡ cond (among ns r && new r) (record_at b r) (entry_at fs r))
            → entry_at (with_added es (added_at x y n ++ flat_map (made_at added_at a b) ns)) q ≡ cond (among (n ∷ ns) q && new q) (record_at b q) (entry_at es q)
        go None (Some r) was is rest = more q n ns new (record_at b q) _ (entry_at es q) _ (rest (insert_entry nat_cmp es r.id r) q) (put_in es q n r was is)
        go None None was is rest = more q n ns new (record_at b q) _ (entry_at es q) _ (rest es q) (untouched new q n (record_at b q) (entry_at es q) (λ i. not (is_some (was i)) && is_some (is i)))
        go (Some r) y was is rest = more q n ns new (record_at b q) _ (entry_at es q) _ (rest es q) (untouched new q n (record_at b q) (entry_at es q) (λ i. not (is_some (was i)) && is_some (is i)))

    module _ (own_old : (n : ℕ) (r : Record) → record_at a n ≡ Some r → r.id ≡ n) where
      -- what is found after one object is changed
      abbrev IsOne : Entries → Entries → ℕ → Type 0
      IsOne fs es n = (q : ℕ) → entry_at fs q ≡ cond (finds q n && both q) (record_at b q) (entry_at es q)

      still : (es : Entries) (n : ℕ) (r s : Record) → record_at a n ≡ Some r → record_at b n ≡ Some s → entry_at es n ≡ record_at a n → changed_props r s ≡ [] → IsOne es es n
      still es n r s was is there none q = elim (finds_tells q n) [
        | inl (at, same) ↦
            let alike : record_at a n ≡ record_at b n = was ∙ ap Some (same_record r s (own_old n r was ∙ sym (own n s is)) none) ∙ sym is in
            ap (entry_at es) same ∙ there ∙ alike ∙ ap (record_at b) (sym same)
            ∙ sym (ap (λ c. cond c (record_at b q) (entry_at es q)) ((λ j. at j && both q) ∙ ap both same ∙ (λ j. is_some (was j) && is_some (is j))))
        | inr (off, apart) ↦ sym (λ i. cond (off i && both q) (record_at b q) (entry_at es q))
      ]

      set : (es : Entries) (n : ℕ) (r s : Record) (ps : List PropValue) → record_at a n ≡ Some r → record_at b n ≡ Some s → entry_at es n ≡ record_at a n → changed_props r s ≡ ps
          → IsOne (with_change es (record { id = n; props = ps })) es n
      set es n r s ps was is there props q =
          let found : entry_at es n ≡ Some r = there ∙ was in
          let becomes : with_props r ps ≡ s = ap (with_props r) (sym props) ∙ taken_over r s ∙ (λ i. record s { id = (own_old n r was ∙ sym (own n s is)) i }) in
          ap (λ o. entry_at (option_map_or (λ x. set_value (is_at (nat_cmp n)) es (with_props x ps)) o es) q) found
          ∙ lookup-set_value_at q n (with_props r ps) es (ap is_some found)
          ∙ ap (λ c. cond c (Some (with_props r ps)) (entry_at es q)) (sym (hit both q n (λ i. is_some (was i) && is_some (is i))))
          ∙ at_n (finds q n && both q) refl becomes
        where
          at_n : (c : Bool) → (finds q n && both q) ≡ c → with_props r ps ≡ s → cond (finds q n && both q) (Some (with_props r ps)) (entry_at es q) ≡ cond (finds q n && both q) (record_at b q) (entry_at es q)
          at_n true on becomes = (λ i. cond (on i) (Some (becomes i)) (entry_at es q)) ∙ sym is ∙ ap (record_at b) (sym (found_is q n (first (finds q n) (both q) on))) ∙ sym (λ i. cond (on i) (record_at b q) (entry_at es q))
            where
              first : (x y : Bool) → (x && y) ≡ true → x ≡ true
              first true y e = refl
              first false y e = absurd (false≢true e)
          at_n false off becomes = (λ i. cond (off i) (Some (with_props r ps)) (entry_at es q)) ∙ sym (λ i. cond (off i) (record_at b q) (entry_at es q))

      -- the entries at some ids are still those of the first tree
      abbrev AreOld : List ℕ → Entries → Type 0
      AreOld ns es = (n : ℕ) → Contains ns n → both n ≡ true → entry_at es n ≡ record_at a n

      old_still : (n : ℕ) (ns : List ℕ) (fs es : Entries) → ((m : ℕ) → Contains ns m → n < m) → IsOne fs es n → AreOld (n ∷ ns) es → AreOld ns fs
      old_still n ns fs es above one old m inside at =
          one m ∙ (λ i. cond (away i && both m) (record_at b m) (entry_at es m)) ∙ old m (Contains-tail n m ns inside) at
        where
          away : finds m n ≡ false
          away = elim (finds_tells m n) [ inl (at, is) ↦ (let low = above m inside in absurd (omega arith)) | inr (off, apart) ↦ off ]

      abbrev Rest : List ℕ → Type 0
      Rest ns = (fs : Entries) → AreOld ns fs → (r : ℕ) → entry_at (with_changes fs (flat_map (made_at changed_at a b) ns)) r ≡ cond (among ns r && both r) (record_at b r) (entry_at fs r)

      changed_is : (ns : List ℕ) → Rises ns → (es : Entries) → AreOld ns es → (q : ℕ) → entry_at (with_changes es (flat_map (made_at changed_at a b) ns)) q ≡ cond (among ns q && both q) (record_at b q) (entry_at es q)
      changed_is [] rises es old q = refl
      changed_is (n ∷ ns) rises es old q = go (record_at a n) (record_at b n) refl refl (changed_is ns rises.1)
        where
          none : both n ≡ false → IsOne es es n
          none off r = untouched both r n (record_at b r) (entry_at es r) off

          with_rest : (fs : Entries) → IsOne fs es n → Rest ns → entry_at (with_changes fs (flat_map (made_at changed_at a b) ns)) q ≡ cond (among (n ∷ ns) q && both q) (record_at b q) (entry_at es q)
          with_rest fs one rest = more q n ns both (record_at b q) (entry_at fs q) (entry_at es q) _ (rest fs (old_still n ns fs es rises.0 one old) q) (one q)

          by_props : (r s : Record) (ps : List PropValue) → record_at a n ≡ Some r → record_at b n ≡ Some s → changed_props r s ≡ ps → Rest ns
              → entry_at (with_changes es (change_of n ps ++ flat_map (made_at changed_at a b) ns)) q ≡ cond (among (n ∷ ns) q && both q) (record_at b q) (entry_at es q)
          by_props r s [] was is props rest = with_rest es (still es n r s was is (old n (Contains-head n ns) (λ i. is_some (was i) && is_some (is i))) props) rest
          by_props r s (p ∷ ps) was is props rest = with_rest (with_change es (record { id = n; props = p ∷ ps })) (set es n r s (p ∷ ps) was is (old n (Contains-head n ns) (λ i. is_some (was i) && is_some (is i))) props) rest

          go : (x y : Option Record) → record_at a n ≡ x → record_at b n ≡ y → Rest ns
              → entry_at (with_changes es (changed_at x y n ++ flat_map (made_at changed_at a b) ns)) q ≡ cond (among (n ∷ ns) q && both q) (record_at b q) (entry_at es q)
          go (Some r) (Some s) was is rest = by_props r s (changed_props r s) was is refl rest
          go (Some r) None was is rest = with_rest es (none (λ i. is_some (was i) && is_some (is i))) rest
          go None y was is rest = with_rest es (none (λ i. is_some (was i) && is_some (is i))) rest

  both_not_gone : (n : ℕ) → both n ≡ true → gone n ≡ false
  both_not_gone n = go (record_at a n) (record_at b n)
    where
      go : (x y : Option Record) → (is_some x && is_some y) ≡ true → (is_some x && not (is_some y)) ≡ false
      go (Some r) (Some s) e = refl
      go (Some r) None e = absurd (false≢true e)
      go None y e = absurd (false≢true e)

  module _ (ta : IsObjectTree a) (tb : IsObjectTree b) where
    rises : (t : Tree) → IsObjectTree t → Rises (object_ids t)
    rises t hangs = rises_from (object_ids t) (AllPairs-from_increasing (object_ids t) hangs.rising)

    kept_es : Entries
    kept_es = without a.entries (batch_between a b).removed

    changed_es : Entries
    changed_es = with_changes (without a.entries (batch_between a b).removed) (batch_between a b).changed

    kept_at : (q : ℕ) → entry_at (without a.entries (batch_between a b).removed) q ≡ cond (is_some (record_at a q) && gone q) None (record_at a q)
    kept_at q = removed_is (object_ids a) a.entries ta.rising q ∙ ap (λ c. cond (c && gone q) None (record_at a q)) (is_some-lookup q a.entries)

    changed_at_each : (q : ℕ) → entry_at (with_changes (without a.entries (batch_between a b).removed) (batch_between a b).changed) q ≡ cond (is_some (record_at b q) && both q) (record_at b q) (cond (is_some (record_at a q) && gone q) None (record_at a q))
    changed_at_each q =
        changed_is tb.own_id ta.own_id (object_ids b) (rises b tb) (without a.entries (batch_between a b).removed) old q
        ∙ (λ i. cond (is_some-lookup q b.entries i && both q) (record_at b q) (kept_at q i))
      where
        old : AreOld tb.own_id ta.own_id (object_ids b) (without a.entries (batch_between a b).removed)
        old n inside at = kept_at n ∙ ap (λ c. cond c None (record_at a n)) (ap (λ c. is_some (record_at a n) && c) (both_not_gone n at) ∙ none (is_some (record_at a n)))
          where
            none : (c : Bool) → (c && false) ≡ false
            none true = refl
            none false = refl

    found : (q : ℕ) → entry_at (patched a (batch_between a b)).entries q ≡ record_at b q
    found q =
        added_is tb.own_id (object_ids b) (with_changes (without a.entries (batch_between a b).removed) (batch_between a b).changed) q
        ∙ (λ i. cond (is_some-lookup q b.entries i && new q) (record_at b q) (changed_at_each q i))
        ∙ last (record_at a q) (record_at b q)
      where
        last : (x y : Option Record) → cond (is_some y && (not (is_some x) && is_some y)) y (cond (is_some y && (is_some x && is_some y)) y (cond (is_some x && (is_some x && not (is_some y))) None x)) ≡ y
        last (Some r) (Some s) = refl
        last (Some r) None = refl
        last None (Some s) = refl
        last None None = refl

    focus_is : (old new : Option ℕ) → unwrap_or (focus_change old new) old ≡ new
    focus_is old new = go (option_eq nat_eq old new) refl
      where
        go : (c : Bool) → option_eq nat_eq old new ≡ c → unwrap_or (cond c None (Some new)) old ≡ new
        go true e = (option_equality nat_eq Decides-eqb old new).0 e
        go false e = refl

    -- the tree after the batch from it to another is the other
    pub patched_batch : patched a (batch_between a b) ≡ b
    patched_batch = λ i. record {
      entries = same_lookups (patched a (batch_between a b)).entries b.entries (rise_patched a (batch_between a b) ta.rising) tb.rising found i;
      focus = focus_is a.focus b.focus i;
    }

-- where an element of a flat map comes from
pub made_from : {Y : Type 0} (f : ℕ → List Y) (ns : List ℕ) (y : Y) → Contains (flat_map f ns) y → (n : ℕ) × Contains ns n × Contains (f n) y
made_from f [] y inside = absurd (omega arith)
made_from f (n ∷ ns) y inside = elim (in_either (f n) (flat_map f ns) y inside) [
  | inl first ↦ (n, Contains-head n ns, first)
  | inr rest ↦ (let m = made_from f ns y rest in (m.0, Contains-tail n m.0 ns m.1, m.2))
]
  where
    in_either : {Y : Type 0} (xs ys : List Y) (y : Y) → Contains (xs ++ ys) y → Contains xs y ⊎ Contains ys y
    in_either [] ys y inside = inr inside
    in_either (x ∷ xs) ys y inside = elim (Contains-cases y x (xs ++ ys) inside) [
      | inl is ↦ inl (subst (Contains (x ∷ xs)) is (Contains-head x xs))
      | inr more ↦ (elim (in_either xs ys y more) [ inl first ↦ inl (Contains-tail x y xs first) | inr rest ↦ inr rest ])
    ]

-- a batch of two trees fits the first
pub fits_batch : (a b : Tree) → IsObjectTree a → IsObjectTree b → Fits a (batch_between a b)
fits_batch a b ta tb = record {
  removed = λ n inside. let m = made_from (made_at removed_at a b) (object_ids a) n inside in was_removed (record_at a m.0) (record_at b m.0) m.0 n refl m.2;
  changed = λ c inside. let m = made_from (made_at changed_at a b) (object_ids b) c inside in was_changed (record_at a m.0) (record_at b m.0) m.0 c refl m.2;
  added = λ r inside. let m = made_from (made_at added_at a b) (object_ids b) r inside in was_added (record_at a m.0) (record_at b m.0) m.0 r refl refl m.2;
}
  where
    only : {Y : Type 0} (x y : Y) → Contains (x ∷ []) y → x ≡ y
    only x y inside = elim (Contains-cases y x [] inside) [ inl is ↦ is | inr none ↦ absurd (omega arith) ]

    was_removed : (x y : Option Record) (m n : ℕ) → record_at a m ≡ x → Contains (removed_at x y m) n → has_object a n ≡ true
    was_removed (Some r) None m n is inside = ap (has_object a) (sym (only m n inside)) ∙ ap is_some is
    was_removed (Some r) (Some s) m n is inside = absurd (omega arith)
    was_removed None y m n is inside = absurd (omega arith)

    was_change : (m : ℕ) (ps : List PropValue) (c : Change) → Contains (change_of m ps) c → m ≡ c.id
    was_change m [] c inside = absurd (omega arith)
    was_change m (p ∷ ps) c inside = ap (λ (x : Change). x.id) (only (record { id = m; props = p ∷ ps }) c inside)

    was_changed : (x y : Option Record) (m : ℕ) (c : Change) → record_at a m ≡ x → Contains (changed_at x y m) c → has_object a c.id ≡ true
    was_changed (Some r) (Some s) m c is inside = ap (has_object a) (sym (was_change m (changed_props r s) c inside)) ∙ ap is_some is
    was_changed (Some r) None m c is inside = absurd (omega arith)
    was_changed None y m c is inside = absurd (omega arith)

    was_added : (x y : Option Record) (m : ℕ) (r : Record) → record_at a m ≡ x → record_at b m ≡ y → Contains (added_at x y m) r → has_object a r.id ≡ false
    was_added None (Some s) m r was is inside = ap (has_object a) (ap (λ (z : Record). z.id) (sym (only s r inside)) ∙ tb.own_id m s is) ∙ ap is_some was
    was_added None None m r was is inside = absurd (omega arith)
    was_added (Some s) y m r was is inside = absurd (omega arith)

-- from a tree to itself nothing is made
pub none_added : (o : Option Record) (n : ℕ) → added_at o o n ≡ []
none_added None n = refl
none_added (Some r) n = refl

pub none_changed : (o : Option Record) (n : ℕ) → changed_at o o n ≡ []
none_changed None n = refl
none_changed (Some r) n = ap (change_of n) (unchanged r)

pub none_removed : (o : Option Record) (n : ℕ) → removed_at o o n ≡ []
none_removed None n = refl
none_removed (Some r) n = refl

-- a tree is what is put in of all its objects
pub copied : (t : Tree) → IsObjectTree t → with_added [] (flat_map (made_at added_at (record { entries = []; focus = None }) t) (object_ids t)) ≡ t.entries
copied t hangs =
    same_lookups (with_added [] (flat_map (made_at added_at (record { entries = []; focus = None }) t) (object_ids t))) t.entries (rise_added (flat_map (made_at added_at (record { entries = []; focus = None }) t) (object_ids t)) [] (λ i low. absurd (omega arith))) hangs.rising
    (λ q. added_is (record { entries = []; focus = None }) t hangs.own_id (object_ids t) [] q ∙ (λ i. cond (is_some-lookup q t.entries i && new (record { entries = []; focus = None }) t q) (record_at t q) None) ∙ last (record_at t q))
  where
    last : (y : Option Record) → cond (is_some y && (true && is_some y)) y None ≡ y
    last (Some r) = refl
    last None = refl
