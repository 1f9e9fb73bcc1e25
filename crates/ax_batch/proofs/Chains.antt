-- A tree that takes merged batches over.
use Rattle.std.proofs.Common.{◌≡◌, ◌⊎◌, inl, inr, ℕ, List, [], ◌∷◌, ◌++◌, Bool, true, false, cond, Option, Some, None, is_some, Contains, refl, sym, ap, ◌∙◌, arith}
use Rattle.std.specs.Prelude.{flat_map, option_map, unwrap_or, nat_eq}
use Rattle.std.specs.Option.{option_or, option_map_or, option_eq}
use Rattle.std.specs.Ordering.{nat_cmp}
use Rattle.std.specs.Map.{keys_of, remove_entry, set_value}
use Rattle.std.specs.BTreeMap.{is_at, insert_entry}
use Rattle.std.specs.List.Sorted.{IsStrictlySortedBy, IsStrictlyIncreasing}
use Rattle.std.proofs.lemmas.Bool.{false≢true}
use Rattle.std.proofs.lemmas.Bool.Decides.{Decides-eqb}
use Rattle.std.proofs.lemmas.List.Kept.{AllPairs-from_increasing}
use Rattle.ax_record.proofs.Equalities.{option_equality}
use Rattle.ax_base.proofs.Lookups.{finds, found_is, lookup-insert_entry, lookup-set_value_at}
use Rattle.ax_base.proofs.SameLookups.{same_lookups}
use Rattle.ax_base.proofs.Rising.{rises_from, among}
use Rattle.ax_record.specs.declared.prop.PropValue.{PropValue}
use Rattle.ax_record.specs.declared.record.Record.{Record}
use Rattle.ax_record.specs.Tree.{Tree, entry_at, record_at, object_ids, made_at}
use Rattle.ax_record.specs.ObjectTrees.{IsObjectTree}
use Rattle.ax_record.specs.Differences.{changed_props, with_props}
use Rattle.ax_record.proofs.TakenOver.{taken_over, same_record}
use Rattle.ax_record.proofs.TreeOf.{is_some-lookup}
use Rattle.ax_batch.specs.declared.batch.Batch.{Batch}
use Rattle.ax_batch.specs.declared.batch.Change.{Change}
use Rattle.ax_batch.specs.declared.fate.Fate.{Fate}
use Rattle.ax_batch.specs.declared.fate.Fate.TheVariants.{Added, Changed, Removed}
use Rattle.ax_batch.specs.Batches.{added_at, change_of, changed_at, removed_at, focus_change, batch_between, without, with_change, with_changes, with_added, patched}
use Rattle.ax_batch.specs.Fates.{joint_fate, after_fate, fits_fate, IsInOrder, FitsEach, Fates, fate_at, removals, changes, additions, fates, added_by, changed_by, removed_by, made_by, made_of, batch_of, entry_of, joint_fates, merged, no_change, IsOwn, AreOwn}
use Rattle.ax_batch.proofs.Entries.{Rise, rise_without, lookup_without}
use Rattle.ax_batch.proofs.Patching.{rise_patched, patched_batch}
use Rattle.ax_batch.proofs.TakingOver.{joint_with, all_taken}
use Rattle.ax_batch.proofs.Splitting.{there_key}
use Rattle.ax_batch.proofs.Merging.{made_is, rise_made, rise_fates, own_from, finds_flip, last_of, last_both, last_made, sorts, first_absent, rest_sorts, fates_are, fates_own, merged_is, joint_is, rise_joint, own_joint}

abbrev Entries : Type 0
Entries = List (ℕ × Record)

abbrev Sorts : Fates → Type 0
Sorts es = IsStrictlySortedBy nat_cmp (keys_of es)

-- what is there after the removals, the changes and the additions of some fates
abbrev after_removal : Option Fate → Option Record → Option Record
after_removal None o = o
after_removal (Some (Added r)) o = o
after_removal (Some (Changed ps)) o = o
after_removal (Some Removed) o = None

abbrev after_change : Option Fate → Option Record → Option Record
after_change None o = o
after_change (Some (Added r)) o = o
after_change (Some (Changed ps)) o = option_map (λ r. with_props r ps) o
after_change (Some Removed) o = o

abbrev after_addition : Option Fate → Option Record → Option Record
after_addition None o = o
after_addition (Some (Added r)) o = Some r
after_addition (Some (Changed ps)) o = o
after_addition (Some Removed) o = o

module _ (q : ℕ) where
  -- where the first entry is that of the id, no later one is
  none_later : (e : ℕ × Fate) (es : Fates) → Sorts (e ∷ es) → finds q e.0 ≡ true → fate_at es q ≡ None
  none_later e es sorted on = ap (fate_at es) (found_is q e.0 on) ∙ first_absent e es sorted

  removals_are : (es : Fates) (xs : Entries) → Sorts es → Rise xs → entry_at (without xs (made_by removed_by es)) q ≡ after_removal (fate_at es q) (entry_at xs q)
  unfolding made_by
  removals_are [] xs sorted rises = refl
  removals_are (e ∷ es) xs sorted rises = go e.1 (finds q e.0) refl (removals_are es)
    where
      go : (f : Fate) (b : Bool) → finds q e.0 ≡ b → ((ys : Entries) → Sorts es → Rise ys → entry_at (without ys (made_by removed_by es)) q ≡ after_removal (fate_at es q) (entry_at ys q))
          → entry_at (without xs (removed_by e.0 f ++ made_by removed_by es)) q ≡ after_removal (cond b (Some f) (fate_at es q)) (entry_at xs q)
      go (Added r) true on rest = rest xs (rest_sorts e es sorted) rises ∙ ap (λ o. after_removal o (entry_at xs q)) (none_later e es sorted on)
      go (Added r) false on rest = rest xs (rest_sorts e es sorted) rises
      go (Changed ps) true on rest = rest xs (rest_sorts e es sorted) rises ∙ ap (λ o. after_removal o (entry_at xs q)) (none_later e es sorted on)
      go (Changed ps) false on rest = rest xs (rest_sorts e es sorted) rises
      go Removed b on rest =
          rest (remove_entry (is_at (nat_cmp e.0)) xs) (rest_sorts e es sorted) (rise_without e.0 xs rises)
          ∙ ap (after_removal (fate_at es q)) (lookup_without q e.0 xs rises ∙ ap (λ c. cond c None (entry_at xs q)) (finds_flip e.0 q ∙ on))
          ∙ last b on
        where
          last : (c : Bool) → finds q e.0 ≡ c → after_removal (fate_at es q) (cond c None (entry_at xs q)) ≡ after_removal (cond c (Some Removed) (fate_at es q)) (entry_at xs q)
          last true at = ap (λ o. after_removal o None) (none_later e es sorted at)
          last false at = refl

  change_is : (k : ℕ) (ps : List PropValue) (xs : Entries) → entry_at (with_change xs (record { id = k; props = ps })) q ≡ cond (finds q k) (option_map (λ r. with_props r ps) (entry_at xs q)) (entry_at xs q)
  change_is k ps xs = go (entry_at xs k) refl (finds q k) refl
    where
      go : (o : Option Record) → entry_at xs k ≡ o → (b : Bool) → finds q k ≡ b → entry_at (option_map_or (λ r. set_value (is_at (nat_cmp k)) xs (with_props r ps)) o xs) q ≡ cond b (option_map (λ r. with_props r ps) (entry_at xs q)) (entry_at xs q)
      go None is true on = (let none : entry_at xs q ≡ None = ap (entry_at xs) (found_is q k on) ∙ is in none ∙ ap (option_map (λ r. with_props r ps)) (sym none))
      go None is false on = refl
      go (Some r) is b on =
          lookup-set_value_at q k (with_props r ps) xs (ap is_some is)
          ∙ ap (λ c. cond c (Some (with_props r ps)) (entry_at xs q)) (finds_flip k q ∙ on)
          ∙ last b on
        where
          last : (c : Bool) → finds q k ≡ c → cond c (Some (with_props r ps)) (entry_at xs q) ≡ cond c (option_map (λ x. with_props x ps) (entry_at xs q)) (entry_at xs q)
          last true at = ap (option_map (λ x. with_props x ps)) (sym (ap (entry_at xs) (found_is q k at) ∙ is))
          last false at = refl

  changes_are : (es : Fates) (xs : Entries) → Sorts es → entry_at (with_changes xs (made_by changed_by es)) q ≡ after_change (fate_at es q) (entry_at xs q)
  unfolding made_by
  changes_are [] xs sorted = refl
  changes_are (e ∷ es) xs sorted = go e.1 (finds q e.0) refl (changes_are es)
    where
      go : (f : Fate) (b : Bool) → finds q e.0 ≡ b → ((ys : Entries) → Sorts es → entry_at (with_changes ys (made_by changed_by es)) q ≡ after_change (fate_at es q) (entry_at ys q))
          → entry_at (with_changes xs (changed_by e.0 f ++ made_by changed_by es)) q ≡ after_change (cond b (Some f) (fate_at es q)) (entry_at xs q)
      go (Added r) true on rest = rest xs (rest_sorts e es sorted) ∙ ap (λ o. after_change o (entry_at xs q)) (none_later e es sorted on)
      go (Added r) false on rest = rest xs (rest_sorts e es sorted)
      go (Changed ps) b on rest =
          rest (with_change xs (record { id = e.0; props = ps })) (rest_sorts e es sorted)
          ∙ ap (after_change (fate_at es q)) (change_is e.0 ps xs ∙ ap (λ c. cond c (option_map (λ r. with_props r ps) (entry_at xs q)) (entry_at xs q)) on)
          ∙ last b on
        where
          last : (c : Bool) → finds q e.0 ≡ c → after_change (fate_at es q) (cond c (option_map (λ r. with_props r ps) (entry_at xs q)) (entry_at xs q)) ≡ after_change (cond c (Some (Changed ps)) (fate_at es q)) (entry_at xs q)
          last true at = ap (λ o. after_change o (option_map (λ r. with_props r ps) (entry_at xs q))) (none_later e es sorted at)
          last false at = refl
      go Removed true on rest = rest xs (rest_sorts e es sorted) ∙ ap (λ o. after_change o (entry_at xs q)) (none_later e es sorted on)
      go Removed false on rest = rest xs (rest_sorts e es sorted)

  additions_are : (es : Fates) (xs : Entries) → Sorts es → AreOwn es → entry_at (with_added xs (made_by added_by es)) q ≡ after_addition (fate_at es q) (entry_at xs q)
  unfolding made_by
  additions_are [] xs sorted own = refl
  additions_are (e ∷ es) xs sorted own = go e.1 (finds q e.0) refl own.0 (additions_are es)
    where
      go : (f : Fate) (b : Bool) → finds q e.0 ≡ b → IsOwn e.0 f → ((ys : Entries) → Sorts es → AreOwn es → entry_at (with_added ys (made_by added_by es)) q ≡ after_addition (fate_at es q) (entry_at ys q))
          → entry_at (with_added xs (added_by e.0 f ++ made_by added_by es)) q ≡ after_addition (cond b (Some f) (fate_at es q)) (entry_at xs q)
      go (Added r) b on id rest =
          rest (insert_entry nat_cmp xs r.id r) (rest_sorts e es sorted) own.1
          ∙ ap (after_addition (fate_at es q)) (lookup-insert_entry q r.id r xs ∙ ap (λ c. cond c (Some r) (entry_at xs q)) (ap (finds q) id ∙ on))
          ∙ last b on
        where
          last : (c : Bool) → finds q e.0 ≡ c → after_addition (fate_at es q) (cond c (Some r) (entry_at xs q)) ≡ after_addition (cond c (Some (Added r)) (fate_at es q)) (entry_at xs q)
          last true at = ap (λ o. after_addition o (Some r)) (none_later e es sorted at)
          last false at = refl
      go (Changed ps) true on id rest = rest xs (rest_sorts e es sorted) own.1 ∙ ap (λ o. after_addition o (entry_at xs q)) (none_later e es sorted on)
      go (Changed ps) false on id rest = rest xs (rest_sorts e es sorted) own.1
      go Removed true on id rest = rest xs (rest_sorts e es sorted) own.1 ∙ ap (λ o. after_addition o (entry_at xs q)) (none_later e es sorted on)
      go Removed false on id rest = rest xs (rest_sorts e es sorted) own.1

-- what is there after a batch is what each fate makes of what was there
pub patched_at : (t : Tree) (es : Fates) (focus : Option (Option ℕ)) (q : ℕ) → Rise t.entries → Rise es → AreOwn es → record_at (patched t (batch_of es focus)) q ≡ after_fate (fate_at es q) (record_at t q)
patched_at t es focus q rises climbs own =
    additions_are q es (with_changes (without t.entries (made_by removed_by es)) (made_by changed_by es)) (sorts es climbs) own
    ∙ ap (after_addition (fate_at es q)) (changes_are q es (without t.entries (made_by removed_by es)) (sorts es climbs) ∙ ap (after_change (fate_at es q)) (removals_are q es t.entries (sorts es climbs) rises))
    ∙ whole (fate_at es q) (record_at t q)
  where
    whole : (f : Option Fate) (o : Option Record) → after_addition f (after_change f (after_removal f o)) ≡ after_fate f o
    whole None o = refl
    whole (Some (Added r)) o = refl
    whole (Some (Changed ps)) o = refl
    whole (Some Removed) o = refl

-- two fates one after the other make of what is there what both make together
joint_after : (n : ℕ) (o : Option Record) (f g : Option Fate) → fits_fate o f ≡ true → ((x : Record) → o ≡ Some x → x.id ≡ n) → ((x : Fate) → g ≡ Some x → IsOwn n x) → after_fate (joint_fate f g) o ≡ after_fate g (after_fate f o)
joint_after n o None None fits own id = refl
joint_after n o None (Some g) fits own id = refl
joint_after n o (Some (Added r)) None fits own id = refl
joint_after n o (Some (Changed ps)) None fits own id = refl
joint_after n o (Some Removed) None fits own id = refl
joint_after n o (Some (Added r)) (Some (Changed ps)) fits own id = refl
joint_after n None (Some (Added r)) (Some Removed) fits own id = refl
joint_after n (Some x) (Some (Added r)) (Some Removed) fits own id = absurd (false≢true fits)
joint_after n None (Some (Changed ps)) (Some (Changed qs)) fits own id = refl
joint_after n (Some x) (Some (Changed ps)) (Some (Changed qs)) fits own id = ap Some (joint_with x ps qs)
joint_after n o (Some (Changed ps)) (Some Removed) fits own id = refl
joint_after n None (Some Removed) (Some (Added r)) fits own id = absurd (false≢true fits)
joint_after n (Some x) (Some Removed) (Some (Added r)) fits own id = ap Some (all_taken x r ∙ (λ i. record r { id = (own x refl ∙ sym (id (Added r) refl)) i }))
joint_after n o (Some (Added r)) (Some (Added s)) fits own id = refl
joint_after n o (Some (Changed ps)) (Some (Added s)) fits own id = refl
joint_after n None (Some Removed) (Some (Changed qs)) fits own id = refl
joint_after n (Some x) (Some Removed) (Some (Changed qs)) fits own id = refl
joint_after n o (Some Removed) (Some Removed) fits own id = refl

-- and what both make together fits what is there
joint_fits : (o : Option Record) (f g : Option Fate) → fits_fate o f ≡ true → fits_fate (after_fate f o) g ≡ true → fits_fate o (joint_fate f g) ≡ true
joint_fits o None None a b = refl
joint_fits o None (Some g) a b = b
joint_fits o (Some f) None a b = a
joint_fits None (Some (Added r)) (Some (Changed ps)) a b = refl
joint_fits (Some x) (Some (Added r)) (Some (Changed ps)) a b = absurd (false≢true a)
joint_fits o (Some (Added r)) (Some Removed) a b = refl
joint_fits None (Some (Changed ps)) (Some g) a b = absurd (false≢true a)
joint_fits (Some x) (Some (Changed ps)) (Some (Changed qs)) a b = refl
joint_fits (Some x) (Some (Changed ps)) (Some Removed) a b = refl
joint_fits (Some x) (Some (Changed ps)) (Some (Added s)) a b = absurd (false≢true b)
joint_fits None (Some Removed) (Some g) a b = absurd (false≢true a)
joint_fits (Some x) (Some Removed) (Some (Added r)) a b = refl
joint_fits (Some x) (Some Removed) (Some (Changed qs)) a b = absurd (false≢true b)
joint_fits (Some x) (Some Removed) (Some Removed) a b = absurd (false≢true b)
joint_fits o (Some (Added r)) (Some (Added s)) a b = absurd (false≢true b)

-- what is made of fates, by their ids
made_keys : {Y : Type 0} (make : ℕ → Fate → List Y) (es : Fates) → Rise es → made_by make es ≡ flat_map (λ n. made_of make n (fate_at es n)) (keys_of es)
unfolding made_by
made_keys make es rises = ap (made_by make) (sym (same_lookups (remade (keys_of es)) es (rise_made (fate_at es) (keys_of es) rises) rises found)) ∙ made_each (keys_of es)
  where
    remade : List ℕ → Fates
    remade ns = flat_map (λ n. entry_of n (fate_at es n)) ns

    found : (q : ℕ) → fate_at (remade (keys_of es)) q ≡ fate_at es q
    found q = made_is (fate_at es) q (keys_of es) ∙ ap (λ c. cond c (fate_at es q) None) (is_some-lookup q es) ∙ kept (fate_at es q)
      where
        kept : (o : Option Fate) → cond (is_some o) o None ≡ o
        kept None = refl
        kept (Some f) = refl

    made_each : (ns : List ℕ) → made_by make (remade ns) ≡ flat_map (λ n. made_of make n (fate_at es n)) ns
    made_each [] = refl
    made_each (n ∷ ns) = go (fate_at es n) (made_each ns)
      where
        go : (o : Option Fate) → made_by make (remade ns) ≡ flat_map (λ m. made_of make m (fate_at es m)) ns → made_by make (entry_of n o ++ remade ns) ≡ made_of make n o ++ flat_map (λ m. made_of make m (fate_at es m)) ns
        go None rest = rest
        go (Some f) rest = ap (λ l. make n f ++ l) rest

-- the fate of an object from one tree to another
abbrev between_changed : ℕ → List PropValue → Option Fate
between_changed n [] = None
between_changed n (p ∷ ps) = Some (Changed (p ∷ ps))

abbrev fate_between : ℕ → Option Record → Option Record → Option Fate
fate_between n None None = None
fate_between n None (Some b) = Some (Added b)
fate_between n (Some a) (Some b) = between_changed n (changed_props a b)
fate_between n (Some a) None = Some Removed

module _ (a b : Tree) (ta : IsObjectTree a) (tb : IsObjectTree b) where
  abbrev was_added : ℕ → Option Record → Option Record → Option Fate
  was_added n None (Some s) = Some (Added s)
  was_added n None None = None
  was_added n (Some r) y = None

  abbrev was_changed : ℕ → Option Record → Option Record → Option Fate
  was_changed n (Some r) (Some s) = between_changed n (changed_props r s)
  was_changed n (Some r) None = None
  was_changed n None y = None

  abbrev was_removed : ℕ → Option Record → Option Record → Option Fate
  was_removed n (Some r) None = Some Removed
  was_removed n (Some r) (Some s) = None
  was_removed n None y = None

  -- what each list says, entry by entry
  module _ {Y : Type 0} (make : ℕ → List Y) (back : List Y → Fates) (start : back [] ≡ []) (both : (xs ys : List Y) → back (xs ++ ys) ≡ back xs ++ back ys) (g : ℕ → Option Fate) (each : (n : ℕ) → back (make n) ≡ entry_of n (g n)) where
    listed_made : (ns : List ℕ) → back (flat_map make ns) ≡ flat_map (λ n. entry_of n (g n)) ns
    listed_made [] = start
    listed_made (n ∷ ns) = both (make n) (flat_map make ns) ∙ (λ i. each n i ++ listed_made ns i)

  removals_both : (xs ys : List ℕ) → removals (xs ++ ys) ≡ removals xs ++ removals ys
  removals_both [] ys = refl
  removals_both (x ∷ xs) ys = ap (λ l. (x, Removed) ∷ l) (removals_both xs ys)

  changes_both : (xs ys : List Change) → changes (xs ++ ys) ≡ changes xs ++ changes ys
  changes_both [] ys = refl
  changes_both (x ∷ xs) ys = ap (λ l. (x.id, Changed x.props) ∷ l) (changes_both xs ys)

  additions_both : (xs ys : List Record) → additions (xs ++ ys) ≡ additions xs ++ additions ys
  additions_both [] ys = refl
  additions_both (x ∷ xs) ys = ap (λ l. (x.id, Added x) ∷ l) (additions_both xs ys)

  last_removed : (q : ℕ) → last_of q (removals (batch_between a b).removed) ≡ was_removed q (record_at a q) (record_at b q)
  last_removed q =
      ap (last_of q) (listed_made (made_at removed_at a b) removals refl removals_both (λ n. was_removed n (record_at a n) (record_at b n)) (λ n. each n (record_at a n) (record_at b n)) (object_ids a))
      ∙ last_made (λ n. was_removed n (record_at a n) (record_at b n)) q (object_ids a)
      ∙ ap (λ c. cond c (was_removed q (record_at a q) (record_at b q)) None) (is_some-lookup q a.entries)
      ∙ last (record_at a q) (record_at b q)
    where
      each : (n : ℕ) (x y : Option Record) → removals (removed_at x y n) ≡ entry_of n (was_removed n x y)
      each n (Some r) None = refl
      each n (Some r) (Some s) = refl
      each n None y = refl

      last : (x y : Option Record) → cond (is_some x) (was_removed q x y) None ≡ was_removed q x y
      last (Some r) y = refl
      last None y = refl

  last_changed : (q : ℕ) → last_of q (changes (batch_between a b).changed) ≡ was_changed q (record_at a q) (record_at b q)
  last_changed q =
      ap (last_of q) (listed_made (made_at changed_at a b) changes refl changes_both (λ n. was_changed n (record_at a n) (record_at b n)) (λ n. each n (record_at a n) (record_at b n)) (object_ids b))
      ∙ last_made (λ n. was_changed n (record_at a n) (record_at b n)) q (object_ids b)
      ∙ ap (λ c. cond c (was_changed q (record_at a q) (record_at b q)) None) (is_some-lookup q b.entries)
      ∙ last (record_at a q) (record_at b q)
    where
      some : (n : ℕ) (ps : List PropValue) → changes (change_of n ps) ≡ entry_of n (between_changed n ps)
      some n [] = refl
      some n (p ∷ ps) = refl

      each : (n : ℕ) (x y : Option Record) → changes (changed_at x y n) ≡ entry_of n (was_changed n x y)
      each n (Some r) (Some s) = some n (changed_props r s)
      each n (Some r) None = refl
      each n None y = refl

      last : (x y : Option Record) → cond (is_some y) (was_changed q x y) None ≡ was_changed q x y
      last (Some r) (Some s) = refl
      last (Some r) None = refl
      last None (Some s) = refl
      last None None = refl

  last_added : (q : ℕ) → last_of q (additions (batch_between a b).added) ≡ was_added q (record_at a q) (record_at b q)
  last_added q =
      ap (last_of q) (listed_made (made_at added_at a b) additions refl additions_both (λ n. was_added n (record_at a n) (record_at b n)) (λ n. each n (record_at a n) (record_at b n) refl) (object_ids b))
      ∙ last_made (λ n. was_added n (record_at a n) (record_at b n)) q (object_ids b)
      ∙ ap (λ c. cond c (was_added q (record_at a q) (record_at b q)) None) (is_some-lookup q b.entries)
      ∙ last (record_at a q) (record_at b q)
    where
      each : (n : ℕ) (x y : Option Record) → record_at b n ≡ y → additions (added_at x y n) ≡ entry_of n (was_added n x y)
      each n None (Some s) is = λ i. (tb.own_id n s is i, Added s) ∷ []
      each n None None is = refl
      each n (Some r) y is = refl

      last : (x y : Option Record) → cond (is_some y) (was_added q x y) None ≡ was_added q x y
      last (Some r) (Some s) = refl
      last (Some r) None = refl
      last None (Some s) = refl
      last None None = refl

  -- the fates in an exact batch
  pub between_at : (q : ℕ) → fate_at (fates (batch_between a b)) q ≡ fate_between q (record_at a q) (record_at b q)
  between_at q =
      fates_are (batch_between a b) q
      ∙ last_both q (removals (batch_between a b).removed) (changes (batch_between a b).changed ++ additions (batch_between a b).added)
      ∙ ap (λ o. option_or o (last_of q (removals (batch_between a b).removed))) (last_both q (changes (batch_between a b).changed) (additions (batch_between a b).added))
      ∙ (λ i. option_or (option_or (last_added q i) (last_changed q i)) (last_removed q i))
      ∙ whole (record_at a q) (record_at b q)
    where
      some : (ps : List PropValue) → option_or (between_changed q ps) None ≡ between_changed q ps
      some [] = refl
      some (p ∷ ps) = refl

      whole : (x y : Option Record) → option_or (option_or (was_added q x y) (was_changed q x y)) (was_removed q x y) ≡ fate_between q x y
      whole (Some r) (Some s) = some (changed_props r s)
      whole (Some r) None = refl
      whole None (Some s) = refl
      whole None None = refl

  -- a list that is made of the fates, by the ids of a tree that has all of which something is made
  listed_back : {Y : Type 0} (make : ℕ → Fate → List Y) (at : Option Record → Option Record → ℕ → List Y) (ns : List ℕ) → IsStrictlyIncreasing ns → ((n : ℕ) → made_of make n (fate_between n (record_at a n) (record_at b n)) ≡ made_at at a b n) → ((n : ℕ) → Contains ns n ⊎ (made_at at a b n ≡ []))
      → made_by make (fates (batch_between a b)) ≡ flat_map (made_at at a b) ns
  listed_back make at ns rises each inside =
      made_keys make (fates (batch_between a b)) (rise_fates (batch_between a b))
      ∙ (λ i. flat_map (λ n. (ap (made_of make n) (between_at n) ∙ each n) i) (keys_of (fates (batch_between a b))))
      ∙ among (made_at at a b) (keys_of (fates (batch_between a b))) ns
      (rises_from _ (AllPairs-from_increasing _ (rise_fates (batch_between a b)))) (rises_from ns (AllPairs-from_increasing ns rises))
      (λ n there. inside n) (λ n there. back n (fate_at (fates (batch_between a b)) n) refl)
    where
      back : (n : ℕ) (f : Option Fate) → fate_at (fates (batch_between a b)) n ≡ f → Contains (keys_of (fates (batch_between a b))) n ⊎ (made_at at a b n ≡ [])
      back n (Some f) is = inl (there_key n (fates (batch_between a b)) (ap is_some is))
      back n None is = inr (sym (each n) ∙ ap (made_of make n) (sym (between_at n) ∙ is))

  -- so an exact batch is in order
  pub between_in_order : IsInOrder (batch_between a b)
  between_in_order = λ i. record {
    added = listed_back added_by added_at (object_ids b) tb.rising (λ n. adds n (record_at a n) (record_at b n)) (λ n. added_in n (record_at a n) (record_at b n) refl) i;
    changed = listed_back changed_by changed_at (object_ids b) tb.rising (λ n. changes_to n (record_at a n) (record_at b n)) (λ n. changed_in n (record_at a n) (record_at b n) refl) i;
    removed = listed_back removed_by removed_at (object_ids a) ta.rising (λ n. removes n (record_at a n) (record_at b n)) (λ n. removed_in n (record_at a n) (record_at b n) refl) i;
    focus = focus_change a.focus b.focus;
  }
    where
      none_added : (n : ℕ) (ps : List PropValue) → made_of added_by n (between_changed n ps) ≡ []
      none_added n [] = refl
      none_added n (p ∷ ps) = refl

      none_removed : (n : ℕ) (ps : List PropValue) → made_of removed_by n (between_changed n ps) ≡ []
      none_removed n [] = refl
      none_removed n (p ∷ ps) = refl

      all_changed : (n : ℕ) (ps : List PropValue) → made_of changed_by n (between_changed n ps) ≡ change_of n ps
      all_changed n [] = refl
      all_changed n (p ∷ ps) = refl

      adds : (n : ℕ) (x y : Option Record) → made_of added_by n (fate_between n x y) ≡ added_at x y n
      adds n None None = refl
      adds n None (Some s) = refl
      adds n (Some r) None = refl
      adds n (Some r) (Some s) = none_added n (changed_props r s)

      changes_to : (n : ℕ) (x y : Option Record) → made_of changed_by n (fate_between n x y) ≡ changed_at x y n
      changes_to n None None = refl
      changes_to n None (Some s) = refl
      changes_to n (Some r) None = refl
      changes_to n (Some r) (Some s) = all_changed n (changed_props r s)

      removes : (n : ℕ) (x y : Option Record) → made_of removed_by n (fate_between n x y) ≡ removed_at x y n
      removes n None None = refl
      removes n None (Some s) = refl
      removes n (Some r) None = refl
      removes n (Some r) (Some s) = none_removed n (changed_props r s)

      added_in : (n : ℕ) (x y : Option Record) → record_at b n ≡ y → Contains (object_ids b) n ⊎ (added_at x y n ≡ [])
      added_in n x (Some s) is = inl (there_key n b.entries (ap is_some is))
      added_in n None None is = inr refl
      added_in n (Some r) None is = inr refl

      changed_in : (n : ℕ) (x y : Option Record) → record_at b n ≡ y → Contains (object_ids b) n ⊎ (changed_at x y n ≡ [])
      changed_in n x (Some s) is = inl (there_key n b.entries (ap is_some is))
      changed_in n None None is = inr refl
      changed_in n (Some r) None is = inr refl

      removed_in : (n : ℕ) (x y : Option Record) → record_at a n ≡ x → Contains (object_ids a) n ⊎ (removed_at x y n ≡ [])
      removed_in n (Some r) y is = inl (there_key n a.entries (ap is_some is))
      removed_in n None y is = inr refl

  -- lead to what the second tree has
  between_leads : (q : ℕ) → after_fate (fate_at (fates (batch_between a b)) q) (record_at a q) ≡ record_at b q
  between_leads q = ap (λ f. after_fate f (record_at a q)) (between_at q) ∙ go (record_at a q) (record_at b q) refl refl
    where
      go : (x y : Option Record) → record_at a q ≡ x → record_at b q ≡ y → after_fate (fate_between q x y) x ≡ y
      go None None was is = refl
      go None (Some s) was is = refl
      go (Some r) None was is = refl
      go (Some r) (Some s) was is = by_props (changed_props r s) refl
        where
          by_props : (ps : List PropValue) → changed_props r s ≡ ps → after_fate (between_changed q ps) (Some r) ≡ Some s
          by_props [] props = ap Some (same_record r s (ta.own_id q r was ∙ sym (tb.own_id q s is)) props)
          by_props (p ∷ ps) props = ap Some (ap (with_props r) (sym props) ∙ taken_over r s ∙ (λ i. record s { id = (ta.own_id q r was ∙ sym (tb.own_id q s is)) i }))

  -- and fit the first
  pub between_fits : (q : ℕ) → fits_fate (record_at a q) (fate_at (fates (batch_between a b)) q) ≡ true
  between_fits q = ap (fits_fate (record_at a q)) (between_at q) ∙ go (record_at a q) (record_at b q)
    where
      go : (x y : Option Record) → fits_fate x (fate_between q x y) ≡ true
      go None None = refl
      go None (Some s) = refl
      go (Some r) None = refl
      go (Some r) (Some s) = by_props (changed_props r s)
        where
          by_props : (ps : List PropValue) → fits_fate (Some r) (between_changed q ps) ≡ true
          by_props [] = refl
          by_props (p ∷ ps) = refl

-- A batch whose lists are by rising id leads from one tree to another: each fate in it fits what the first has, and makes of it what the second has.
pub record Leads (a : Tree) (m : Batch) (b : Tree) : Type 0 where
  pub entries : Fates
  pub is : m ≡ batch_of entries m.focus
  pub rises : Rise entries
  pub own : AreOwn entries
  pub found : (q : ℕ) → after_fate (fate_at entries q) (record_at a q) ≡ record_at b q
  pub fits : (q : ℕ) → fits_fate (record_at a q) (fate_at entries q) ≡ true
  pub focus : unwrap_or m.focus a.focus ≡ b.focus

-- the batch that does nothing leads from a tree to itself
pub leads_nowhere : (a : Tree) → Leads a no_change a
unfolding made_by
leads_nowhere a = record {
  entries = [];
  is = none;
  rises = λ i low. absurd (omega arith);
  own = tt;
  found = λ q. refl;
  fits = λ q. refl;
  focus = refl;
}
  where
    none : no_change ≡ batch_of [] None
    none = refl

same_focus : (old new : Option ℕ) → unwrap_or (focus_change old new) old ≡ new
same_focus old new = go (option_eq nat_eq old new) refl
  where
    go : (c : Bool) → option_eq nat_eq old new ≡ c → unwrap_or (cond c None (Some new)) old ≡ new
    go true e = (option_equality nat_eq Decides-eqb old new).0 e
    go false e = refl

-- merged with an exact batch, it leads to where that one does
pub leads_further : (a b c : Tree) (m : Batch) → IsObjectTree a → IsObjectTree b → IsObjectTree c → Leads a m b → Leads a (merged m (batch_between b c)) c
unfolding merged
leads_further a b c m ta tb tc h = record {
  entries = joint_fates h.entries (fates (batch_between b c));
  is = ap (λ (x : Batch). merged x (batch_between b c)) h.is ∙ merged_is h.entries m.focus (batch_between b c) h.rises h.own;
  rises = rise_joint h.entries (fates (batch_between b c)) h.rises;
  own = own_joint h.entries (batch_between b c) h.rises h.own;
  found = λ q.
      ap (λ f. after_fate f (record_at a q)) (joint_is h.entries (fates (batch_between b c)) q)
      ∙ joint_after q (record_at a q) (fate_at h.entries q) (fate_at (fates (batch_between b c)) q) (h.fits q) (λ x is. ta.own_id q x is) (λ x is. fates_own (batch_between b c) q x is)
      ∙ ap (after_fate (fate_at (fates (batch_between b c)) q)) (h.found q)
      ∙ between_leads b c tb tc q;
  fits = λ q.
      ap (fits_fate (record_at a q)) (joint_is h.entries (fates (batch_between b c)) q)
      ∙ joint_fits (record_at a q) (fate_at h.entries q) (fate_at (fates (batch_between b c)) q) (h.fits q) (ap (λ o. fits_fate o (fate_at (fates (batch_between b c)) q)) (h.found q) ∙ between_fits b c tb tc q);
  focus = over (focus_change b.focus c.focus) m.focus a.focus ∙ ap (unwrap_or (focus_change b.focus c.focus)) h.focus ∙ same_focus b.focus c.focus;
}
  where
    over : (x y : Option (Option ℕ)) (o : Option ℕ) → unwrap_or (option_or x y) o ≡ unwrap_or x (unwrap_or y o)
    over (Some f) y o = refl
    over None y o = refl

-- a tree that takes over a batch that leads to another becomes that one
pub led : (a b : Tree) (m : Batch) → IsObjectTree a → IsObjectTree b → Leads a m b → patched a m ≡ b
led a b m ta tb h = ap (patched a) h.is ∙ (λ i. record {
  entries = same_lookups (patched a (batch_of h.entries m.focus)).entries b.entries (rise_patched a (batch_of h.entries m.focus) ta.rising) tb.rising (λ q. patched_at a h.entries m.focus q ta.rising h.rises h.own ∙ h.found q) i;
  focus = h.focus i;
})

all_own : (b : Batch) → AreOwn (fates b)
all_own b = own_from (fates b) (sorts (fates b) (rise_fates b)) (fates_own b)

-- The law of merged batches: to take over what two make together is to take over the first and then the second.
pub merged_patches : (t : Tree) (b c : Batch) → IsObjectTree t → IsInOrder b → IsInOrder c → FitsEach t b → patched t (merged b c) ≡ patched (patched t b) c
unfolding merged
merged_patches t b c hangs first second fits = λ i. record {
  entries = same_lookups (patched t (merged b c)).entries (patched (patched t b) c).entries (rise_patched t (merged b c) hangs.rising) (rise_patched (patched t b) c (rise_patched t b hangs.rising)) (λ q. left q ∙ sym (right q)) i;
  focus = over c.focus b.focus t.focus i;
}
  where
    left : (q : ℕ) → record_at (patched t (batch_of (joint_fates (fates b) (fates c)) (option_or c.focus b.focus))) q ≡ after_fate (fate_at (fates c) q) (after_fate (fate_at (fates b) q) (record_at t q))
    left q =
        patched_at t (joint_fates (fates b) (fates c)) (option_or c.focus b.focus) q hangs.rising (rise_joint (fates b) (fates c) (rise_fates b)) (own_joint (fates b) c (rise_fates b) (all_own b))
        ∙ ap (λ f. after_fate f (record_at t q)) (joint_is (fates b) (fates c) q)
        ∙ joint_after q (record_at t q) (fate_at (fates b) q) (fate_at (fates c) q) (fits q) (λ x is. hangs.own_id q x is) (λ x is. fates_own c q x is)

    right : (q : ℕ) → record_at (patched (patched t b) c) q ≡ after_fate (fate_at (fates c) q) (after_fate (fate_at (fates b) q) (record_at t q))
    right q =
        ap (λ (x : Batch). record_at (patched (patched t b) x) q) (sym second)
        ∙ patched_at (patched t b) (fates c) c.focus q (rise_patched t b hangs.rising) (rise_fates c) (all_own c)
        ∙ ap (after_fate (fate_at (fates c) q)) (ap (λ (x : Batch). record_at (patched t x) q) (sym first) ∙ patched_at t (fates b) b.focus q hangs.rising (rise_fates b) (all_own b))

    over : (x y : Option (Option ℕ)) (o : Option ℕ) → unwrap_or (option_or x y) o ≡ unwrap_or x (unwrap_or y o)
    over (Some f) y o = refl
    over None y o = refl

-- so to take two exact batches over at once leads to the last tree
pub merged_leads : (a b c : Tree) → IsObjectTree a → IsObjectTree b → IsObjectTree c → patched a (merged (batch_between a b) (batch_between b c)) ≡ c
merged_leads a b c ta tb tc =
    merged_patches a (batch_between a b) (batch_between b c) ta (between_in_order a b ta tb) (between_in_order b c tb tc) (between_fits a b ta tb)
    ∙ ap (λ (t : Tree). patched t (batch_between b c)) (patched_batch a b ta tb)
    ∙ patched_batch b c tb tc
