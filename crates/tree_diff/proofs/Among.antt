-- A batch made from some ids alone.
use Rattle.std.proofs.Common.{◌≡◌, ◌⊎◌, inl, inr, ℕ, List, [], ◌++◌, Bool, true, false, Contains, Option, Some, None, is_some, refl, sym, ap, ◌∙◌}
use Rattle.std.specs.List.{flat_map}
use Rattle.std.specs.List.Sorted.{IsStrictlyIncreasing}
use Rattle.std.proofs.lemmas.Bool.{false≢true}
use Rattle.std.proofs.lemmas.List.Kept.{AllPairs-from_increasing}
use Rattle.ax_base.proofs.Rising.{Rises, rises_from, among}
use Rattle.ax_record.specs.declared.record.Record.{Record}
use Rattle.ax_record.specs.Tree.{Tree, record_at, object_ids, has_object, made_at}
use Rattle.ax_record.specs.ObjectTrees.{IsObjectTree}
use Rattle.ax_record.proofs.Walking.{id_there}
use Rattle.ax_batch.specs.declared.batch.Change.{Change}
use Rattle.ax_batch.specs.Batches.{added_at, changed_at, removed_at, focus_change, batch_between}
use Rattle.ax_batch.proofs.Patching.{none_added, none_changed, none_removed}
use Rattle.tree_diff.specs.Candidates.{HaveAllDiffering}

rises : (xs : List ℕ) → IsStrictlyIncreasing xs → Rises xs
rises xs climbs = rises_from xs (AllPairs-from_increasing xs climbs)

lacks : (o : Option Record) → is_some o ≡ false → o ≡ None
lacks None e = refl
lacks (Some r) e = absurd (false≢true (sym e))

-- a list of a batch, made of what either tree has of each id: nothing where they have the same
module _ {Y : Type 0} (make : Option Record → Option Record → ℕ → List Y) (nothing : (o : Option Record) (n : ℕ) → make o o n ≡ []) (a b : Tree) where
  -- the list over all ids is the list over any rising ids that have all at which the trees differ
  batch_part : (all some : List ℕ) → Rises all → HaveAllDiffering a b some
      → ((n : ℕ) → Contains all n ⊎ (made_at make a b n ≡ []))
      → flat_map (made_at make a b) all ≡ flat_map (made_at make a b) some
  batch_part all some climbs have known =
      among (made_at make a b) all some climbs (rises some have.rising)
      (λ n inside. elim (have.all n) [ inl there ↦ inl there | inr same ↦ inr (ap (λ o. make o (record_at b n) n) same ∙ nothing (record_at b n) n) ])
      (λ n inside. known n)

  -- an id that a tree lacks gives nothing, where the list is over that tree
  of_new : ((o : Option Record) (n : ℕ) → make o None n ≡ []) → (n : ℕ) → Contains (object_ids b) n ⊎ (made_at make a b n ≡ [])
  of_new none n = go (has_object b n) refl
    where
      go : (x : Bool) → has_object b n ≡ x → Contains (object_ids b) n ⊎ (made_at make a b n ≡ [])
      go true there = inl (id_there b n there)
      go false lost = inr (ap (λ o. make (record_at a n) o n) (lacks (record_at b n) lost) ∙ none (record_at a n) n)

  of_old : ((o : Option Record) (n : ℕ) → make None o n ≡ []) → (n : ℕ) → Contains (object_ids a) n ⊎ (made_at make a b n ≡ [])
  of_old none n = go (has_object a n) refl
    where
      go : (x : Bool) → has_object a n ≡ x → Contains (object_ids a) n ⊎ (made_at make a b n ≡ [])
      go true there = inl (id_there a n there)
      go false lost = inr (ap (λ o. make o (record_at b n) n) (lacks (record_at a n) lost) ∙ none (record_at b n) n)

module _ (a b : Tree) (ta : IsObjectTree a) (tb : IsObjectTree b) (ns : List ℕ) (have : HaveAllDiffering a b ns) where
  -- the batch over such ids is the batch
  pub batch_over : batch_between a b ≡ record {
    added = flat_map (made_at added_at a b) ns;
    changed = flat_map (made_at changed_at a b) ns;
    removed = flat_map (made_at removed_at a b) ns;
    focus = focus_change a.focus b.focus;
  }
  batch_over = λ i. record {
    added = batch_part added_at none_added a b (object_ids b) ns (rises (object_ids b) tb.rising) have (of_new added_at none_added a b added_none) i;
    changed = batch_part changed_at none_changed a b (object_ids b) ns (rises (object_ids b) tb.rising) have (of_new changed_at none_changed a b changed_none) i;
    removed = batch_part removed_at none_removed a b (object_ids a) ns (rises (object_ids a) ta.rising) have (of_old removed_at none_removed a b removed_none) i;
    focus = focus_change a.focus b.focus;
  }
    where
      added_none : (o : Option Record) (n : ℕ) → added_at o None n ≡ []
      added_none None n = refl
      added_none (Some r) n = refl

      changed_none : (o : Option Record) (n : ℕ) → changed_at o None n ≡ []
      changed_none None n = refl
      changed_none (Some r) n = refl

      removed_none : (o : Option Record) (n : ℕ) → removed_at None o n ≡ []
      removed_none None n = refl
      removed_none (Some r) n = refl

  -- what is gathered from nothing on over such ids is the batch
  pub batch_made : (added : List Record) (changed : List Change) (removed : List ℕ) (was is : Option ℕ) → added ≡ [] → changed ≡ [] → removed ≡ [] → was ≡ a.focus → is ≡ b.focus
      → record {
        added = added ++ flat_map (made_at added_at a b) ns;
        changed = changed ++ flat_map (made_at changed_at a b) ns;
        removed = removed ++ flat_map (made_at removed_at a b) ns;
        focus = focus_change was is;
      } ≡ batch_between a b
  batch_made added changed removed was is no_added no_changed no_removed same_was same_is =
      (λ i. record {
        added = no_added i ++ flat_map (made_at added_at a b) ns;
        changed = no_changed i ++ flat_map (made_at changed_at a b) ns;
        removed = no_removed i ++ flat_map (made_at removed_at a b) ns;
        focus = focus_change (same_was i) (same_is i);
      })
      ∙ sym batch_over
