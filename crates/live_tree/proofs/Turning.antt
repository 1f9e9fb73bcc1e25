-- A tree with other records at its candidates is the tree of the document.
use Rattle.std.proofs.Common.{◌≡◌, ◌⊎◌, inl, inr, ℕ, List, [], Bool, true, false, not, Option, Contains, refl, sym, ap, subst, ◌∙◌}
use Rattle.std.specs.Prelude.{filter}
use Rattle.std.specs.Cmp.{nat_eq_equiv}
use Rattle.std.proofs.lemmas.Bool.{eqb-true, false≢true}
use Rattle.std.proofs.lemmas.List.Kept.{IsStrictlyIncreasing-filter}
use Rattle.std.proofs.lemmas.Map.Views.{Contains-from_any, list_any-from_Contains}
use Rattle.ax_base.specs.Document.{Document}
use Rattle.ax_base.specs.Trees.{IsTree}
use Rattle.ax_dom.specs.Among.{is_in}
use Rattle.ax_fresh.specs.Gathering.{with_records}
use Rattle.ax_notice.specs.Candidates.{AreCandidates}
use Rattle.ax_record.specs.declared.record.Record.{Record}
use Rattle.ax_record.specs.Tree.{Tree, entry_at, record_at}
use Rattle.ax_record.specs.ObjectTrees.{IsObjectTree}
use Rattle.ax_record.specs.Records.{tree, focused_object}
use Rattle.ax_record.proofs.TreeOf.{tree_hangs}
use Rattle.tree_diff.specs.Alike.{AreAlikeBut}
use Rattle.tree_diff.specs.Candidates.{candidates, IsSortedFrom, HaveAllDiffering}
use Rattle.live_tree.specs.Living.{WasAlike, LeadsTo}
use Rattle.kept_tree.specs.Renewing.{TwoTrees, renewed_tree}
use Rattle.live_tree.specs.Remaking.{staying, remade, IsOrderOf}
use Rattle.dirty_set.proofs.Firsts.{kept_cases}
use Rattle.kept_tree.proofs.Overlaying.{renewed_is}
use Rattle.tree_diff.proofs.Covering.{kept_by}
use Rattle.live_tree.proofs.Remaking.{stays_same, remade_found}

module _ (kept : Tree) (d : Document) (t : IsTree d) (ns down : List ℕ) (ordered : IsOrderOf d ns down) (hangs : IsObjectTree kept) (was : WasAlike kept d ns)
    (fresh : List (ℕ × Record)) (ids near stay others : List ℕ) (focus : Option ℕ) (made : fresh ≡ with_records d [] (remade kept d ns down)) (sorted : IsSortedFrom (candidates kept d ns) near)
    (still : stay ≡ staying kept d down) (in_order : IsSortedFrom stay others) (left : ids ≡ filter (λ n. not (is_in others n)) near) (focused : focus ≡ focused_object d)
    (differ : (old : Document) → IsTree old → kept ≡ tree old → AreAlikeBut old d ns → HaveAllDiffering kept (tree d) near) where
  have_near : HaveAllDiffering kept (tree d) near
  have_near = differ was.flushed was.was_tree was.shows was.alike

  stays_with : (n : ℕ) → is_in others n ≡ true → record_at kept n ≡ record_at (tree d) n
  stays_with n on = stays_same d t kept ns down ordered n (subst (λ l. Contains l n) still (in_order.only n (Contains-from_any eqb-true n others on)))

  by_near : (n : ℕ) (b : Bool) → is_in others n ≡ b → Contains near n → Contains (filter (λ k. not (is_in others k)) near) n ⊎ (record_at kept n ≡ record_at (tree d) n)
  by_near n true on inside = inr (stays_with n on)
  by_near n false off inside = inl (kept_by (λ k. not (is_in others k)) near n inside (ap not off))

  have_left : HaveAllDiffering kept (tree d) (filter (λ n. not (is_in others n)) near)
  have_left = record {
    rising = IsStrictlyIncreasing-filter (λ n. not (is_in others n)) near have_near.rising;
    all = λ n. elim (have_near.all n) [ inl inside ↦ by_near n (is_in others n) refl inside | inr same ↦ inr same ];
  }

  have_all : HaveAllDiffering kept (tree d) ids
  have_all = subst (HaveAllDiffering kept (tree d)) (sym left) have_left

  found : (n : ℕ) → Contains ids n → entry_at fresh n ≡ record_at (tree d) n
  found n inside =
      let both = kept_cases (λ k. not (is_in others k)) near n (subst (λ l. Contains l n) left inside) in
      ap (λ es. entry_at es n) made
      ∙ remade_found d t kept ns down ordered hangs near sorted n both.0 (λ same. off (is_in others n) both.1 (list_any-from_Contains nat_eq_equiv n others (in_order.all n (subst (λ l. Contains l n) (sym still) same))))
    where
      off : (b : Bool) → not b ≡ true → b ≡ true → ⊥
      off true e on = false≢true e
      off false e on = false≢true on

  entries_are : (renewed_tree kept fresh ids focus).entries ≡ (tree d).entries
  entries_are = renewed_is kept.entries (tree d).entries fresh ids hangs.rising (tree_hangs d t).rising found have_all.all

  -- it is that of the document, and the ids are where it differs from the one before
  pub leads_to : ((old : Document) → IsTree old → kept ≡ tree old → AreAlikeBut old d ns → AreCandidates kept (tree d) near) → LeadsTo kept d fresh ids near focus
  leads_to told = record {
    becomes = λ i. record { entries = entries_are i; focus = focused i };
    differ = have_all;
    told = told was.flushed was.was_tree was.shows was.alike;
  }

module _ (kept : Tree) (d : Document) (fresh : List (ℕ × Record)) (ids near : List ℕ) (focus : Option ℕ) (leads : LeadsTo kept d fresh ids near focus) where
  -- it hangs together
  pub becomes_hangs : IsTree d → IsObjectTree (renewed_tree kept fresh ids focus)
  becomes_hangs t = subst IsObjectTree (sym leads.becomes) (tree_hangs d t)

  module _ (r : TwoTrees) (is : r ≡ record { before = kept; after = renewed_tree kept fresh ids focus; places = ids }) where
    pub was_kept : r.before ≡ kept
    was_kept = ap (λ (x : TwoTrees). x.before) is

    pub is_now : r.after ≡ tree d
    is_now = ap (λ (x : TwoTrees). x.after) is ∙ leads.becomes

    same : r ≡ record { before = kept; after = tree d; places = ids }
    same = is ∙ (λ i. record { before = kept; after = leads.becomes i; places = ids })

    -- what is told of both
    pub both_differ : HaveAllDiffering r.before r.after r.places
    both_differ = subst (λ (x : TwoTrees). HaveAllDiffering x.before x.after x.places) (sym same) leads.differ

    pub both_told : AreCandidates r.before r.after near
    both_told = subst (λ (x : TwoTrees). AreCandidates x.before x.after near) (sym same) leads.told

-- what is made of two trees is made of what they are
pub at_both : {X : Type 0} (f : Tree → Tree → X) (value : X) (a b was now : Tree) → value ≡ f a b → a ≡ was → b ≡ now → value ≡ f was now
at_both f value a b was now is first second = is ∙ (λ i. f (first i) (second i))
