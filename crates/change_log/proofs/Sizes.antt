-- How large the batch of a log is, however many moments it is of.
use Rattle.std.proofs.Common.{◌≡◌, ℕ, suc, ◌+◌, ◌≤◌, ◌++◌, List, [], ◌∷◌, length, Bool, true, false, ◌||◌, Option, Some, None, is_some, refl, sym, ap, ◌∙◌, arith}
use Rattle.std.specs.List.{list_any}
use Rattle.std.specs.Ordering.{nat_cmp}
use Rattle.std.specs.Map.{keys_of}
use Rattle.std.specs.BTreeMap.{is_at}
use Rattle.std.specs.Cmp.{nat_cmp_total, eq_by_cmp_equiv}
use Rattle.std.proofs.lemmas.Bool.{false≢true}
use Rattle.std.proofs.lemmas.List.{length-append, length-map}
use Rattle.std.proofs.lemmas.List.Folds.{list_any-append}
use Rattle.std.proofs.lemmas.Map.Keys.{IsDistinct-from_sorted}
use Rattle.std.proofs.lemmas.Map.Made.{length-le_from_is_member, is_some-lookup}
use Rattle.ax_base.proofs.Lookups.{finds}
use Rattle.ax_record.specs.declared.record.Record.{Record}
use Rattle.ax_record.specs.Tree.{Tree, record_at, object_ids}
use Rattle.ax_batch.specs.declared.batch.Batch.{Batch}
use Rattle.ax_batch.specs.declared.fate.Fate.{Fate}
use Rattle.ax_batch.specs.declared.fate.Fate.TheVariants.{Added, Changed, Removed}
use Rattle.ax_batch.specs.Fates.{Fates, fate_at, after_fate, fits_fate, added_by, changed_by, removed_by, made_by}
use Rattle.ax_batch.proofs.Merging.{sorts}
use Rattle.ax_batch.proofs.Chains.{Leads}
use Rattle.change_log.specs.Logs.{size, span, AreTrees}
use Rattle.change_log.proofs.Spans.{span_leads}

-- each fate is in one list
parts : (es : Fates) → length (made_by added_by es) + length (made_by changed_by es) + length (made_by removed_by es) ≡ length es
unfolding made_by
parts [] = refl
parts (e ∷ es) = go e.1 (parts es)
  where
    go : (f : Fate) → length (made_by added_by es) + length (made_by changed_by es) + length (made_by removed_by es) ≡ length es
        → length (added_by e.0 f ++ made_by added_by es) + length (changed_by e.0 f ++ made_by changed_by es) + length (removed_by e.0 f ++ made_by removed_by es) ≡ suc (length es)
    go (Added r) h = omega arith
    go (Changed ps) h = omega arith
    go Removed h = omega arith

-- one of two trees has the object of a fate that leads from the first to the second
known : (x y : Option Record) (f : Option Fate) → after_fate f x ≡ y → fits_fate x f ≡ true → is_some f ≡ true → (is_some x || is_some y) ≡ true
known x y None after fits there = absurd (false≢true there)
known (Some r) y (Some f) after fits there = refl
known None y (Some (Added r)) after fits there = ap is_some (sym after)
known None y (Some (Changed ps)) after fits there = absurd (false≢true fits)
known None y (Some Removed) after fits there = absurd (false≢true fits)

-- a batch that leads from one tree to another has no more entries than both have objects
pub few : (a b : Tree) (m : Batch) → Leads a m b → size m ≤ length (object_ids a) + length (object_ids b)
few a b m h =
    let all : size m ≡ length h.entries = ap size h.is ∙ parts h.entries in
    let keys : length (keys_of h.entries) ≡ length h.entries = length-map h.entries (λ e. e.0) in
    let both : length (object_ids a ++ object_ids b) ≡ length (object_ids a) + length (object_ids b) = length-append (object_ids a) (object_ids b) in
    let inside : length (keys_of h.entries) ≤ length (object_ids a ++ object_ids b) =
    length-le_from_is_member {eq = λ x y. is_at (nat_cmp x) y} (eq_by_cmp_equiv nat_cmp_total) (keys_of h.entries) (object_ids a ++ object_ids b) (IsDistinct-from_sorted nat_cmp (keys_of h.entries) (sorts h.entries h.rises)) among in
    omega arith
  where
    among : (q : ℕ) → list_any (finds q) (keys_of h.entries) ≡ true → list_any (finds q) (object_ids a ++ object_ids b) ≡ true
    among q there =
        list_any-append (finds q) (object_ids a) (object_ids b)
        ∙ (λ i. sym (is_some-lookup (is_at (nat_cmp q)) a.entries) i || sym (is_some-lookup (is_at (nat_cmp q)) b.entries) i)
        ∙ known (record_at a q) (record_at b q) (fate_at h.entries q) (h.found q) (h.fits q) (is_some-lookup (is_at (nat_cmp q)) h.entries ∙ there)

-- so has that of the log of any moments, however many
pub span_few : (trees : ℕ → Tree) (t p : ℕ) → AreTrees trees → t ≤ p → size (span trees t p).batch ≤ length (object_ids (trees t)) + length (object_ids (trees p))
span_few trees t p h up = few (trees t) (trees p) (span trees t p).batch (span_leads trees t p h up)
