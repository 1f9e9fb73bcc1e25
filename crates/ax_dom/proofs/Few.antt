-- How many nodes there are.
use Rattle.std.proofs.Common.{◌≡◌, ◌≢◌, ◌||◌, ◌≤◌, inl, inr, ℕ, suc, ◌∷◌, length, true, ◌∙◌}
use Rattle.std.specs.List.{list_any}
use Rattle.std.specs.List.Sorted.{IsStrictlyIncreasing}
use Rattle.std.specs.Ordering.{nat_cmp}
use Rattle.std.specs.Cmp.{nat_cmp_total, eq_by_cmp_equiv}
use Rattle.std.specs.BTreeMap.{is_at}
use Rattle.std.proofs.lemmas.Bool.{or_left, or_right}
use Rattle.std.proofs.lemmas.Map.Keys.{IsDistinct-from_sorted, sorted_from_strictly_increasing}
use Rattle.std.proofs.lemmas.Map.Made.{length-le_from_is_member, is_some-lookup}
use Rattle.ax_base.specs.Document.{Document, root, ids, has}
use Rattle.ax_base.proofs.Lookups.{finds, finds_tells}
use Rattle.ax_dom.specs.Used.{is_used}

-- no more than the root and the ids ever inserted, where each other node was inserted
pub few_nodes : (d : Document) → IsStrictlyIncreasing (ids d) → ((n : ℕ) → has d n ≡ true → n ≢ root → is_used d n ≡ true) → length (ids d) ≤ suc (length d.used)
few_nodes d rising marked =
    length-le_from_is_member {eq = λ x y. is_at (nat_cmp x) y} (eq_by_cmp_equiv nat_cmp_total) (ids d) (root ∷ d.used) (IsDistinct-from_sorted nat_cmp (ids d) (sorted_from_strictly_increasing (ids d) rising)) among
  where
    among : (q : ℕ) → list_any (finds q) (ids d) ≡ true → (finds q root || list_any (finds q) d.used) ≡ true
    among q inside = elim (finds_tells q root) [
      | inl (on, same) ↦ or_left (finds q root) (list_any (finds q) d.used) on
      | inr (off, apart) ↦ or_right (finds q root) (list_any (finds q) d.used) (marked q (is_some-lookup (is_at (nat_cmp q)) d.nodes ∙ inside) apart)
    ]
