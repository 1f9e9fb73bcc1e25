-- The root alone is a tree.
use Rattle.std.proofs.Common.{◌≡◌, ◌≢◌, ℕ, List, [], ◌∷◌, Bool, true, false, cond, Option, Some, None, is_some, Contains, refl, sym, ap, subst, ◌∙◌, arith}
use Rattle.std.specs.Ordering.{nat_cmp}
use Rattle.std.specs.BTreeMap.{insert_entry}
use Rattle.std.specs.Option.{option_map_or}
use Rattle.std.proofs.lemmas.Bool.{false≢true}
use Rattle.std.proofs.lemmas.Option.{same_Some, none-some}
use Rattle.ax_base.specs.Document.{root}
use Rattle.ax_base.specs.Trees.{HasNoRepeats}
use Rattle.ax_base.proofs.Lookups.{finds, found_is}
use Rattle.ax_base.proofs.Repeats.{no_repeats-nil}
use Rattle.ax_record.specs.declared.record.Record.{Record}
use Rattle.ax_record.specs.Tree.{Tree, record_at, has_object, kids_of, IsKid}
use Rattle.ax_record.specs.ObjectTrees.{IsObjectTree, HasFittingText, KeepsBounds}

module _ (r : Record) (own : r.id ≡ root) (top : r.parent ≡ None) (bare : r.kids ≡ []) (fits : HasFittingText r) (bounds : KeepsBounds r) where
  abbrev t : Tree
  t = record { entries = (root, r) ∷ []; focus = None }

  none_below : (n : ℕ) → kids_of t n ≡ []
  none_below n = go (finds n root)
    where
      go : (b : Bool) → option_map_or (λ (x : Record). x.kids) (cond b (Some r) None) [] ≡ []
      go true = bare
      go false = refl

  no_kid : (n k : ℕ) → IsKid t n k → ⊥
  no_kid n k kid = let inside : Contains [] k = subst (λ l. Contains l k) (none_below n) kid in omega arith

  only_root : (n : ℕ) → has_object t n ≡ true → n ≡ root
  only_root n there = go (finds n root) refl there
    where
      go : (b : Bool) → finds n root ≡ b → is_some {T = Record} (cond b (Some r) None) ≡ true → n ≡ root
      go true at there = found_is n root at
      go false at there = absurd (false≢true there)

  found : (n : ℕ) (x : Record) → record_at t n ≡ Some x → (r ≡ x) × (n ≡ root)
  found n x is = go (finds n root) refl is
    where
      go : (b : Bool) → finds n root ≡ b → cond b (Some r) None ≡ Some x → (r ≡ x) × (n ≡ root)
      go true at is = (same_Some r x is, found_is n root at)
      go false at is = absurd (none-some x is)

  pub lone_root : IsObjectTree t
  lone_root = record {
    level = λ _. 0;
    deeper = λ n k kid. absurd (no_kid n k kid);
    shallow = λ n. omega arith;
    rising = λ k low. absurd (omega arith);
    few = omega arith;
    own_id = λ n x is. ap (λ (y : Record). y.id) (sym (found n x is).0) ∙ own ∙ sym (found n x is).1;
    has_root = refl;
    root_parent = top;
    root_no_kid = λ n kid. no_kid n root kid;
    known = λ n k kid. absurd (no_kid n k kid);
    one_list = λ m n k kid also. absurd (no_kid m k kid);
    once = λ n. subst HasNoRepeats (sym (none_below n)) no_repeats-nil;
    parent = λ n k kid. absurd (no_kid n k kid);
    hung = λ n there below. absurd (below (only_root n there));
    focused = tt;
    texts = λ n x is. subst HasFittingText (found n x is).0 fits;
    within = λ n x is. subst KeepsBounds (found n x is).0 bounds;
  }

-- the same of the entries that one insert into an empty map leaves
pub lone_entries : (es fs : List (ℕ × Record)) (r : Record) → r.id ≡ root → r.parent ≡ None → r.kids ≡ [] → HasFittingText r → KeepsBounds r → es ≡ [] → fs ≡ insert_entry nat_cmp es r.id r → IsObjectTree (record { entries = fs; focus = None })
lone_entries es fs r own top bare fits bounds empty put =
    subst (λ l. IsObjectTree (record { entries = l; focus = None })) (sym (put ∙ (λ i. insert_entry nat_cmp (empty i) (own i) r))) (lone_root r own top bare fits bounds)
