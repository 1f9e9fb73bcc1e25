-- Entries in any order, read by rising keys.
use Rattle.std.proofs.Common.{◌≡◌, ℕ, List, [], ◌∷◌, true, cond, Some, None, is_some, nat_eq, refl, sym, ap, ◌∙◌, arith}
use Rattle.std.specs.Prelude.{Result, Ok, Err, OnOk, IsOk}
use Rattle.std.specs.Ordering.{nat_cmp}
use Rattle.std.specs.Map.{lookup, remove_entry, set_value}
use Rattle.std.specs.BTreeMap.{is_at, insert_entry}
use Rattle.std.specs.HashMap.{HashMap, UpdatesBy}
use Rattle.std.proofs.lemmas.Bool.Decides.{nat_tests}
use Rattle.ax_base.proofs.Lookups.{finds, finds_is, lookup-insert_entry, lookup-set_value_at}
use Rattle.ax_base.proofs.SameLookups.{same_lookups}
use Rattle.ax_batch.proofs.Entries.{Rise, rise_with, rise_without, rise_set, lookup_without}
use Rattle.ax_batch.specs.Rising.{by_rising}

flip : (k q : ℕ) → nat_eq k q ≡ finds q k
flip k q = turned ∙ sym (finds_is q k)
  where
    turned : nat_eq k q ≡ nat_eq q k
    turned = grind (arith, nat_tests)

module _ {X : Type 0} where
  pub rises : (es : List (ℕ × X)) → Rise (by_rising es)
  unfolding by_rising
  rises [] = λ i low. absurd (omega arith)
  rises (e ∷ es) = rise_with e.0 e.1 (by_rising es) (rises es)

  -- what is found is the same
  pub finds_alike : (q : ℕ) (es : List (ℕ × X)) → lookup (is_at (nat_cmp q)) (by_rising es) ≡ lookup (nat_eq q) es
  unfolding by_rising
  finds_alike q [] = refl
  finds_alike q (e ∷ es) = lookup-insert_entry q e.0 e.1 (by_rising es) ∙ (λ i. cond (finds_is q e.0 i) (Some e.1) (finds_alike q es i))

  -- rising entries in which the same is found are these
  pub rising_as : (es xs : List (ℕ × X)) → Rise xs → ((q : ℕ) → lookup (nat_eq q) es ≡ lookup (is_at (nat_cmp q)) xs) → by_rising es ≡ xs
  rising_as es xs climbs same = same_lookups (by_rising es) xs (rises es) climbs (λ q. finds_alike q es ∙ same q)

  module _ {S : Type 0} (old new : HashMap ℕ X S) where
    -- after a value is put in
    pub put_in : (k : ℕ) (v : X) → UpdatesBy nat_eq (nat_eq k) old new (Some v) → by_rising new.entries ≡ insert_entry nat_cmp (by_rising old.entries) k v
    put_in k v updates = rising_as new.entries _ (rise_with k v (by_rising old.entries) (rises old.entries))
        (λ q. updates.0 q ∙ (λ i. cond (flip k q i) (Some v) (sym (finds_alike q old.entries) i)) ∙ sym (lookup-insert_entry q k v (by_rising old.entries)))

    -- after one is taken out
    pub taken : (k : ℕ) → UpdatesBy nat_eq (nat_eq k) old new None → by_rising new.entries ≡ remove_entry (is_at (nat_cmp k)) (by_rising old.entries)
    taken k updates = rising_as new.entries _ (rise_without k (by_rising old.entries) (rises old.entries))
        (λ q. updates.0 q ∙ (λ i. cond (sym (finds_is k q) i) None (sym (finds_alike q old.entries) i)) ∙ sym (lookup_without q k (by_rising old.entries) (rises old.entries)))

    -- after one is changed
    pub written : (k : ℕ) (v : X) → is_some (lookup (nat_eq k) old.entries) ≡ true → UpdatesBy nat_eq (nat_eq k) old new (Some v) → by_rising new.entries ≡ set_value (is_at (nat_cmp k)) (by_rising old.entries) v
    written k v there updates = rising_as new.entries _ (rise_set k v (by_rising old.entries) (rises old.entries))
        (λ q. updates.0 q ∙ (λ i. cond (sym (finds_is k q) i) (Some v) (sym (finds_alike q old.entries) i)) ∙ sym (lookup-set_value_at q k v (by_rising old.entries) (ap is_some (finds_alike k old.entries) ∙ there)))

-- what holds at `Ok` of a result that is one
pub ok_there : {T E P : Type 0} (r : Result T E) → OnOk r P → IsOk r → P
ok_there (Ok x) h ok = h
ok_there (Err e) h ok = absurd (cc)
