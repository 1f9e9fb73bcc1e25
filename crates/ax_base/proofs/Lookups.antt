-- Lists of entries by number, and of numbers, that a tree map or a tree set keeps.
use Rattle.std.proofs.Common.{◌≡◌, ◌≢◌, ◌⊎◌, inl, inr, ℕ, ◌||◌, List, [], ◌∷◌, Bool, true, false, cond, Some, None, is_some, refl, sym, ap, ◌∙◌, eqb}
use Rattle.std.specs.declared.cmp.Ordering.{Ordering}
use Rattle.std.specs.declared.cmp.Ordering.TheVariants.{Less, Equal, Greater}
use Rattle.std.specs.List.{list_any, AllByRecursion}
use Rattle.std.specs.List.Sorted.{IsStrictlySortedBy, IsStrictlyIncreasing}
use Rattle.std.specs.Ordering.{nat_cmp, match_ordering, ordering_reverse}
use Rattle.std.specs.FinMap.{nat_cmp-IsAntisymmetric}
use Rattle.std.specs.Cmp.{nat_cmp_total, eq_by_cmp_equiv, unsigned_tied, tied_itself}
use Rattle.std.specs.Map.{lookup, set_value, remove_entry, keys_of}
use Rattle.std.specs.Set.{remove_key}
use Rattle.std.specs.BTreeMap.{is_at, insert_entry}
use Rattle.std.specs.BTreeSet.{insert_key}
use Rattle.std.proofs.lemmas.Bool.{eqb-true, eq-eqb, false≢true}
use Rattle.std.proofs.lemmas.Bool.Decides.{eqb_tells}
use Rattle.std.proofs.lemmas.Map.{lookup-set_value}
use Rattle.std.proofs.lemmas.Map.Keys.{IsStrictlyIncreasing-from_sorted, sorted_from_strictly_increasing}

-- whether a look-up at a finds the key b
abbrev pub finds : ℕ → ℕ → Bool
finds a b = is_at (nat_cmp a) b

pub finds_is : (a b : ℕ) → finds a b ≡ eqb a b
finds_is a b = unsigned_tied a b

pub finds_same : (a b : ℕ) → a ≡ b → finds a b ≡ true
finds_same a b e = finds_is a b ∙ eq-eqb a b e

pub finds_tells : (a b : ℕ) → ((finds a b ≡ true) × (a ≡ b)) ⊎ ((finds a b ≡ false) × (a ≢ b))
finds_tells a b = elim (eqb_tells a b) [ inl (e, same) ↦ inl (finds_is a b ∙ e, same) | inr (e, apart) ↦ inr (finds_is a b ∙ e, apart) ]

pub found_is : (a b : ℕ) → finds a b ≡ true → a ≡ b
found_is a b e = eqb-true a b (sym (finds_is a b) ∙ e)

shadowed : {A : Type 0} (b : Bool) (x y z : A) → cond b x z ≡ cond b x (cond b y z)
shadowed true x y z = refl
shadowed false x y z = refl

swapped : {A : Type 0} (a b : Bool) (x y z : A) → (a ≡ true → b ≡ true → ⊥) → cond a x (cond b y z) ≡ cond b y (cond a x z)
swapped true true x y z apart = absurd (apart refl refl)
swapped true false x y z apart = refl
swapped false b x y z apart = refl

-- a look-up after an insert
pub lookup-insert_entry : {X : Type 0} (q k : ℕ) (v : X) (es : List (ℕ × X)) → lookup (is_at (nat_cmp q)) (insert_entry nat_cmp es k v) ≡ cond (finds q k) (Some v) (lookup (is_at (nat_cmp q)) es)
lookup-insert_entry q k v [] = refl
lookup-insert_entry {X} q k v (e ∷ es) = go (nat_cmp k e.0) refl (lookup-insert_entry q k v es)
  where
    go : (r : Ordering) → nat_cmp k e.0 ≡ r
        → lookup (is_at (nat_cmp q)) (insert_entry nat_cmp es k v) ≡ cond (finds q k) (Some v) (lookup (is_at (nat_cmp q)) es)
        → lookup (is_at (nat_cmp q)) (match_ordering r ((k, v) ∷ e ∷ es) ((e.0, v) ∷ es) (e ∷ insert_entry nat_cmp es k v)) ≡ cond (finds q k) (Some v) (cond (finds q e.0) (Some e.1) (lookup (is_at (nat_cmp q)) es))
    go Less is rest = refl
    go Equal is rest =
        let same : k ≡ e.0 = nat_cmp-IsAntisymmetric k e.0 is in
        shadowed (finds q e.0) (Some v) (Some e.1) (lookup (is_at (nat_cmp q)) es) ∙ ap (λ j. cond (finds q j) (Some v) (cond (finds q e.0) (Some e.1) (lookup (is_at (nat_cmp q)) es))) (sym same)
    go Greater is rest =
        ap (λ l. cond (finds q e.0) (Some e.1) l) rest
        ∙ swapped (finds q e.0) (finds q k) (Some e.1) (Some v) (lookup (is_at (nat_cmp q)) es) (λ a b. both (found_is q e.0 a) (found_is q k b) is)
      where
        both : q ≡ e.0 → q ≡ k → nat_cmp k e.0 ≡ Greater → ⊥
        both a b is = let t : nat_cmp k k ≡ Greater = ap (nat_cmp k) (sym b ∙ a) ∙ is in let u : nat_cmp k k ≡ Equal = tied_itself nat_cmp_total k in cc

-- a look-up after a value is set
pub lookup-set_value_at : {X : Type 0} (q k : ℕ) (w : X) (es : List (ℕ × X)) → is_some (lookup (is_at (nat_cmp k)) es) ≡ true → lookup (is_at (nat_cmp q)) (set_value (is_at (nat_cmp k)) es w) ≡ cond (finds k q) (Some w) (lookup (is_at (nat_cmp q)) es)
lookup-set_value_at q k w es there = lookup-set_value {eq = λ x y. is_at (nat_cmp x) y} (eq_by_cmp_equiv nat_cmp_total) (is_at (nat_cmp k)) (λ x y e. ap (λ j. is_at (nat_cmp j) y) (found_is k x e)) q w es there

-- to take a new entry away again changes nothing
pub remove_entry-insert_entry : {X : Type 0} (k : ℕ) (v : X) (es : List (ℕ × X)) → lookup (is_at (nat_cmp k)) es ≡ None → remove_entry (is_at (nat_cmp k)) (insert_entry nat_cmp es k v) ≡ es
remove_entry-insert_entry {X} k v [] fresh = ap (λ x. cond x [] ((k, v) ∷ [])) (finds_same k k refl)
remove_entry-insert_entry {X} k v (e ∷ es) fresh = go (nat_cmp k e.0) (finds k e.0) refl refl fresh (remove_entry-insert_entry k v es)
  where
    go : (r : Ordering) (y : Bool) → nat_cmp k e.0 ≡ r → finds k e.0 ≡ y → cond y (Some e.1) (lookup (is_at (nat_cmp k)) es) ≡ None
        → (lookup (is_at (nat_cmp k)) es ≡ None → remove_entry (is_at (nat_cmp k)) (insert_entry nat_cmp es k v) ≡ es)
        → remove_entry (is_at (nat_cmp k)) (match_ordering r ((k, v) ∷ e ∷ es) ((e.0, v) ∷ es) (e ∷ insert_entry nat_cmp es k v)) ≡ e ∷ es
    go r true is at fresh rest = cc
    go Less false is at fresh rest = ap (λ y. cond y (e ∷ es) ((k, v) ∷ remove_entry (is_at (nat_cmp k)) (e ∷ es))) (finds_same k k refl)
    go Equal false is at fresh rest = absurd (false≢true (sym at ∙ finds_same k e.0 (nat_cmp-IsAntisymmetric k e.0 is)))
    go Greater false is at fresh rest = rw at (ap (λ l. e ∷ l) (rest fresh))

-- to take a new key away again changes nothing
pub remove_key-insert_key : (k : ℕ) (ks : List ℕ) → list_any (is_at (nat_cmp k)) ks ≡ false → remove_key (is_at (nat_cmp k)) (insert_key nat_cmp ks k) ≡ ks
remove_key-insert_key k [] fresh = ap (λ x. cond x [] (k ∷ [])) (finds_same k k refl)
remove_key-insert_key k (x ∷ xs) fresh = go (nat_cmp k x) (finds k x) refl refl fresh (remove_key-insert_key k xs)
  where
    go : (r : Ordering) (y : Bool) → nat_cmp k x ≡ r → finds k x ≡ y → (y || list_any (is_at (nat_cmp k)) xs) ≡ false
        → (list_any (is_at (nat_cmp k)) xs ≡ false → remove_key (is_at (nat_cmp k)) (insert_key nat_cmp xs k) ≡ xs)
        → remove_key (is_at (nat_cmp k)) (match_ordering r (k ∷ x ∷ xs) (x ∷ xs) (x ∷ insert_key nat_cmp xs k)) ≡ x ∷ xs
    go r true is at fresh rest = absurd (false≢true (sym fresh))
    go Less false is at fresh rest = ap (λ y. cond y (x ∷ xs) (k ∷ remove_key (is_at (nat_cmp k)) (x ∷ xs))) (finds_same k k refl)
    go Equal false is at fresh rest = absurd (false≢true (sym at ∙ finds_same k x (nat_cmp-IsAntisymmetric k x is)))
    go Greater false is at fresh rest = rw at (ap (λ l. x ∷ l) (rest fresh))

-- to set one value and to insert another entry goes in either order
pub set_value-insert_entry : {X : Type 0} (test : ℕ → Bool) (es : List (ℕ × X)) (k : ℕ) (v w : X) → test k ≡ false → set_value test (insert_entry nat_cmp es k v) w ≡ insert_entry nat_cmp (set_value test es w) k v
set_value-insert_entry {X} test [] k v w off = ap (λ x. cond x ((k, w) ∷ []) ((k, v) ∷ [])) off
set_value-insert_entry {X} test (e ∷ es) k v w off = go (nat_cmp k e.0) (test e.0) refl refl (set_value-insert_entry test es k v w off)
  where
    go : (r : Ordering) (x : Bool) → nat_cmp k e.0 ≡ r → test e.0 ≡ x → set_value test (insert_entry nat_cmp es k v) w ≡ insert_entry nat_cmp (set_value test es w) k v
        → set_value test (match_ordering r ((k, v) ∷ e ∷ es) ((e.0, v) ∷ es) (e ∷ insert_entry nat_cmp es k v)) w ≡ insert_entry nat_cmp (cond x ((e.0, w) ∷ es) (e ∷ set_value test es w)) k v
    go Less true is at rest = rw (off, at, is) refl
    go Less false is at rest = rw (off, at, is) refl
    go Equal true is at rest = absurd (false≢true (sym off ∙ ap test (nat_cmp-IsAntisymmetric k e.0 is) ∙ at))
    go Equal false is at rest = rw (at, is) refl
    go Greater true is at rest = rw (at, is) refl
    go Greater false is at rest = rw (at, is) (ap (λ l. e ∷ l) rest)

or_swap : (a b c : Bool) → (a || (b || c)) ≡ (b || (a || c))
or_swap true true c = refl
or_swap true false c = refl
or_swap false b c = refl

-- whether a key is among the keys after an insert
pub list_any-insert_key : (q k : ℕ) (ks : List ℕ) → (finds q k || list_any (is_at (nat_cmp q)) ks) ≡ list_any (is_at (nat_cmp q)) (insert_key nat_cmp ks k)
list_any-insert_key q k [] = refl
list_any-insert_key q k (x ∷ xs) = go (nat_cmp k x) refl (list_any-insert_key q k xs)
  where
    go : (r : Ordering) → nat_cmp k x ≡ r → (finds q k || list_any (is_at (nat_cmp q)) xs) ≡ list_any (is_at (nat_cmp q)) (insert_key nat_cmp xs k)
        → (finds q k || (finds q x || list_any (is_at (nat_cmp q)) xs)) ≡ list_any (is_at (nat_cmp q)) (match_ordering r (k ∷ x ∷ xs) (x ∷ xs) (x ∷ insert_key nat_cmp xs k))
    go Less is rest = refl
    go Equal is rest = ap (λ j. finds q j || (finds q x || list_any (is_at (nat_cmp q)) xs)) (nat_cmp-IsAntisymmetric k x is) ∙ twice (finds q x) (list_any (is_at (nat_cmp q)) xs)
      where
        twice : (a b : Bool) → (a || (a || b)) ≡ (a || b)
        twice true b = refl
        twice false b = refl
    go Greater is rest = or_swap (finds q k) (finds q x) (list_any (is_at (nat_cmp q)) xs) ∙ ap (λ b. finds q x || b) rest

-- the keys after an insert
pub keys-insert_entry : {X : Type 0} (es : List (ℕ × X)) (k : ℕ) (v : X) → keys_of (insert_entry nat_cmp es k v) ≡ insert_key nat_cmp (keys_of es) k
keys-insert_entry [] k v = refl
keys-insert_entry (e ∷ es) k v = go (nat_cmp k e.0) (keys-insert_entry es k v)
  where
    go : (r : Ordering) → keys_of (insert_entry nat_cmp es k v) ≡ insert_key nat_cmp (keys_of es) k
        → keys_of (match_ordering r ((k, v) ∷ e ∷ es) ((e.0, v) ∷ es) (e ∷ insert_entry nat_cmp es k v)) ≡ match_ordering r (k ∷ e.0 ∷ keys_of es) (e.0 ∷ keys_of es) (e.0 ∷ insert_key nat_cmp (keys_of es) k)
    go Less rest = refl
    go Equal rest = refl
    go Greater rest = ap (λ l. e.0 ∷ l) rest

-- what holds of a key and of others holds of all after it is put in
pub all_insert_key : (P : ℕ → Type 0) (k : ℕ) (ks : List ℕ) → P k → AllByRecursion P ks → AllByRecursion P (insert_key nat_cmp ks k)
all_insert_key P k [] here rest = (here, tt)
all_insert_key P k (x ∷ xs) here rest = go (nat_cmp k x) (all_insert_key P k xs here rest.1)
  where
    go : (r : Ordering) → AllByRecursion P (insert_key nat_cmp xs k) → AllByRecursion P (match_ordering r (k ∷ x ∷ xs) (x ∷ xs) (x ∷ insert_key nat_cmp xs k))
    go Less more = (here, rest)
    go Equal more = rest
    go Greater more = (rest.0, more)

all_above : (k x : ℕ) (ks : List ℕ) → nat_cmp k x ≡ Less → AllByRecursion (λ y. nat_cmp x y ≡ Less) ks → AllByRecursion (λ y. nat_cmp k y ≡ Less) ks
all_above k x [] less all = tt
all_above k x (y ∷ ys) less all = (nat_cmp_total.trans k x y less all.0, all_above k x ys less all.1)

-- keys that rise do so after an insert
pub sorted-insert_key : (k : ℕ) (ks : List ℕ) → IsStrictlySortedBy nat_cmp ks → IsStrictlySortedBy nat_cmp (insert_key nat_cmp ks k)
unfolding IsStrictlySortedBy
sorted-insert_key k [] sorted = (tt, tt)
sorted-insert_key k (x ∷ xs) sorted = go (nat_cmp k x) refl (sorted-insert_key k xs sorted.1)
  where
    go : (r : Ordering) → nat_cmp k x ≡ r → IsStrictlySortedBy nat_cmp (insert_key nat_cmp xs k) → IsStrictlySortedBy nat_cmp (match_ordering r (k ∷ x ∷ xs) (x ∷ xs) (x ∷ insert_key nat_cmp xs k))
    go Less is more = ((is, all_above k x xs is sorted.0), sorted)
    go Equal is more = sorted
    go Greater is more = (all_insert_key (λ y. nat_cmp x y ≡ Less) k xs (nat_cmp_total.antisymm x k ∙ ap ordering_reverse is) sorted.0, more)

pub rising-insert_key : (k : ℕ) (ks : List ℕ) → IsStrictlyIncreasing ks → IsStrictlyIncreasing (insert_key nat_cmp ks k)
rising-insert_key k ks rises = IsStrictlyIncreasing-from_sorted (insert_key nat_cmp ks k) (sorted-insert_key k ks (sorted_from_strictly_increasing ks rises))
