-- Places of a list against the entries that they hold.
use Rattle.std.proofs.Common.{◌≡◌, ◌≢◌, ◌⊎◌, inl, inr, ℕ, zero, suc, ◌+◌, ◌<◌, ◌≤◌, List, [], ◌∷◌, ◌++◌, map, length, set, get_or, Bool, true, false, cond, Option, Some, None, is_some, refl, sym, ap, subst, ◌∙◌, eqb, zero-add, arith}
use Rattle.std.specs.declared.cmp.Ordering.TheVariants.{Less, Greater}
use Rattle.std.specs.List.{AllByRecursion}
use Rattle.std.specs.List.Sorted.{IsStrictlySortedBy, IsStrictlyIncreasing}
use Rattle.std.specs.Ordering.{nat_cmp}
use Rattle.std.specs.Cmp.{nat_cmp_is, nat_cmp_total, eq_by_cmp_equiv, nat_eq_equiv}
use Rattle.std.specs.Map.{lookup, set_value, remove_entry, keys_of}
use Rattle.std.specs.BTreeMap.{is_at, insert_entry}
use Rattle.std.proofs.lemmas.Map.{lookup-remove_entry, keys-set_value}
use Rattle.std.proofs.lemmas.Map.Keys.{IsStrictlyIncreasing-from_sorted, IsDistinct-from_sorted}
use Rattle.std.proofs.lemmas.Bool.Decides.{eqb_tells}
use Rattle.std.proofs.lemmas.List.{get_or-map, get_or_past, get_or-set_same, get_or-set_other, map-set, length-map}
use Rattle.ax_base.specs.declared.dense.Place.{Place}
use Rattle.ax_base.specs.declared.dense.Place.TheVariants.{Empty, Full}
use Rattle.ax_base.specs.IdMaps.{value_of, written, filled_from, SamePlaces}
use Rattle.ax_base.proofs.Lookups.{finds, finds_is, finds_same, finds_tells, found_is, lookup-insert_entry, lookup-set_value_at, keys-insert_entry, sorted-insert_key}
use Rattle.ax_base.proofs.SameLookups.{same_lookups}

-- a look-up at a does not find a key apart from it
pub finds_other : (a b : ℕ) → a ≢ b → finds a b ≡ false
finds_other a b apart = elim (finds_tells a b) [ inl (e, same) ↦ absurd (apart same) | inr (e, other) ↦ e ]

pub less_is : (a b : ℕ) → a < b → nat_cmp a b ≡ Less
less_is a b low = sym (nat_cmp_is a b Less low)

pub greater_is : (a b : ℕ) → b < a → nat_cmp a b ≡ Greater
greater_is a b high = sym (nat_cmp_is a b Greater high)

-- what holds of all keys holds of those that are left
pub all_left : {X : Type 0} (P : ℕ → Type 0) (test : ℕ → Bool) (es : List (ℕ × X)) → AllByRecursion P (keys_of es) → AllByRecursion P (keys_of (remove_entry test es))
all_left P test [] all = tt
all_left {X} P test (e ∷ es) all = go (test e.0) (all_left P test es all.1)
  where
    go : (b : Bool) → AllByRecursion P (keys_of (remove_entry test es)) → AllByRecursion P (keys_of (cond b es (e ∷ remove_entry test es)))
    go true rest = all.1
    go false rest = (all.0, rest)

sorted_left : {X : Type 0} (test : ℕ → Bool) (es : List (ℕ × X)) → IsStrictlySortedBy nat_cmp (keys_of es) → IsStrictlySortedBy nat_cmp (keys_of (remove_entry test es))
unfolding IsStrictlySortedBy
sorted_left test [] sorted = tt
sorted_left {X} test (e ∷ es) sorted = go (test e.0) (sorted_left test es sorted.1)
  where
    go : (b : Bool) → IsStrictlySortedBy nat_cmp (keys_of (remove_entry test es)) → IsStrictlySortedBy nat_cmp (keys_of (cond b es (e ∷ remove_entry test es)))
    go true rest = sorted.1
    go false rest = (all_left (λ y. nat_cmp e.0 y ≡ Less) test es sorted.0, rest)

module _ {X : Type 0} where
  -- a look-up that finds nothing passes by each entry
  pub missed : (test : ℕ → Bool) (e : ℕ × X) (es : List (ℕ × X)) → lookup test (e ∷ es) ≡ None → (test e.0 ≡ false) × (lookup test es ≡ None)
  missed test e es none = go (test e.0) refl none
    where
      go : (b : Bool) → test e.0 ≡ b → cond b (Some e.1) (lookup test es) ≡ None → (test e.0 ≡ false) × (lookup test es ≡ None)
      go true at found = absurd (cc)
      go false at rest = (at, rest)

  -- to set a value, or to remove one, where none is found changes nothing
  pub set_missing : (test : ℕ → Bool) (es : List (ℕ × X)) (w : X) → lookup test es ≡ None → set_value test es w ≡ es
  set_missing test [] w none = refl
  set_missing test (e ∷ es) w none =
      let m = missed test e es none in
      ap (λ b. cond b ((e.0, w) ∷ es) (e ∷ set_value test es w)) m.0 ∙ ap (λ l. e ∷ l) (set_missing test es w m.1)

  pub remove_missing : (test : ℕ → Bool) (es : List (ℕ × X)) → lookup test es ≡ None → remove_entry test es ≡ es
  remove_missing test [] none = refl
  remove_missing test (e ∷ es) none =
      let m = missed test e es none in
      ap (λ b. cond b es (e ∷ remove_entry test es)) m.0 ∙ ap (λ l. e ∷ l) (remove_missing test es m.1)

  -- the ids before the first place have nothing
  none_before : (q k : ℕ) (xs : List (Option X)) → q < k → lookup (is_at (nat_cmp q)) (filled_from k xs) ≡ None
  none_before q k [] low = refl
  none_before q k (None ∷ rest) low = none_before q (k + 1) rest (omega arith)
  none_before q k (Some v ∷ rest) low = ap (λ b. cond b (Some v) (lookup (is_at (nat_cmp q)) (filled_from (k + 1) rest))) (finds_other q k (omega arith)) ∙ none_before q (k + 1) rest (omega arith)

  found_from : (k i : ℕ) (xs : List (Option X)) → lookup (is_at (nat_cmp (k + i))) (filled_from k xs) ≡ get_or xs i None
  found_from k i [] = refl
  found_from k zero (None ∷ rest) = none_before (k + zero) (k + 1) rest (omega arith)
  found_from k zero (Some v ∷ rest) = ap (λ b. cond b (Some v) (lookup (is_at (nat_cmp (k + zero))) (filled_from (k + 1) rest))) (finds_same (k + zero) k (omega arith))
  found_from k (suc i) (None ∷ rest) =
      let shift : k + 1 + i ≡ k + suc i = omega arith in
      subst (λ q. lookup (is_at (nat_cmp q)) (filled_from (k + 1) rest) ≡ get_or rest i None) shift (found_from (k + 1) i rest)
  found_from k (suc i) (Some v ∷ rest) =
      let shift : k + 1 + i ≡ k + suc i = omega arith in
      ap (λ b. cond b (Some v) (lookup (is_at (nat_cmp (k + suc i))) (filled_from (k + 1) rest))) (finds_other (k + suc i) k (omega arith))
      ∙ subst (λ q. lookup (is_at (nat_cmp q)) (filled_from (k + 1) rest) ≡ get_or rest i None) shift (found_from (k + 1) i rest)

  -- a look-up of an id reads its place
  pub found-filled : (q : ℕ) (xs : List (Option X)) → lookup (is_at (nat_cmp q)) (filled_from 0 xs) ≡ get_or xs q None
  found-filled q xs = subst (λ j. lookup (is_at (nat_cmp j)) (filled_from 0 xs) ≡ get_or xs q None) (zero-add q) (found_from 0 q xs)

  above_filled : (j k : ℕ) (xs : List (Option X)) → j < k → AllByRecursion (λ y. nat_cmp j y ≡ Less) (keys_of (filled_from k xs))
  above_filled j k [] low = tt
  above_filled j k (None ∷ rest) low = above_filled j (k + 1) rest (omega arith)
  above_filled j k (Some v ∷ rest) low = (less_is j k low, above_filled j (k + 1) rest (omega arith))

  sorted-filled : (k : ℕ) (xs : List (Option X)) → IsStrictlySortedBy nat_cmp (keys_of (filled_from k xs))
  unfolding IsStrictlySortedBy
  sorted-filled k [] = tt
  sorted-filled k (None ∷ rest) = sorted-filled (k + 1) rest
  sorted-filled k (Some v ∷ rest) = (above_filled k (k + 1) rest (omega arith), sorted-filled (k + 1) rest)

  rising-filled : (xs : List (Option X)) → IsStrictlyIncreasing (keys_of (filled_from 0 xs))
  rising-filled xs = IsStrictlyIncreasing-from_sorted (keys_of (filled_from 0 xs)) (sorted-filled 0 xs)

  -- the same at each place
  pub same-filled : (xs ys : List (Option X)) → ((q : ℕ) → get_or ys q None ≡ get_or xs q None) → filled_from 0 ys ≡ filled_from 0 xs
  same-filled xs ys same = same_lookups (filled_from 0 ys) (filled_from 0 xs) (rising-filled ys) (rising-filled xs) (λ q. found-filled q ys ∙ same q ∙ sym (found-filled q xs))

  -- a value is put at a place
  pub put-filled : (xs ys : List (Option X)) (k : ℕ) (v : X) → ((q : ℕ) → get_or ys q None ≡ cond (eqb k q) (Some v) (get_or xs q None))
      → filled_from 0 ys ≡ insert_entry nat_cmp (filled_from 0 xs) k v
  put-filled xs ys k v same =
      same_lookups (filled_from 0 ys) (insert_entry nat_cmp (filled_from 0 xs) k v)
      (rising-filled ys)
      (IsStrictlyIncreasing-from_sorted (keys_of (insert_entry nat_cmp (filled_from 0 xs) k v)) (subst (IsStrictlySortedBy nat_cmp) (sym (keys-insert_entry (filled_from 0 xs) k v)) (sorted-insert_key k (keys_of (filled_from 0 xs)) (sorted-filled 0 xs))))
      (λ q. found-filled q ys ∙ same q ∙ ap (λ b. cond b (Some v) (get_or xs q None)) (nat_eq_equiv.symm k q ∙ sym (finds_is q k)) ∙ ap (λ o. cond (finds q k) (Some v) o) (sym (found-filled q xs)) ∙ sym (lookup-insert_entry q k v (filled_from 0 xs)))

  -- a place is emptied
  pub out-filled : (xs ys : List (Option X)) (k : ℕ) → ((q : ℕ) → get_or ys q None ≡ cond (eqb k q) None (get_or xs q None))
      → filled_from 0 ys ≡ remove_entry (is_at (nat_cmp k)) (filled_from 0 xs)
  out-filled xs ys k same =
      same_lookups (filled_from 0 ys) (remove_entry (is_at (nat_cmp k)) (filled_from 0 xs))
      (rising-filled ys)
      (IsStrictlyIncreasing-from_sorted (keys_of (remove_entry (is_at (nat_cmp k)) (filled_from 0 xs))) (sorted_left (is_at (nat_cmp k)) (filled_from 0 xs) (sorted-filled 0 xs)))
      (λ q. found-filled q ys ∙ same q ∙ ap (λ b. cond b None (get_or xs q None)) (sym (finds_is k q)) ∙ ap (cond (finds k q) None) (sym (found-filled q xs))
      ∙ sym (lookup-remove_entry {eq = λ x y. is_at (nat_cmp x) y} (eq_by_cmp_equiv nat_cmp_total) (is_at (nat_cmp k)) (λ x y e. ap (λ j. is_at (nat_cmp j) y) (found_is k x e)) q (filled_from 0 xs) (IsDistinct-from_sorted nat_cmp (keys_of (filled_from 0 xs)) (sorted-filled 0 xs))))

  -- a value is written where there is one
  pub set-filled : (xs ys : List (Option X)) (k : ℕ) (w : X) → is_some (get_or xs k None) ≡ true → ((q : ℕ) → get_or ys q None ≡ cond (eqb k q) (Some w) (get_or xs q None))
      → filled_from 0 ys ≡ set_value (is_at (nat_cmp k)) (filled_from 0 xs) w
  set-filled xs ys k w there same =
      same_lookups (filled_from 0 ys) (set_value (is_at (nat_cmp k)) (filled_from 0 xs) w)
      (rising-filled ys)
      (subst IsStrictlyIncreasing (sym (keys-set_value (is_at (nat_cmp k)) (filled_from 0 xs) w)) (rising-filled xs))
      (λ q. found-filled q ys ∙ same q ∙ ap (λ b. cond b (Some w) (get_or xs q None)) (sym (finds_is k q)) ∙ ap (cond (finds k q) (Some w)) (sym (found-filled q xs))
      ∙ sym (lookup-set_value_at q k w (filled_from 0 xs) (ap is_some (found-filled k xs) ∙ there)))

module _ {V : Type 0} where
  -- what a place that is read says of its id
  place_at : (xs : List (Place V)) (q : ℕ) (p : Place V) → q < length xs → p ≡ get_or xs q p → get_or (map value_of xs) q None ≡ value_of p
  place_at xs q p within read = get_or-map value_of xs q p None within ∙ ap value_of (sym read)

  past_all : (xs : List (Place V)) (q : ℕ) → length xs ≤ q → get_or (map value_of xs) q None ≡ None
  past_all xs q past = get_or_past (map value_of xs) q None (omega (arith, length-map xs value_of))

  pub found-place : (xs : List (Place V)) (q : ℕ) (p : Place V) → q < length xs → p ≡ get_or xs q p → value_of p ≡ lookup (is_at (nat_cmp q)) (filled_from 0 (map value_of xs))
  found-place xs q p within read = sym (found-filled q (map value_of xs) ∙ place_at xs q p within read)

  pub found-past : (xs : List (Place V)) (q : ℕ) → length xs ≤ q → None ≡ lookup (is_at (nat_cmp q)) (filled_from 0 (map value_of xs))
  found-past xs q past = sym (found-filled q (map value_of xs) ∙ past_all xs q past)

  set_at : (xs : List (Place V)) (q : ℕ) (p : Place V) → q < length xs → (j : ℕ) → get_or (map value_of (set xs q p)) j None ≡ cond (eqb q j) (value_of p) (get_or (map value_of xs) j None)
  set_at xs q p within j = ap (λ l. get_or l j None) (map-set value_of xs q p) ∙ go (eqb_tells q j)
    where
      go : ((eqb q j ≡ true) × (q ≡ j)) ⊎ ((eqb q j ≡ false) × (q ≢ j)) → get_or (set (map value_of xs) q (value_of p)) j None ≡ cond (eqb q j) (value_of p) (get_or (map value_of xs) j None)
      go (inl (e, same)) =
          rw e (subst (λ i. get_or (set (map value_of xs) q (value_of p)) i None ≡ value_of p) same (get_or-set_same (map value_of xs) q (value_of p) None (omega (arith, length-map xs value_of))))
      go (inr (e, apart)) = rw e (get_or-set_other (map value_of xs) q j (value_of p) None (λ same. apart (sym same)))

  -- where the id of the place is asked, it is what stands there
  cond_at : (xs : List (Place V)) (q j : ℕ) (o : Option V) → get_or (map value_of xs) q None ≡ o → cond (eqb q j) o (get_or (map value_of xs) j None) ≡ get_or (map value_of xs) j None
  cond_at xs q j o is = go (eqb_tells q j)
    where
      go : ((eqb q j ≡ true) × (q ≡ j)) ⊎ ((eqb q j ≡ false) × (q ≢ j)) → cond (eqb q j) o (get_or (map value_of xs) j None) ≡ get_or (map value_of xs) j None
      go (inl (e, same)) = rw e (sym is ∙ ap (λ i. get_or (map value_of xs) i None) same)
      go (inr (e, apart)) = rw e refl

  -- a place that is written as it was
  pub keep-place : (xs : List (Place V)) (q : ℕ) (p : Place V) → q < length xs → p ≡ get_or xs q p → filled_from 0 (map value_of (set xs q p)) ≡ filled_from 0 (map value_of xs)
  keep-place xs q p within read = same-filled (map value_of xs) (map value_of (set xs q p)) (λ j. set_at xs q p within j ∙ cond_at xs q j (value_of p) (place_at xs q p within read))

  -- a value is written through its place
  pub write-place : (xs : List (Place V)) (q : ℕ) (p : Place V) (w : V) → q < length xs → p ≡ get_or xs q p
      → filled_from 0 (map value_of (set xs q (written p w))) ≡ set_value (is_at (nat_cmp q)) (filled_from 0 (map value_of xs)) w
  write-place xs q Empty w within read =
      keep-place xs q Empty within read ∙ sym (set_missing (is_at (nat_cmp q)) (filled_from 0 (map value_of xs)) w (sym (found-place xs q Empty within read)))
  write-place xs q (Full b) w within read =
      set-filled (map value_of xs) (map value_of (set xs q (written (Full b) w))) q w (ap is_some (place_at xs q (Full b) within read)) (set_at xs q (written (Full b) w) within)

  pub write-past : (xs : List (Place V)) (q : ℕ) (w : V) → length xs ≤ q → filled_from 0 (map value_of xs) ≡ set_value (is_at (nat_cmp q)) (filled_from 0 (map value_of xs)) w
  write-past xs q w past = sym (set_missing (is_at (nat_cmp q)) (filled_from 0 (map value_of xs)) w (sym (found-past xs q past)))

  -- places that hold the same
  pub same-places : (xs ys : List (Place V)) → SamePlaces xs ys → filled_from 0 (map value_of ys) ≡ filled_from 0 (map value_of xs)
  same-places xs ys same = same-filled (map value_of xs) (map value_of ys) same

  -- a value is put at a place
  pub put-place : (xs ys : List (Place V)) (q : ℕ) (p : Place V) (v : V) → SamePlaces xs ys → q < length ys → value_of p ≡ Some v
      → filled_from 0 (map value_of (set ys q p)) ≡ insert_entry nat_cmp (filled_from 0 (map value_of xs)) q v
  put-place xs ys q p v same within is =
      put-filled (map value_of xs) (map value_of (set ys q p)) q v
      (λ j. set_at ys q p within j ∙ ap (λ o. cond (eqb q j) o (get_or (map value_of ys) j None)) is ∙ ap (cond (eqb q j) (Some v)) (same j))

  -- a place is emptied
  pub out-place : (xs : List (Place V)) (q : ℕ) → q < length xs → filled_from 0 (map value_of (set xs q Empty)) ≡ remove_entry (is_at (nat_cmp q)) (filled_from 0 (map value_of xs))
  out-place xs q within = out-filled (map value_of xs) (map value_of (set xs q Empty)) q (set_at xs q Empty within)

  pub out-past : (xs : List (Place V)) (q : ℕ) → length xs ≤ q → filled_from 0 (map value_of xs) ≡ remove_entry (is_at (nat_cmp q)) (filled_from 0 (map value_of xs))
  out-past xs q past = sym (remove_missing (is_at (nat_cmp q)) (filled_from 0 (map value_of xs)) (sym (found-past xs q past)))

  -- one more empty place holds nothing more
  pub one_empty : (xs : List (Place V)) → SamePlaces xs (xs ++ Empty ∷ [])
  one_empty [] zero = refl
  one_empty [] (suc q) = refl
  one_empty (x ∷ xs) zero = refl
  one_empty (x ∷ xs) (suc q) = one_empty xs q
