-- Entries of small ids with those of greater ids behind them.
use Rattle.std.proofs.Common.{◌≡◌, ℕ, ◌<◌, ◌≤◌, List, [], ◌∷◌, ◌++◌, Bool, true, false, cond, Some, None, refl, sym, ap, subst, ◌∙◌, arith}
use Rattle.std.specs.declared.cmp.Ordering.{Ordering}
use Rattle.std.specs.declared.cmp.Ordering.TheVariants.{Less, Equal, Greater}
use Rattle.std.specs.List.{AllByRecursion}
use Rattle.std.specs.Ordering.{nat_cmp, match_ordering}
use Rattle.std.specs.Map.{lookup, set_value, remove_entry, keys_of}
use Rattle.std.specs.BTreeMap.{is_at, insert_entry}
use Rattle.std.proofs.lemmas.Map.{keys-set_value}
use Rattle.ax_base.specs.IdMaps.{IsSplit}
use Rattle.ax_base.proofs.Lookups.{all_insert_key, keys-insert_entry}
use Rattle.ax_base.proofs.Filled.{finds_other, less_is, greater_is, all_left, missed, set_missing, remove_missing}

module _ {X : Type 0} where
  -- a small id is not among those of the back, and a great one is not among those of the front
  pub not_behind : (near far : List (ℕ × X)) (q : ℕ) → IsSplit near far → q < 131072 → lookup (is_at (nat_cmp q)) far ≡ None
  not_behind near far q split low = go far split.above
    where
      go : (es : List (ℕ × X)) → AllByRecursion (λ k. 131072 ≤ k) (keys_of es) → lookup (is_at (nat_cmp q)) es ≡ None
      go [] all = refl
      go (e ∷ es) all = let high = all.0 in ap (λ b. cond b (Some e.1) (lookup (is_at (nat_cmp q)) es)) (finds_other q e.0 (omega arith)) ∙ go es all.1

  pub not_before : (near far : List (ℕ × X)) (q : ℕ) → IsSplit near far → 131072 ≤ q → lookup (is_at (nat_cmp q)) near ≡ None
  not_before near far q split high = go near split.below
    where
      go : (es : List (ℕ × X)) → AllByRecursion (λ k. k < 131072) (keys_of es) → lookup (is_at (nat_cmp q)) es ≡ None
      go [] all = refl
      go (e ∷ es) all = let low = all.0 in ap (λ b. cond b (Some e.1) (lookup (is_at (nat_cmp q)) es)) (finds_other q e.0 (omega arith)) ∙ go es all.1

  -- a look-up of what is not behind
  pub lookup-front : (test : ℕ → Bool) (near far : List (ℕ × X)) → lookup test far ≡ None → lookup test (near ++ far) ≡ lookup test near
  lookup-front test [] far none = none
  lookup-front test (e ∷ es) far none = ap (cond (test e.0) (Some e.1)) (lookup-front test es far none)

  pub lookup-back : (test : ℕ → Bool) (near far : List (ℕ × X)) → lookup test near ≡ None → lookup test (near ++ far) ≡ lookup test far
  lookup-back test [] far none = refl
  lookup-back test (e ∷ es) far none =
      let m = missed test e es none in
      ap (λ b. cond b (Some e.1) (lookup test (es ++ far))) m.0 ∙ lookup-back test es far m.1

  pub set-front : (test : ℕ → Bool) (near far : List (ℕ × X)) (w : X) → lookup test far ≡ None → set_value test near w ++ far ≡ set_value test (near ++ far) w
  set-front test [] far w none = sym (set_missing test far w none)
  set-front test (e ∷ es) far w none = go (test e.0) (set-front test es far w none)
    where
      go : (b : Bool) → set_value test es w ++ far ≡ set_value test (es ++ far) w
          → cond b ((e.0, w) ∷ es) (e ∷ set_value test es w) ++ far ≡ cond b ((e.0, w) ∷ (es ++ far)) (e ∷ set_value test (es ++ far) w)
      go true rest = refl
      go false rest = ap (λ l. e ∷ l) rest

  pub set-back : (test : ℕ → Bool) (near far : List (ℕ × X)) (w : X) → lookup test near ≡ None → near ++ set_value test far w ≡ set_value test (near ++ far) w
  set-back test [] far w none = refl
  set-back test (e ∷ es) far w none =
      let m = missed test e es none in
      ap (λ l. e ∷ l) (set-back test es far w m.1) ∙ ap (λ b. cond b ((e.0, w) ∷ (es ++ far)) (e ∷ set_value test (es ++ far) w)) (sym m.0)

  pub remove-front : (test : ℕ → Bool) (near far : List (ℕ × X)) → lookup test far ≡ None → remove_entry test near ++ far ≡ remove_entry test (near ++ far)
  remove-front test [] far none = sym (remove_missing test far none)
  remove-front test (e ∷ es) far none = go (test e.0) (remove-front test es far none)
    where
      go : (b : Bool) → remove_entry test es ++ far ≡ remove_entry test (es ++ far) → cond b es (e ∷ remove_entry test es) ++ far ≡ cond b (es ++ far) (e ∷ remove_entry test (es ++ far))
      go true rest = refl
      go false rest = ap (λ l. e ∷ l) rest

  pub remove-back : (test : ℕ → Bool) (near far : List (ℕ × X)) → lookup test near ≡ None → near ++ remove_entry test far ≡ remove_entry test (near ++ far)
  remove-back test [] far none = refl
  remove-back test (e ∷ es) far none =
      let m = missed test e es none in
      ap (λ l. e ∷ l) (remove-back test es far m.1) ∙ ap (λ b. cond b (es ++ far) (e ∷ remove_entry test (es ++ far))) (sym m.0)

  pub insert-front : (near far : List (ℕ × X)) (k : ℕ) (v : X) → IsSplit near far → k < 131072 → insert_entry nat_cmp near k v ++ far ≡ insert_entry nat_cmp (near ++ far) k v
  insert-front near far k v split low = go near
    where
      first : (es : List (ℕ × X)) → AllByRecursion (λ j. 131072 ≤ j) (keys_of es) → (k, v) ∷ es ≡ insert_entry nat_cmp es k v
      first [] all = refl
      first (e ∷ es) all = let high = all.0 in ap (λ r. match_ordering r ((k, v) ∷ e ∷ es) ((e.0, v) ∷ es) (e ∷ insert_entry nat_cmp es k v)) (sym (less_is k e.0 (omega arith)))

      turn : (e : ℕ × X) (es : List (ℕ × X)) (r : Ordering) → insert_entry nat_cmp es k v ++ far ≡ insert_entry nat_cmp (es ++ far) k v
          → match_ordering r ((k, v) ∷ e ∷ es) ((e.0, v) ∷ es) (e ∷ insert_entry nat_cmp es k v) ++ far
          ≡ match_ordering r ((k, v) ∷ e ∷ (es ++ far)) ((e.0, v) ∷ (es ++ far)) (e ∷ insert_entry nat_cmp (es ++ far) k v)
      turn e es Less rest = refl
      turn e es Equal rest = refl
      turn e es Greater rest = ap (λ l. e ∷ l) rest

      go : (es : List (ℕ × X)) → insert_entry nat_cmp es k v ++ far ≡ insert_entry nat_cmp (es ++ far) k v
      go [] = first far split.above
      go (e ∷ es) = turn e es (nat_cmp k e.0) (go es)

  pub insert-back : (near far : List (ℕ × X)) (k : ℕ) (v : X) → IsSplit near far → 131072 ≤ k → near ++ insert_entry nat_cmp far k v ≡ insert_entry nat_cmp (near ++ far) k v
  insert-back near far k v split high = go near split.below
    where
      go : (es : List (ℕ × X)) → AllByRecursion (λ j. j < 131072) (keys_of es) → es ++ insert_entry nat_cmp far k v ≡ insert_entry nat_cmp (es ++ far) k v
      go [] all = refl
      go (e ∷ es) all =
          let low = all.0 in
          ap (λ l. e ∷ l) (go es all.1) ∙ ap (λ r. match_ordering r ((k, v) ∷ e ∷ (es ++ far)) ((e.0, v) ∷ (es ++ far)) (e ∷ insert_entry nat_cmp (es ++ far) k v)) (sym (greater_is k e.0 (omega arith)))

  all_put : (P : ℕ → Type 0) (es : List (ℕ × X)) (k : ℕ) (v : X) → P k → AllByRecursion P (keys_of es) → AllByRecursion P (keys_of (insert_entry nat_cmp es k v))
  all_put P es k v here all = subst (AllByRecursion P) (sym (keys-insert_entry es k v)) (all_insert_key P k (keys_of es) here all)

  all_set : (P : ℕ → Type 0) (test : ℕ → Bool) (es : List (ℕ × X)) (w : X) → AllByRecursion P (keys_of es) → AllByRecursion P (keys_of (set_value test es w))
  all_set P test es w all = subst (AllByRecursion P) (sym (keys-set_value test es w)) all

  -- the ids stay apart
  pub split-put : (near far : List (ℕ × X)) (k : ℕ) (v : X) → k < 131072 → IsSplit near far → IsSplit (insert_entry nat_cmp near k v) far
  split-put near far k v low split = record { below = all_put (λ j. j < 131072) near k v low split.below; above = split.above }

  pub split-put_back : (near far : List (ℕ × X)) (k : ℕ) (v : X) → 131072 ≤ k → IsSplit near far → IsSplit near (insert_entry nat_cmp far k v)
  split-put_back near far k v high split = record { below = split.below; above = all_put (λ j. 131072 ≤ j) far k v high split.above }

  pub split-out : (near far : List (ℕ × X)) (test : ℕ → Bool) → IsSplit near far → IsSplit (remove_entry test near) far
  split-out near far test split = record { below = all_left (λ j. j < 131072) test near split.below; above = split.above }

  pub split-out_back : (near far : List (ℕ × X)) (test : ℕ → Bool) → IsSplit near far → IsSplit near (remove_entry test far)
  split-out_back near far test split = record { below = split.below; above = all_left (λ j. 131072 ≤ j) test far split.above }

  pub split-set : (near far : List (ℕ × X)) (test : ℕ → Bool) (w : X) → IsSplit near far → IsSplit (set_value test near w) far
  split-set near far test w split = record { below = all_set (λ j. j < 131072) test near w split.below; above = split.above }

  pub split-set_back : (near far : List (ℕ × X)) (test : ℕ → Bool) (w : X) → IsSplit near far → IsSplit near (set_value test far w)
  split-set_back near far test w split = record { below = split.below; above = all_set (λ j. 131072 ≤ j) test far w split.above }
