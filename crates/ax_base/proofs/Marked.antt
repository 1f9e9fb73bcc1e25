-- Marks against the ids that they stand for, and ids in two parts.
use Rattle.std.proofs.Common.{◌≡◌, ◌≢◌, ◌⊎◌, inl, inr, ℕ, zero, suc, ◌<◌, ◌≤◌, ◌||◌, List, [], ◌∷◌, ◌++◌, map, length, get_or, set, Bool, true, false, cond, Some, None, is_some, refl, sym, ap, subst, ◌∙◌, eqb, arith}
use Rattle.std.specs.List.{list_any, AllByRecursion}
use Rattle.std.specs.Ordering.{nat_cmp}
use Rattle.std.specs.Map.{lookup, remove_entry, keys_of}
use Rattle.std.specs.Set.{remove_key}
use Rattle.std.specs.BTreeMap.{is_at, insert_entry}
use Rattle.std.specs.BTreeSet.{insert_key}
use Rattle.std.proofs.lemmas.Bool.Decides.{eqb_tells}
use Rattle.std.proofs.lemmas.List.{get_or-map, get_or_past, get_or-set_same, get_or-set_other, map-set, length-map, map-append}
use Rattle.ax_base.specs.IdMaps.{filled_from, IsSplit}
use Rattle.ax_base.specs.IdSets.{mark_of, marked, SameMarks, AreApart}
use Rattle.ax_base.proofs.Lookups.{keys-insert_entry, all_insert_key}
use Rattle.ax_base.proofs.Filled.{found-filled, same-filled, put-filled, out-filled}
use Rattle.ax_base.proofs.IdParts.{insert-front, insert-back, remove-front, remove-back, not_behind, not_before}

module _ {X : Type 0} where
  any-found : (test : ℕ → Bool) (es : List (ℕ × X)) → list_any test (keys_of es) ≡ is_some (lookup test es)
  any-found test [] = refl
  any-found test (e ∷ es) = go (test e.0) (any-found test es)
    where
      go : (b : Bool) → list_any test (keys_of es) ≡ is_some (lookup test es) → (b || list_any test (keys_of es)) ≡ is_some (cond b (Some e.1) (lookup test es))
      go true rest = refl
      go false rest = rest

  keys-remove_entry : (test : ℕ → Bool) (es : List (ℕ × X)) → keys_of (remove_entry test es) ≡ remove_key test (keys_of es)
  keys-remove_entry test [] = refl
  keys-remove_entry test (e ∷ es) = go (test e.0) (keys-remove_entry test es)
    where
      go : (b : Bool) → keys_of (remove_entry test es) ≡ remove_key test (keys_of es) → keys_of (cond b es (e ∷ remove_entry test es)) ≡ cond b (keys_of es) (e.0 ∷ remove_key test (keys_of es))
      go true rest = refl
      go false rest = ap (λ l. e.0 ∷ l) rest

some_mark : (b : Bool) → is_some (mark_of b) ≡ b
some_mark true = refl
some_mark false = refl

-- whether an id is marked
pub has-marked : (bs : List Bool) (q : ℕ) (b : Bool) → q < length bs → b ≡ get_or bs q b → b ≡ list_any (is_at (nat_cmp q)) (marked bs)
has-marked bs q b within read =
    sym (
    any-found (is_at (nat_cmp q)) (filled_from 0 (map mark_of bs))
    ∙ ap is_some (found-filled q (map mark_of bs) ∙ get_or-map mark_of bs q b None within ∙ ap mark_of (sym read))
    ∙ some_mark b
    )

past_marks : (bs : List Bool) (q : ℕ) → length bs ≤ q → get_or (map mark_of bs) q None ≡ None
past_marks bs q past = get_or_past (map mark_of bs) q None (omega (arith, length-map bs mark_of))

pub past-marked : (bs : List Bool) (q : ℕ) → length bs ≤ q → false ≡ list_any (is_at (nat_cmp q)) (marked bs)
past-marked bs q past =
    sym (any-found (is_at (nat_cmp q)) (filled_from 0 (map mark_of bs)) ∙ ap is_some (found-filled q (map mark_of bs) ∙ past_marks bs q past))

mark_at : (bs : List Bool) (q : ℕ) (b : Bool) → q < length bs → (j : ℕ) → get_or (map mark_of (set bs q b)) j None ≡ cond (eqb q j) (mark_of b) (get_or (map mark_of bs) j None)
mark_at bs q b within j = ap (λ l. get_or l j None) (map-set mark_of bs q b) ∙ go (eqb_tells q j)
  where
    go : ((eqb q j ≡ true) × (q ≡ j)) ⊎ ((eqb q j ≡ false) × (q ≢ j)) → get_or (set (map mark_of bs) q (mark_of b)) j None ≡ cond (eqb q j) (mark_of b) (get_or (map mark_of bs) j None)
    go (inl (e, same)) =
        rw e (subst (λ i. get_or (set (map mark_of bs) q (mark_of b)) i None ≡ mark_of b) same (get_or-set_same (map mark_of bs) q (mark_of b) None (omega (arith, length-map bs mark_of))))
    go (inr (e, apart)) = rw e (get_or-set_other (map mark_of bs) q j (mark_of b) None (λ same. apart (sym same)))

-- the same marks
pub same-marked : (bs cs : List Bool) → SameMarks bs cs → marked cs ≡ marked bs
same-marked bs cs same = ap keys_of (same-filled (map mark_of bs) (map mark_of cs) same)

-- an id is marked
pub put-marked : (bs cs : List Bool) (q : ℕ) → SameMarks bs cs → q < length cs → marked (set cs q true) ≡ insert_key nat_cmp (marked bs) q
put-marked bs cs q same within =
    ap keys_of (put-filled (map mark_of bs) (map mark_of (set cs q true)) q tt (λ j. mark_at cs q true within j ∙ ap (cond (eqb q j) (Some tt)) (same j)))
    ∙ keys-insert_entry (filled_from 0 (map mark_of bs)) q tt

-- a mark is taken away
pub out-marked : (bs : List Bool) (q : ℕ) → q < length bs → marked (set bs q false) ≡ remove_key (is_at (nat_cmp q)) (marked bs)
out-marked bs q within =
    ap keys_of (out-filled (map mark_of bs) (map mark_of (set bs q false)) q (mark_at bs q false within)) ∙ keys-remove_entry (is_at (nat_cmp q)) (filled_from 0 (map mark_of bs))

pub out-unmarked : (bs : List Bool) (q : ℕ) → length bs ≤ q → marked bs ≡ remove_key (is_at (nat_cmp q)) (marked bs)
out-unmarked bs q past =
    ap keys_of (out-filled (map mark_of bs) (map mark_of bs) q (λ j. kept j)) ∙ keys-remove_entry (is_at (nat_cmp q)) (filled_from 0 (map mark_of bs))
  where
    kept : (j : ℕ) → get_or (map mark_of bs) j None ≡ cond (eqb q j) None (get_or (map mark_of bs) j None)
    kept j =
        elim (eqb_tells q j) [
          | inl (e, same) ↦ rw e (subst (λ i. get_or (map mark_of bs) i None ≡ None) same (past_marks bs q past))
          | inr (e, apart) ↦ rw e refl
        ]

-- one more place with no mark
pub one_unmarked : (bs : List Bool) → SameMarks bs (bs ++ false ∷ [])
one_unmarked [] zero = refl
one_unmarked [] (suc q) = refl
one_unmarked (b ∷ bs) zero = refl
one_unmarked (b ∷ bs) (suc q) = one_unmarked bs q

-- ids as the keys of entries that hold nothing
paired : List ℕ → List (ℕ × Unit {0})
paired ks = map (λ k. (k, tt)) ks

keys-paired : (ks : List ℕ) → keys_of (paired ks) ≡ ks
unfolding paired
keys-paired [] = refl
keys-paired (k ∷ ks) = ap (λ l. k ∷ l) (keys-paired ks)

split_of : (near far : List ℕ) → AreApart near far → IsSplit (paired near) (paired far)
split_of near far apart = record {
  below = subst (AllByRecursion (λ k. k < 131072)) (sym (keys-paired near)) apart.below;
  above = subst (AllByRecursion (λ k. 131072 ≤ k)) (sym (keys-paired far)) apart.above;
}

keys-both : (near far : List ℕ) → keys_of (paired near ++ paired far) ≡ near ++ far
keys-both near far = map-append (λ (e : ℕ × Unit {0}). e.0) (paired near) (paired far) ∙ ap (λ l. l ++ keys_of (paired far)) (keys-paired near) ∙ ap (λ l. near ++ l) (keys-paired far)

keys-front : (es : List (ℕ × Unit {0})) (far : List ℕ) → keys_of (es ++ paired far) ≡ keys_of es ++ far
keys-front es far = map-append (λ (e : ℕ × Unit {0}). e.0) es (paired far) ∙ ap (λ l. keys_of es ++ l) (keys-paired far)

keys-back : (near : List ℕ) (es : List (ℕ × Unit {0})) → keys_of (paired near ++ es) ≡ near ++ keys_of es
keys-back near es = map-append (λ (e : ℕ × Unit {0}). e.0) (paired near) es ∙ ap (λ l. l ++ keys_of es) (keys-paired near)

module _ (near far : List ℕ) (k : ℕ) (apart : AreApart near far) where
  put-all : keys_of (insert_entry nat_cmp (paired near ++ paired far) k tt) ≡ insert_key nat_cmp (near ++ far) k
  put-all = keys-insert_entry (paired near ++ paired far) k tt ∙ ap (λ l. insert_key nat_cmp l k) (keys-both near far)

  out-all : keys_of (remove_entry (is_at (nat_cmp k)) (paired near ++ paired far)) ≡ remove_key (is_at (nat_cmp k)) (near ++ far)
  out-all = keys-remove_entry (is_at (nat_cmp k)) (paired near ++ paired far) ∙ ap (remove_key (is_at (nat_cmp k))) (keys-both near far)

  -- an id is put in
  pub put-front : k < 131072 → insert_key nat_cmp near k ++ far ≡ insert_key nat_cmp (near ++ far) k
  put-front low =
      ap (λ l. insert_key nat_cmp l k ++ far) (sym (keys-paired near)) ∙ ap (λ l. l ++ far) (sym (keys-insert_entry (paired near) k tt))
      ∙ sym (keys-front (insert_entry nat_cmp (paired near) k tt) far) ∙ ap keys_of (insert-front (paired near) (paired far) k tt (split_of near far apart) low) ∙ put-all

  pub put-back : 131072 ≤ k → near ++ insert_key nat_cmp far k ≡ insert_key nat_cmp (near ++ far) k
  put-back high =
      ap (λ l. near ++ insert_key nat_cmp l k) (sym (keys-paired far)) ∙ ap (λ l. near ++ l) (sym (keys-insert_entry (paired far) k tt))
      ∙ sym (keys-back near (insert_entry nat_cmp (paired far) k tt)) ∙ ap keys_of (insert-back (paired near) (paired far) k tt (split_of near far apart) high) ∙ put-all

  -- an id is taken out
  pub out-front : k < 131072 → remove_key (is_at (nat_cmp k)) near ++ far ≡ remove_key (is_at (nat_cmp k)) (near ++ far)
  out-front low =
      ap (λ l. remove_key (is_at (nat_cmp k)) l ++ far) (sym (keys-paired near)) ∙ ap (λ l. l ++ far) (sym (keys-remove_entry (is_at (nat_cmp k)) (paired near)))
      ∙ sym (keys-front (remove_entry (is_at (nat_cmp k)) (paired near)) far)
      ∙ ap keys_of (remove-front (is_at (nat_cmp k)) (paired near) (paired far) (not_behind (paired near) (paired far) k (split_of near far apart) low)) ∙ out-all

  pub out-back : 131072 ≤ k → near ++ remove_key (is_at (nat_cmp k)) far ≡ remove_key (is_at (nat_cmp k)) (near ++ far)
  out-back high =
      ap (λ l. near ++ remove_key (is_at (nat_cmp k)) l) (sym (keys-paired far)) ∙ ap (λ l. near ++ l) (sym (keys-remove_entry (is_at (nat_cmp k)) (paired far)))
      ∙ sym (keys-back near (remove_entry (is_at (nat_cmp k)) (paired far)))
      ∙ ap keys_of (remove-back (is_at (nat_cmp k)) (paired near) (paired far) (not_before (paired near) (paired far) k (split_of near far apart) high)) ∙ out-all

  any_both : (xs ys : List ℕ) → list_any (is_at (nat_cmp k)) (xs ++ ys) ≡ (list_any (is_at (nat_cmp k)) xs || list_any (is_at (nat_cmp k)) ys)
  any_both [] ys = refl
  any_both (x ∷ xs) ys = go (is_at (nat_cmp k) x) (any_both xs ys)
    where
      go : (b : Bool) → list_any (is_at (nat_cmp k)) (xs ++ ys) ≡ (list_any (is_at (nat_cmp k)) xs || list_any (is_at (nat_cmp k)) ys)
          → (b || list_any (is_at (nat_cmp k)) (xs ++ ys)) ≡ ((b || list_any (is_at (nat_cmp k)) xs) || list_any (is_at (nat_cmp k)) ys)
      go true rest = refl
      go false rest = rest

  none_or : (a : Bool) → (a || false) ≡ a
  none_or true = refl
  none_or false = refl

  no_keys : (ks : List ℕ) → lookup (is_at (nat_cmp k)) (paired ks) ≡ None → list_any (is_at (nat_cmp k)) ks ≡ false
  no_keys ks none = ap (list_any (is_at (nat_cmp k))) (sym (keys-paired ks)) ∙ any-found (is_at (nat_cmp k)) (paired ks) ∙ ap is_some none

  -- an id is looked for
  pub has-front : k < 131072 → list_any (is_at (nat_cmp k)) near ≡ list_any (is_at (nat_cmp k)) (near ++ far)
  has-front low =
      sym (any_both near far ∙ ap (λ b. list_any (is_at (nat_cmp k)) near || b) (no_keys far (not_behind (paired near) (paired far) k (split_of near far apart) low)) ∙ none_or (list_any (is_at (nat_cmp k)) near))

  pub has-back : 131072 ≤ k → list_any (is_at (nat_cmp k)) far ≡ list_any (is_at (nat_cmp k)) (near ++ far)
  has-back high = sym (any_both near far ∙ ap (λ b. b || list_any (is_at (nat_cmp k)) far) (no_keys near (not_before (paired near) (paired far) k (split_of near far apart) high)))

  out-each : (P : ℕ → Type 0) (ks : List ℕ) → AllByRecursion P ks → AllByRecursion P (remove_key (is_at (nat_cmp k)) ks)
  out-each P [] all = tt
  out-each P (x ∷ xs) all = go (is_at (nat_cmp k) x) (out-each P xs all.1)
    where
      go : (b : Bool) → AllByRecursion P (remove_key (is_at (nat_cmp k)) xs) → AllByRecursion P (cond b xs (x ∷ remove_key (is_at (nat_cmp k)) xs))
      go true rest = all.1
      go false rest = (all.0, rest)

  -- the ids stay apart
  pub apart-put : k < 131072 → AreApart (insert_key nat_cmp near k) far
  apart-put low = record { below = all_insert_key (λ j. j < 131072) k near low apart.below; above = apart.above }

  pub apart-put_back : 131072 ≤ k → AreApart near (insert_key nat_cmp far k)
  apart-put_back high = record { below = apart.below; above = all_insert_key (λ j. 131072 ≤ j) k far high apart.above }

  pub apart-out : AreApart (remove_key (is_at (nat_cmp k)) near) far
  apart-out = record { below = out-each (λ j. j < 131072) near apart.below; above = apart.above }

  pub apart-out_back : AreApart near (remove_key (is_at (nat_cmp k)) far)
  apart-out_back = record { below = apart.below; above = out-each (λ j. 131072 ≤ j) far apart.above }
