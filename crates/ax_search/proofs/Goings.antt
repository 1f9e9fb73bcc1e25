-- A search that goes on from what it found.
use Rattle.std.proofs.Common.{◌≡◌, ℕ, zero, suc, List, [], ◌∷◌, ◌++◌, reverse, take, filter, Bool, true, false, cond, refl, sym, ap, subst, ◌∙◌, append_assoc, append-nil, is_some, arith}
use Rattle.std.specs.Prelude.{find, Option, Some, None, IfSome, IsTrue}
use Rattle.std.specs.Option.{option_map_or}
use Rattle.std.proofs.lemmas.List.{reverse-append, reverse-reverse}
use Rattle.std.proofs.lemmas.Bool.{false≢true}
use Rattle.ax_base.specs.Trees.{HasNoRepeats}
use Rattle.ax_record.specs.declared.record.Record.{Record}
use Rattle.ax_record.specs.Tree.{Tree, preorder, has_object, record_at}
use Rattle.ax_record.specs.ObjectTrees.{IsObjectTree}
use Rattle.ax_record.proofs.Preorder.{preorder_once, in_preorder}
use Rattle.ax_record.specs.Orders.{after, before, wanted_at}
use Rattle.ax_record.proofs.Lists.{after_is, before_is, parted}
use Rattle.ax_search.specs.Searches.{candidates, found_among}

module _ (q : ℕ → Bool) where
  -- what is found in a list: it passes, stands somewhere in the list, and those that pass are it and those behind it
  abbrev IsFoundIn : List ℕ → ℕ → Type 0
  IsFoundIn xs y = (q y ≡ true) × (pre : List ℕ) × (post : List ℕ) × (xs ≡ pre ++ y ∷ post) × (filter q xs ≡ y ∷ filter q post)

  -- the first one that passes, and those behind it
  pub filter_found : (xs : List ℕ) (y : ℕ) → find q xs ≡ Some y → IsFoundIn xs y
  filter_found [] y e = absurd (grind arith)
  filter_found (x ∷ xs) y e = go (λ rest. filter_found xs y rest) (q x) refl
    where
      more : IsFoundIn xs y → q x ≡ false → IsFoundIn (x ∷ xs) y
      more r b = (r.0, x ∷ r.1, r.2, ap (λ l. x ∷ l) r.3, ap (λ c. cond c (x ∷ filter q xs) (filter q xs)) b ∙ r.4)

      go : (find q xs ≡ Some y → IsFoundIn xs y) → (b : Bool) → q x ≡ b → IsFoundIn (x ∷ xs) y
      go rest true b =
          let is : Some x ≡ Some y = sym (ap (λ c. cond c (Some x) (find q xs)) b) ∙ e in
          let same : x ≡ y = grind arith in
          (ap q (sym same) ∙ b, [], xs, ap (λ z. z ∷ xs) same, ap (λ c. cond c (x ∷ filter q xs) (filter q xs)) b ∙ ap (λ z. z ∷ filter q xs) same)
      go rest false b = more (rest (sym (ap (λ c. cond c (Some x) (find q xs)) b) ∙ e)) b

  nothing : (n : ℕ) → take {A = ℕ} n [] ≡ []
  nothing zero = refl
  nothing (suc n) = refl

  -- where none passes, none is found
  none_left : (xs : List ℕ) (n : ℕ) → None ≡ find q xs → found_among q xs n ≡ []
  none_left [] n e = nothing n
  none_left (x ∷ xs) n e = go (λ rest. none_left xs n rest) (q x) refl
    where
      go : (None ≡ find q xs → found_among q xs n ≡ []) → (b : Bool) → q x ≡ b → found_among q (x ∷ xs) n ≡ []
      go rest true b = let wrong : None ≡ Some x = e ∙ ap (λ c. cond c (Some x) (find q xs)) b in absurd (grind arith)
      go rest false b = ap (λ c. take n (cond c (x ∷ filter q xs) (filter q xs))) b ∙ rest (e ∙ ap (λ c. cond c (Some x) (find q xs)) b)

  -- none is left: all is found
  pub at_the_end : (xs : List ℕ) (n : ℕ) (found whole : List ℕ) → None ≡ find q xs → found ++ found_among q xs n ≡ whole → found ≡ whole
  at_the_end xs n found whole none inv = sym (append-nil found) ∙ ap (λ l. found ++ l) (sym (none_left xs n none)) ∙ inv

  -- as many as the limit says are found
  pub at_the_limit : (xs : List ℕ) (n : ℕ) (found whole : List ℕ) → n ≡ 0 → found ++ found_among q xs n ≡ whole → found ≡ whole
  at_the_limit xs n found whole low inv = sym (ap (λ m. found ++ found_among q xs m) low ∙ append-nil found) ∙ inv

-- a list in reverse, around one of it
reversed : (n : ℕ) (xs ys : List ℕ) → reverse (xs ++ n ∷ ys) ≡ reverse ys ++ n ∷ reverse xs
reversed n xs ys =
    reverse-append xs (n ∷ ys) ∙ ap (λ l. l ++ reverse xs) (reverse-append (n ∷ []) ys) ∙ append_assoc (reverse ys) (n ∷ []) (reverse xs)

module _ (t : Tree) (hangs : IsObjectTree t) where
  -- where an object stands in the preorder
  parts : (n : ℕ) → has_object t n ≡ true → preorder t ≡ before n (preorder t) ++ n ∷ after n (preorder t)
  parts n there = parted n (preorder t) (in_preorder t hangs n there)

  -- in any splitting of the preorder, what is behind one is what comes after it, and what is in front comes before it
  split_after : (y : ℕ) (pre post : List ℕ) → preorder t ≡ pre ++ y ∷ post → after y (preorder t) ≡ post
  split_after y pre post e = ap (after y) e ∙ after_is y pre post (subst HasNoRepeats e (preorder_once t hangs))

  split_before : (y : ℕ) (pre post : List ℕ) → preorder t ≡ pre ++ y ∷ post → before y (preorder t) ≡ pre
  split_before y pre post e = ap (before y) e ∙ before_is y pre post (subst HasNoRepeats e (preorder_once t hangs))

  -- behind one of the candidates stand the candidates from there on
  behind : (at : Option ℕ) (backward : Bool) → IfSome at (λ n. IsTrue (has_object t n)) → (y : ℕ) (pre post : List ℕ) → candidates t at backward ≡ pre ++ y ∷ post → candidates t (Some y) backward ≡ post
  behind None false known y pre post e = split_after y pre post e
  behind (Some n) false known y pre post e =
      split_after y (before n (preorder t) ++ n ∷ pre) post (parts n known ∙ ap (λ l. before n (preorder t) ++ n ∷ l) e ∙ sym (append_assoc (before n (preorder t)) (n ∷ pre) (y ∷ post)))
  behind None true known y pre post e =
      ap reverse (split_before y (reverse post) (reverse pre) (sym (reverse-reverse (preorder t)) ∙ ap reverse e ∙ reversed y pre post)) ∙ reverse-reverse post
  behind (Some n) true known y pre post e =
      let front : before n (preorder t) ≡ reverse post ++ y ∷ reverse pre = sym (reverse-reverse (before n (preorder t))) ∙ ap reverse e ∙ reversed y pre post in
      ap reverse (split_before y (reverse post) (reverse pre ++ n ∷ after n (preorder t)) (parts n known ∙ ap (λ l. l ++ n ∷ after n (preorder t)) front ∙ append_assoc (reverse post) (y ∷ reverse pre) (n ∷ after n (preorder t)))) ∙ reverse-reverse post

  -- what is wanted is an object
  wanted_there : (wants : Record → Bool) (n : ℕ) → wanted_at t wants n ≡ true → has_object t n ≡ true
  wanted_there wants n e = go (record_at t n) refl
    where
      go : (o : Option Record) → record_at t n ≡ o → has_object t n ≡ true
      go None is = absurd (false≢true (sym (ap (λ o. option_map_or wants o false) is) ∙ e))
      go (Some r) is = ap is_some is

  module _ (wants : Record → Bool) where
    abbrev q : ℕ → Bool
    q = wanted_at t wants

    -- one more that is found: it is there, and the rest of the search is that from it on
    pub goes_on : (at : Option ℕ) (backward : Bool) (limit n y : ℕ) (found whole : List ℕ) → IfSome at (λ n. IsTrue (has_object t n)) → suc n ≡ limit
        → Some y ≡ find q (candidates t at backward) → found ++ found_among q (candidates t at backward) limit ≡ whole
        → ((found ++ y ∷ []) ++ found_among q (candidates t (Some y) backward) n ≡ whole) × (has_object t y ≡ true)
    goes_on at backward limit n y found whole known next got inv =
        let f = filter_found q (candidates t at backward) y (sym got) in (
          append_assoc found (y ∷ []) (found_among q (candidates t (Some y) backward) n) ∙ ap (λ l. found ++ y ∷ take n (filter q l)) (behind at backward known y f.1 f.2 f.3) ∙ ap (λ l. found ++ take (suc n) l) (sym f.4)
              ∙ ap (λ m. found ++ found_among q (candidates t at backward) m) next ∙ inv,
          wanted_there wants y f.0,
        )
