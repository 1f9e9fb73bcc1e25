-- The first of a list that passes a test.
use Rattle.std.proofs.Common.{◌≡◌, ℕ, List, [], ◌∷◌, ◌++◌, map, reverse, Contains, Bool, true, false, cond, refl, sym, ap, ◌∙◌, append_assoc, append-nil}
use Rattle.std.specs.Prelude.{find, Some, None}
use Rattle.std.specs.List.{flat_map}
use Rattle.std.specs.Option.{option_or, option_map}
use Rattle.std.proofs.lemmas.List.{reverse-append, map-append}
use Rattle.std.proofs.lemmas.List.Folds.{find-append}
use Rattle.ax_base.proofs.Membership.{Contains-head, Contains-tail}

module _ {X : Type 0} where
  -- what stands in lists that are joined
  pub flat_parts : (f : ℕ → List X) (xs : List ℕ) (n : ℕ) (ys : List ℕ) → flat_map f (xs ++ n ∷ ys) ≡ flat_map f xs ++ (f n ++ flat_map f ys)
  flat_parts f [] n ys = refl
  flat_parts f (x ∷ xs) n ys = ap (λ l. f x ++ l) (flat_parts f xs n ys) ∙ sym (append_assoc (f x) (flat_map f xs) (f n ++ flat_map f ys))

  -- the reverse of lists that are joined
  pub reverse-flat : (f : ℕ → List X) (xs : List ℕ) → reverse (flat_map f xs) ≡ flat_map (λ x. reverse (f x)) (reverse xs)
  reverse-flat f [] = refl
  reverse-flat f (x ∷ xs) =
      reverse-append (f x) (flat_map f xs) ∙ ap (λ l. l ++ reverse (f x)) (reverse-flat f xs)
      ∙ (ap (λ l. flat_map (λ y. reverse (f y)) (reverse xs) ++ l) (sym (append-nil (reverse (f x)))) ∙ sym (joins (λ y. reverse (f y)) (reverse xs) (x ∷ [])) ∙ ap (flat_map (λ y. reverse (f y))) (sym (reverse-append (x ∷ []) xs)))
    where
      joins : (g : ℕ → List X) (fs bs : List ℕ) → flat_map g (fs ++ bs) ≡ flat_map g fs ++ flat_map g bs
      joins g [] bs = refl
      joins g (a ∷ fs) bs = ap (λ l. g a ++ l) (joins g fs bs) ∙ sym (append_assoc (g a) (flat_map g fs) (flat_map g bs))

  pub reverse-map : (f : ℕ → X) (xs : List ℕ) → reverse (map f xs) ≡ map f (reverse xs)
  reverse-map f [] = refl
  reverse-map f (x ∷ xs) =
      reverse-append (f x ∷ []) (map f xs) ∙ ap (λ l. l ++ f x ∷ []) (reverse-map f xs) ∙ sym (ap (map f) (reverse-append (x ∷ []) xs) ∙ map-append f (reverse xs) (x ∷ []))

  module _ (q : X → Bool) where
    pub in_front : (xs ys : List X) (y : X) → find q xs ≡ Some y → find q (xs ++ ys) ≡ Some y
    in_front xs ys y e = find-append q xs ys ∙ ap (λ o. option_or o (find q ys)) e

    pub behind : (xs ys : List X) → find q xs ≡ None → find q (xs ++ ys) ≡ find q ys
    behind xs ys e = find-append q xs ys ∙ ap (λ o. option_or o (find q ys)) e

    pub takes : (x : X) (xs : List X) → q x ≡ true → find q (x ∷ xs) ≡ Some x
    takes x xs e = ap (λ b. cond b (Some x) (find q xs)) e

    pub skips : (x : X) (xs : List X) → q x ≡ false → find q (x ∷ xs) ≡ find q xs
    skips x xs e = ap (λ b. cond b (Some x) (find q xs)) e

    -- the first that passes among some that are made of others
    pub find_map : {Y : Type 0} (f : Y → X) (xs : List Y) → find q (map f xs) ≡ option_map f (find (λ x. q (f x)) xs)
    find_map f [] = refl
    find_map f (x ∷ xs) = go (q (f x)) (find_map f xs)
      where
        go : (b : Bool) → find q (map f xs) ≡ option_map f (find (λ x. q (f x)) xs) → cond b (Some (f x)) (find q (map f xs)) ≡ option_map f (cond b (Some x) (find (λ x. q (f x)) xs))
        go true e = refl
        go false e = e

    -- none passes among some that are made of others
    pub none_made : {Y : Type 0} (f : Y → X) (xs : List Y) → ((x : Y) → q (f x) ≡ false) → find q (map f xs) ≡ None
    none_made f [] fails = refl
    none_made f (x ∷ xs) fails = skips (f x) (map f xs) (fails x) ∙ none_made f xs fails

    -- none passes in joined lists
    pub none_joined : (f : ℕ → List X) (xs : List ℕ) → ((x : ℕ) → Contains xs x → find q (f x) ≡ None) → find q (flat_map f xs) ≡ None
    none_joined f [] fails = refl
    none_joined f (x ∷ xs) fails = behind (f x) (flat_map f xs) (fails x (Contains-head x xs)) ∙ none_joined f xs (λ y inside. fails y (Contains-tail x y xs inside))

  -- tests that agree
  pub find_alike : (q r : X → Bool) (xs : List X) → ((x : X) → q x ≡ r x) → find q xs ≡ find r xs
  find_alike q r [] same = refl
  find_alike q r (x ∷ xs) same = ap (λ b. cond b (Some x) (find q xs)) (same x) ∙ ap (λ o. cond (r x) (Some x) o) (find_alike q r xs same)

  -- tests that agree on what is joined
  pub find_alike_joined : (q r : X → Bool) (f : ℕ → List X) (xs : List ℕ) → ((x : ℕ) → Contains xs x → find q (f x) ≡ find r (f x)) → find q (flat_map f xs) ≡ find r (flat_map f xs)
  find_alike_joined q r f [] same = refl
  find_alike_joined q r f (x ∷ xs) same =
      find-append q (f x) (flat_map f xs) ∙ ap (λ o. option_or o (find q (flat_map f xs))) (same x (Contains-head x xs))
      ∙ ap (λ o. option_or (find r (f x)) o) (find_alike_joined q r f xs (λ y inside. same y (Contains-tail x y xs inside))) ∙ sym (find-append r (f x) (flat_map f xs))

  pub none_passes : (q : X → Bool) (xs : List X) → ((x : X) → q x ≡ false) → find q xs ≡ None
  none_passes q [] fails = refl
  none_passes q (x ∷ xs) fails = skips q x xs (fails x) ∙ none_passes q xs fails
