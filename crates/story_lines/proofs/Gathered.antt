-- A list that is gathered one after another, and has been read up to some place.
use Rattle.std.proofs.Common.{◌≡◌, List, [], ◌∷◌, ◌++◌, Option, Some, None, option_map, option_and_then, refl, ap, sym, append_assoc}
use Rattle.std.proofs.lemmas.List.{append-nil}

module _ {A : Type 0} where
  -- what is done, and then what is left
  abbrev pub after : List A → Option (List A) → Option (List A)
  after done rest = option_map (λ more. done ++ more) rest

  -- one more is done
  pub after_one : (done : List A) (a : A) (rest : Option (List A)) → after done (option_and_then (λ more. Some (a ∷ more)) rest) ≡ after (done ++ a ∷ []) rest
  after_one done a None = refl
  after_one done a (Some more) = ap Some (sym (append_assoc done (a ∷ []) more))

  -- where nothing is left, those that are done are all
  pub all_done : (done : List A) → after done (Some []) ≡ Some done
  all_done done = ap Some (append-nil done)
