-- What a climb from an object finds.
use Rattle.std.proofs.Common.{◌≡◌, ℕ, ◌<◌, List, [], ◌∷◌, ◌++◌, length, reverse, Bool, true, false, cond, sym, ap, ◌∙◌, arith, length-append, append_assoc}
use Rattle.std.specs.Prelude.{find, Option, Some, None, is_some}
use Rattle.std.specs.List.{flat_map}
use Rattle.std.specs.Option.{option_map_or, option_and_then}
use Rattle.std.proofs.lemmas.List.{reverse-append}
use Rattle.std.proofs.lemmas.Bool.{false≢true}
use Rattle.ax_record.specs.declared.record.Record.{Record}
use Rattle.ax_record.specs.Tree.{Tree, record_at, has_object, kids_of, parent_of, preorder, IsKid, objects_within}
use Rattle.ax_record.specs.ObjectTrees.{IsObjectTree}
use Rattle.ax_record.proofs.Preorder.{has_kids}
use Rattle.ax_record.specs.Orders.{back_within, wanted_at, after, before}
use Rattle.ax_record.proofs.Past.{past}
use Rattle.ax_record.proofs.Lists.{found_in_front, none_in_front, reverse-flat_map}
use Rattle.ax_record.proofs.Climbs.{after_below, past_kid, past_root, before_kid, before_root, hangs_on, is_root}

module _ (t : Tree) where
  kids_are : (n : ℕ) (r : Record) → Some r ≡ record_at t n → r.kids ≡ kids_of t n
  kids_are n r is = ap (λ o. option_map_or (λ (x : Record). x.kids) o []) is

  pub known : (n : ℕ) (r : Record) → Some r ≡ record_at t n → has_object t n ≡ true
  known n r is = sym (ap is_some is)

  pub parent_is : (n : ℕ) (r : Record) → Some r ≡ record_at t n → r.parent ≡ parent_of t n
  parent_is n r is = ap (option_and_then (λ (x : Record). x.parent)) is

  pub lacks : (n : ℕ) → None ≡ record_at t n → has_object t n ≡ true → ⊥
  lacks n is there = false≢true (ap is_some is ∙ there)

  module _ (hangs : IsObjectTree t) where
    kid : (at p : ℕ) (above : Option ℕ) → has_object t at ≡ true → above ≡ parent_of t at → above ≡ Some p → IsKid t p at
    kid at p above there is some = hangs_on t hangs at p there (sym is ∙ some)

    -- the object above is there
    pub above_known : (at p : ℕ) (above : Option ℕ) → has_object t at ≡ true → above ≡ parent_of t at → above ≡ Some p → None ≡ record_at t p → ⊥
    above_known at p above there is some none = lacks p none (has_kids t p at (kid at p above there is some))

    -- each climb leaves fewer objects before the one at hand
    pub climbs : (at p : ℕ) (above : Option ℕ) → has_object t at ≡ true → above ≡ parent_of t at → above ≡ Some p → length (before p (preorder t)) < length (before at (preorder t))
    climbs at p above there is some =
        let e = ap length (before_kid t hangs p at (kid at p above there is some)) ∙ length-append (before p (preorder t)) (p ∷ flat_map (objects_within t 128) (before at (kids_of t p))) in
        omega arith

    module _ (wants : Record → Bool) where
      abbrev q : ℕ → Bool
      q = wanted_at t wants

      -- forward: one below the origin
      pub below_origin : (n y : ℕ) (r : Record) (ks : List ℕ) → Some r ≡ record_at t n → ks ≡ r.kids → Some y ≡ find q (flat_map (objects_within t 128) ks) → Some y ≡ find q (after n (preorder t))
      below_origin n y r ks is same got =
          sym (ap (find q) (after_below t hangs n (known n r is)) ∙ found_in_front q (flat_map (objects_within t 128) (kids_of t n)) (past t n) y (sym (got ∙ ap (λ l. find q (flat_map (objects_within t 128) l)) (same ∙ kids_are n r is))))

      -- none below it
      pub past_origin : (n : ℕ) (r : Record) (ks : List ℕ) → Some r ≡ record_at t n → ks ≡ r.kids → None ≡ find q (flat_map (objects_within t 128) ks) → find q (after n (preorder t)) ≡ find q (past t n)
      past_origin n r ks is same got =
          ap (find q) (after_below t hangs n (known n r is)) ∙ none_in_front q (flat_map (objects_within t 128) (kids_of t n)) (past t n) (sym (got ∙ ap (λ l. find q (flat_map (objects_within t 128) l)) (same ∙ kids_are n r is)))

      later_are : (at p : ℕ) (r : Record) (ks later : List ℕ) → Some r ≡ record_at t p → ks ≡ r.kids → later ≡ after at ks → flat_map (objects_within t 128) later ≡ flat_map (objects_within t 128) (after at (kids_of t p))
      later_are at p r ks later is same e = ap (flat_map (objects_within t 128)) (e ∙ ap (after at) (same ∙ kids_are p r is))

      -- one among the later kids of the object above
      pub found_later : (n at p y : ℕ) (above : Option ℕ) (r : Record) (ks later : List ℕ) → find q (after n (preorder t)) ≡ find q (past t at) → has_object t at ≡ true → above ≡ parent_of t at → above ≡ Some p
          → Some r ≡ record_at t p → ks ≡ r.kids → later ≡ after at ks → Some y ≡ find q (flat_map (objects_within t 128) later) → Some y ≡ find q (after n (preorder t))
      found_later n at p y above r ks later inv there is some rec same e got =
          sym (inv ∙ ap (find q) (past_kid t hangs p at (kid at p above there is some)) ∙ found_in_front q (flat_map (objects_within t 128) (after at (kids_of t p))) (past t p) y (sym (got ∙ ap (find q) (later_are at p r ks later rec same e))))

      pub none_later : (n at p : ℕ) (above : Option ℕ) (r : Record) (ks later : List ℕ) → find q (after n (preorder t)) ≡ find q (past t at) → has_object t at ≡ true → above ≡ parent_of t at → above ≡ Some p
          → Some r ≡ record_at t p → ks ≡ r.kids → later ≡ after at ks → None ≡ find q (flat_map (objects_within t 128) later) → find q (after n (preorder t)) ≡ find q (past t p)
      none_later n at p above r ks later inv there is some rec same e got =
          inv ∙ ap (find q) (past_kid t hangs p at (kid at p above there is some)) ∙ none_in_front q (flat_map (objects_within t 128) (after at (kids_of t p))) (past t p) (sym (got ∙ ap (find q) (later_are at p r ks later rec same e)))

      -- nothing is past the root
      pub none_past : (n at : ℕ) (above : Option ℕ) → find q (after n (preorder t)) ≡ find q (past t at) → has_object t at ≡ true → above ≡ parent_of t at → above ≡ None → None ≡ find q (after n (preorder t))
      none_past n at above inv there is none =
          sym (inv ∙ ap (λ m. find q (past t m)) (is_root t hangs at there (sym is ∙ none)) ∙ ap (find q) (past_root t hangs))

      -- backward: what is before a kid, in reverse
      back_kid : (at p : ℕ) (above : Option ℕ) → has_object t at ≡ true → above ≡ parent_of t at → above ≡ Some p
          → reverse (before at (preorder t)) ≡ flat_map (back_within t 128) (reverse (before at (kids_of t p))) ++ p ∷ reverse (before p (preorder t))
      back_kid at p above there is some =
          ap reverse (before_kid t hangs p at (kid at p above there is some)) ∙ reverse-append (before p (preorder t)) (p ∷ flat_map (objects_within t 128) (before at (kids_of t p)))
          ∙ ap (λ l. l ++ reverse (before p (preorder t))) (reverse-append (p ∷ []) (flat_map (objects_within t 128) (before at (kids_of t p))) ∙ ap (λ l. l ++ p ∷ []) (reverse-flat_map (objects_within t 128) (before at (kids_of t p))))
          ∙ append_assoc (flat_map (back_within t 128) (reverse (before at (kids_of t p)))) (p ∷ []) (reverse (before p (preorder t)))

      earlier_are : (at p : ℕ) (r : Record) (ks earlier : List ℕ) → Some r ≡ record_at t p → ks ≡ r.kids → earlier ≡ before at ks → flat_map (back_within t 128) (reverse earlier) ≡ flat_map (back_within t 128) (reverse (before at (kids_of t p)))
      earlier_are at p r ks earlier is same e = ap (λ l. flat_map (back_within t 128) (reverse l)) (e ∙ ap (before at) (same ∙ kids_are p r is))

      pub found_earlier : (n at p y : ℕ) (above : Option ℕ) (r : Record) (ks earlier : List ℕ) → find q (reverse (before n (preorder t))) ≡ find q (reverse (before at (preorder t))) → has_object t at ≡ true → above ≡ parent_of t at → above ≡ Some p
          → Some r ≡ record_at t p → ks ≡ r.kids → earlier ≡ before at ks → Some y ≡ find q (flat_map (back_within t 128) (reverse earlier)) → Some y ≡ find q (reverse (before n (preorder t)))
      found_earlier n at p y above r ks earlier inv there is some rec same e got =
          sym (inv ∙ ap (find q) (back_kid at p above there is some) ∙ found_in_front q (flat_map (back_within t 128) (reverse (before at (kids_of t p)))) (p ∷ reverse (before p (preorder t))) y (sym (got ∙ ap (find q) (earlier_are at p r ks earlier rec same e))))

      to_parent : (n at p : ℕ) (above : Option ℕ) (r : Record) (ks earlier : List ℕ) → find q (reverse (before n (preorder t))) ≡ find q (reverse (before at (preorder t))) → has_object t at ≡ true → above ≡ parent_of t at → above ≡ Some p
          → Some r ≡ record_at t p → ks ≡ r.kids → earlier ≡ before at ks → None ≡ find q (flat_map (back_within t 128) (reverse earlier))
          → find q (reverse (before n (preorder t))) ≡ cond (q p) (Some p) (find q (reverse (before p (preorder t))))
      to_parent n at p above r ks earlier inv there is some rec same e got =
          inv ∙ ap (find q) (back_kid at p above there is some) ∙ none_in_front q (flat_map (back_within t 128) (reverse (before at (kids_of t p)))) (p ∷ reverse (before p (preorder t))) (sym (got ∙ ap (find q) (earlier_are at p r ks earlier rec same e)))

      passes : (p : ℕ) (r : Record) (b x : Bool) → Some r ≡ record_at t p → b ≡ wants r → b ≡ x → q p ≡ x
      passes p r b x rec e is = sym (ap (λ o. option_map_or wants o false) rec) ∙ sym e ∙ is

      pub parent_wanted : (n at p : ℕ) (above : Option ℕ) (r : Record) (ks earlier : List ℕ) (b : Bool) → find q (reverse (before n (preorder t))) ≡ find q (reverse (before at (preorder t))) → has_object t at ≡ true → above ≡ parent_of t at → above ≡ Some p
          → Some r ≡ record_at t p → ks ≡ r.kids → earlier ≡ before at ks → None ≡ find q (flat_map (back_within t 128) (reverse earlier)) → b ≡ wants r → b ≡ true
          → Some p ≡ find q (reverse (before n (preorder t)))
      parent_wanted n at p above r ks earlier b inv there is some rec same e got w holds =
          sym (to_parent n at p above r ks earlier inv there is some rec same e got ∙ ap (λ x. cond x (Some p) (find q (reverse (before p (preorder t))))) (passes p r b true rec w holds))

      pub none_earlier : (n at p : ℕ) (above : Option ℕ) (r : Record) (ks earlier : List ℕ) (b : Bool) → find q (reverse (before n (preorder t))) ≡ find q (reverse (before at (preorder t))) → has_object t at ≡ true → above ≡ parent_of t at → above ≡ Some p
          → Some r ≡ record_at t p → ks ≡ r.kids → earlier ≡ before at ks → None ≡ find q (flat_map (back_within t 128) (reverse earlier)) → b ≡ wants r → b ≡ false
          → find q (reverse (before n (preorder t))) ≡ find q (reverse (before p (preorder t)))
      none_earlier n at p above r ks earlier b inv there is some rec same e got w fails =
          to_parent n at p above r ks earlier inv there is some rec same e got ∙ ap (λ x. cond x (Some p) (find q (reverse (before p (preorder t))))) (passes p r b false rec w fails)

      pub none_before : (n at : ℕ) (above : Option ℕ) → find q (reverse (before n (preorder t))) ≡ find q (reverse (before at (preorder t))) → has_object t at ≡ true → above ≡ parent_of t at → above ≡ None → None ≡ find q (reverse (before n (preorder t)))
      none_before n at above inv there is none =
          sym (inv ∙ ap (λ m. find q (reverse (before m (preorder t)))) (is_root t hangs at there (sym is ∙ none)) ∙ ap (λ l. find q (reverse l)) (before_root t hangs))
