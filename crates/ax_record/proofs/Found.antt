-- The first wanted object of a walk.
use Rattle.std.proofs.Common.{◌≡◌, ℕ, zero, suc, List, [], ◌∷◌, ◌++◌, reverse, Bool, true, false, cond, sym, ap, ◌∙◌}
use Rattle.std.specs.Prelude.{find, Option, Some, None}
use Rattle.std.specs.List.{flat_map}
use Rattle.std.specs.Option.{option_map_or}
use Rattle.std.proofs.lemmas.List.{reverse-append}
use Rattle.ax_record.specs.declared.record.Record.{Record}
use Rattle.ax_record.proofs.Walking.{lowest, above}
use Rattle.ax_record.specs.Tree.{Tree, record_at, kids_of, objects_within}
use Rattle.ax_record.specs.Orders.{back_within, back_below, wanted_at}
use Rattle.ax_record.proofs.Lists.{found_in_front, none_in_front, reverse-flat_map}

module _ (t : Tree) where
  kids_are : (n : ℕ) (r : Record) → Some r ≡ record_at t n → r.kids ≡ kids_of t n
  kids_are n r is = ap (λ o. option_map_or (λ (x : Record). x.kids) o []) is

  module _ (wants : Record → Bool) where
    abbrev q : ℕ → Bool
    q = wanted_at t wants

    is_wanted : (n : ℕ) (r : Record) (b : Bool) → Some r ≡ record_at t n → wants r ≡ b → q n ≡ b
    is_wanted n r b is e = sym (ap (λ o. option_map_or wants o false) is) ∙ e

    unknown : (n : ℕ) → None ≡ record_at t n → q n ≡ false
    unknown n is = sym (ap (λ o. option_map_or wants o false) is)

    only : (n : ℕ) (xs : List ℕ) → q n ≡ true → find q (n ∷ xs) ≡ Some n
    only n xs e = ap (λ b. cond b (Some n) (find q xs)) e

    not_it : (n : ℕ) (xs : List ℕ) → q n ≡ false → find q (n ∷ xs) ≡ find q xs
    not_it n xs e = ap (λ b. cond b (Some n) (find q xs)) e

    -- no object of that id
    pub none_there : (levels n : ℕ) → None ≡ record_at t n → None ≡ find q (objects_within t levels n)
    none_there zero n is = sym (ap (find q) (lowest t n) ∙ not_it n [] (unknown n is))
    none_there (suc levels) n is = sym (ap (find q) (above t levels n) ∙ not_it n (flat_map (objects_within t levels) (kids_of t n)) (unknown n is) ∙ ap (λ o. find q (flat_map (objects_within t levels) (option_map_or (λ (r : Record). r.kids) o []))) (sym is))

    -- the object itself is wanted
    pub wanted_itself : (levels n : ℕ) (r : Record) (b : Bool) → Some r ≡ record_at t n → b ≡ wants r → b ≡ true → Some n ≡ find q (objects_within t levels n)
    wanted_itself zero n r b is e yes_b = sym (ap (find q) (lowest t n) ∙ only n [] (is_wanted n r true is (sym e ∙ yes_b)))
    wanted_itself (suc levels) n r b is e yes_b = sym (ap (find q) (above t levels n) ∙ only n (flat_map (objects_within t levels) (kids_of t n)) (is_wanted n r true is (sym e ∙ yes_b)))

    -- it is not, and no level is left
    pub lowest_unwanted : (levels n : ℕ) (r : Record) (b : Bool) → Some r ≡ record_at t n → b ≡ wants r → b ≡ false → levels ≡ 0 → None ≡ find q (objects_within t levels n)
    lowest_unwanted levels n r b is e no_b low = sym (ap (λ l. find q (objects_within t l n)) low ∙ ap (find q) (lowest t n) ∙ not_it n [] (is_wanted n r false is (sym e ∙ no_b)))

    -- it is not: the first one below it
    pub among_kids : (levels n : ℕ) (r : Record) (b : Bool) (ks : List ℕ) (found : Option ℕ) (m : ℕ) → Some r ≡ record_at t n → b ≡ wants r → b ≡ false → suc m ≡ levels → ks ≡ r.kids
        → found ≡ find q (flat_map (objects_within t m) ks) → found ≡ find q (objects_within t levels n)
    among_kids levels n r b ks found m is e no_b high same got =
        got ∙ ap (λ l. find q (flat_map (objects_within t m) l)) (same ∙ kids_are n r is)
        ∙ sym (ap (find q) (above t m n) ∙ not_it n (flat_map (objects_within t m) (kids_of t n)) (is_wanted n r false is (sym e ∙ no_b))) ∙ ap (λ l. find q (objects_within t l n)) high

  module _ (wants : Record → Bool) where
    abbrev passes : ℕ → Bool
    passes = wanted_at t wants

    back-zero : (n : ℕ) → back_within t 0 n ≡ n ∷ []
    back-zero n = ap reverse (lowest t n)

    -- the reverse of an object and what is below it ends with the object
    back-kids : (levels n : ℕ) → back_within t levels n ≡ back_below t levels (kids_of t n) ++ n ∷ []
    back-kids zero n = back-zero n
    back-kids (suc levels) n =
        ap reverse (above t levels n) ∙ reverse-append (n ∷ []) (flat_map (objects_within t levels) (kids_of t n))
        ∙ ap (λ l. l ++ n ∷ []) (reverse-flat_map (objects_within t levels) (kids_of t n))

    pub none_back : (levels n : ℕ) → None ≡ record_at t n → None ≡ find passes (back_within t levels n)
    none_back zero n is = sym (ap (find passes) (back-zero n) ∙ not_it wants n [] (unknown wants n is))
    none_back (suc levels) n is =
        let bare : kids_of t n ≡ [] = sym (ap (λ o. option_map_or (λ (r : Record). r.kids) o []) is) in
        sym (ap (find passes) (back-kids (suc levels) n ∙ ap (λ ks. back_below t (suc levels) ks ++ n ∷ []) bare) ∙ not_it wants n [] (unknown wants n is))

    pub back_in_kids : (levels n y : ℕ) (r : Record) (ks : List ℕ) → Some r ≡ record_at t n → ks ≡ r.kids → Some y ≡ find passes (back_below t levels ks) → Some y ≡ find passes (back_within t levels n)
    back_in_kids levels n y r ks is same got =
        sym (ap (find passes) (back-kids levels n) ∙ found_in_front passes (back_below t levels (kids_of t n)) (n ∷ []) y (sym (got ∙ ap (λ l. find passes (back_below t levels l)) (same ∙ kids_are n r is))))

    back_itself : (levels n : ℕ) (r : Record) (ks : List ℕ) → Some r ≡ record_at t n → ks ≡ r.kids → None ≡ find passes (back_below t levels ks) → find passes (back_within t levels n) ≡ find passes (n ∷ [])
    back_itself levels n r ks is same got =
        ap (find passes) (back-kids levels n) ∙ none_in_front passes (back_below t levels (kids_of t n)) (n ∷ []) (sym (got ∙ ap (λ l. find passes (back_below t levels l)) (same ∙ kids_are n r is)))

    pub back_wanted : (levels n : ℕ) (r : Record) (ks : List ℕ) (b : Bool) → Some r ≡ record_at t n → ks ≡ r.kids → None ≡ find passes (back_below t levels ks) → b ≡ wants r → b ≡ true → Some n ≡ find passes (back_within t levels n)
    back_wanted levels n r ks b is same got e holds = sym (back_itself levels n r ks is same got ∙ only wants n [] (is_wanted wants n r true is (sym e ∙ holds)))

    pub back_unwanted : (levels n : ℕ) (r : Record) (ks : List ℕ) (b : Bool) → Some r ≡ record_at t n → ks ≡ r.kids → None ≡ find passes (back_below t levels ks) → b ≡ wants r → b ≡ false → None ≡ find passes (back_within t levels n)
    back_unwanted levels n r ks b is same got e fails = sym (back_itself levels n r ks is same got ∙ not_it wants n [] (is_wanted wants n r false is (sym e ∙ fails)))

    -- with no level left there is none, and with one the kids count
    pub below_none : (levels : ℕ) (ks : List ℕ) → levels ≡ 0 → None ≡ find passes (back_below t levels ks)
    below_none levels ks e = sym (ap (λ l. find passes (back_below t l ks)) e)

    pub below_some : (levels : ℕ) (ks : List ℕ) (found : Option ℕ) (m : ℕ) → suc m ≡ levels → found ≡ find passes (flat_map (back_within t m) (reverse ks)) → found ≡ find passes (back_below t levels ks)
    below_some levels ks found m high e = e ∙ ap (λ l. find passes (back_below t l ks)) high
