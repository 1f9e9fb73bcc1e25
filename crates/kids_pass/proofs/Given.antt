-- What children give of which is kept that they are objects.
use Rattle.std.proofs.Common.{◌≡◌, ◌⊎◌, inl, inr, ℕ, suc, ◌+◌, ◌-◌, ◌≤◌, ◌<◌, List, [], ◌∷◌, ◌++◌, length, take, drop, get_or, Bool, true, false, ◌&&◌, ◌||◌, cond, Option, Some, None, is_some, Contains, refl, sym, ap, subst, ◌∙◌, arith}
use Rattle.std.specs.List.{flat_map}
use Rattle.std.proofs.lemmas.Bool.{false≢true, or_parts}
use Rattle.std.proofs.lemmas.List.{take_all, take_more, take-append-drop, append_assoc, length-drop, flat_map_more}
use Rattle.std.proofs.lemmas.List.Elements.{Contains-append_left, Contains-append_right, Contains-append_cases, Contains-get_or}
use Rattle.std.proofs.lemmas.Grind.{flat_map-append}
use Rattle.ax_base.specs.Splices.{AreSharedBut}
use Rattle.ax_base.proofs.Joins.{Contains-cases}
use Rattle.ax_base.proofs.Lookups.{finds_tells}
use Rattle.ax_base.proofs.Splicing.{in_front, in_three}
use Rattle.ax_roles.specs.declared.inclusion.Inclusion.{Inclusion}
use Rattle.ax_roles.specs.declared.inclusion.Inclusion.TheVariants.{Included, Excluded}
use Rattle.ax_roles.specs.Inclusion.{is_object_by}
use Rattle.ctx_pass.specs.Marks.{is_marked}
use Rattle.kids_pass.specs.declared.children.NodeKids.{NodeKids}
use Rattle.kids_pass.specs.Kids.{given_by, given, given_at, kids_at, listed, is_object_or, AreKept, AreObjects, AreObjectsBut, IsListOf, IsKeptIn}
use Rattle.kids_pass.proofs.Gathering.{made, gives_itself, take_plus}

pub in_part : (n i : ℕ) (xs : List ℕ) (x : ℕ) → Contains (take n (drop i xs)) x → Contains xs x
in_part n i xs x inside =
    subst (λ l. Contains l x) (take-append-drop i xs)
    (Contains-append_right (take i xs) (drop i xs) x (subst (λ l. Contains l x) (take-append-drop n (drop i xs)) (Contains-append_left (take n (drop i xs)) (drop n (drop i xs)) x inside)))

-- of which something is kept, and which is no other than an object, that is an object
pub kept_object : (o : Option NodeKids) → is_object_or true o ≡ true → is_some o ≡ true → is_object_or false o ≡ true
kept_object None other is = absurd (false≢true is)
kept_object (Some k) other is = other

object_gives : (o : Option NodeKids) (n : ℕ) → is_object_or false o ≡ true → given o n ≡ n ∷ []
object_gives None n is = absurd (false≢true is)
object_gives (Some k) n is = gives_itself n k is

Contains-first : (c : ℕ) (cs : List ℕ) → Contains (c ∷ cs) c
Contains-first c cs = (0, omega arith, refl)

Contains-later : (c n : ℕ) (cs : List ℕ) → Contains cs n → Contains (c ∷ cs) n
Contains-later c n cs (k, low, is) = (suc k, omega arith, is)

module _ (kept : List (ℕ × NodeKids)) where
  no_objects : AreObjects kept []
  no_objects n (k, low, is) = absurd (omega (arith, low))

  one_object : (x : ℕ) → is_object_or false (kids_at kept x) ≡ true → AreObjects kept (x ∷ [])
  one_object x on n inside = elim (Contains-cases n x [] inside) [
    | inl same ↦ subst (λ k. is_object_or false (kids_at kept k) ≡ true) same on
    | inr more ↦ no_objects n more
  ]

  both_objects : (xs ys : List ℕ) → AreObjects kept xs → AreObjects kept ys → AreObjects kept (xs ++ ys)
  both_objects xs ys left right n inside = elim (Contains-append_cases xs ys n inside) [ inl first ↦ left n first | inr later ↦ right n later ]

  -- objects give themselves
  pub objects_give : (cs : List ℕ) → AreObjects kept cs → flat_map (given_at kept) cs ≡ cs
  objects_give [] are = refl
  objects_give (c ∷ cs) are = λ i. object_gives (kids_at kept c) c (are c (Contains-first c cs)) i ++ objects_give cs (λ n inside. are n (Contains-later c n cs inside)) i

  one_more : (cs : List ℕ) (i k x : ℕ) → k ≡ i + 1 → i < length cs → x ≡ get_or cs i x → take k cs ≡ take i cs ++ x ∷ []
  one_more cs i k x next low is = ap (λ n. take n cs) next ∙ take_more cs i x low ∙ ap (λ y. take i cs ++ y ∷ []) (sym is)

  pub objects_more : (cs : List ℕ) (i k x : ℕ) → k ≡ i + 1 → i < length cs → x ≡ get_or cs i x → AreObjects kept (take i cs) → is_object_or false (kids_at kept x) ≡ true → AreObjects kept (take k cs)
  objects_more cs i k x next low is before on = subst (AreObjects kept) (sym (one_more cs i k x next low is)) (both_objects (take i cs) (x ∷ []) before (one_object x on))

  -- one more, where those before and this one have no mark
  pub objects_unless : (cs : List ℕ) (i k x : ℕ) (a b : Bool) → k ≡ i + 1 → i < length cs → x ≡ get_or cs i x → (a ≡ false → AreObjects kept (take i cs)) → (b ≡ false → is_object_or false (kids_at kept x) ≡ true) → (a || b) ≡ false → AreObjects kept (take k cs)
  objects_unless cs i k x a b next low is before here off = let (left, right) = or_parts a b off in objects_more cs i k x next low is (before left) (here right)

  -- one block more
  pub objects_on : (cs : List ℕ) (at n next : ℕ) → next ≡ at + n → at ≤ length cs → AreObjects kept (take at cs) → AreObjects kept (take n (drop at cs)) → AreObjects kept (take next cs)
  objects_on cs at n next is low before more = subst (AreObjects kept) (sym (take_plus cs at n next is low)) (both_objects (take at cs) (take n (drop at cs)) before more)

  -- a child without a mark is an object, if something is kept of it
  pub unmarked_object : (cs marks : List ℕ) (i x : ℕ) (b : Bool) → i < length cs → x ≡ get_or cs i x → AreKept kept cs → ((n : ℕ) → is_marked marks n ≡ false → is_object_or true (kids_at kept n) ≡ true) → b ≡ is_marked marks x → b ≡ false → is_object_or false (kids_at kept x) ≡ true
  unmarked_object cs marks i x b low is known others found off = kept_object (kids_at kept x) (others x (sym found ∙ off)) (known x (subst (Contains cs) (sym is) (Contains-get_or cs i x low)))

  -- what a child gives that is an object, or is out
  pub plain_gives : (k : NodeKids) (n : ℕ) → Some k ≡ kids_at kept n → (k.inclusion ≡ Included) ⊎ (k.inclusion ≡ Excluded) → AreObjects kept (given_at kept n)
  plain_gives k n is which = subst (AreObjects kept) (ap (λ o. given o n) is) (elim which [
    | inl on ↦ subst (λ p. AreObjects kept (given_by p k.kids n)) (sym on) (one_object n (ap (is_object_or false) (sym is) ∙ ap is_object_by on))
    | inr off ↦ subst (λ p. AreObjects kept (given_by p k.kids n)) (sym off) no_objects
  ])

  -- what some objects give, and one more child
  pub added_one : (cs old mid new : List ℕ) (n k x : ℕ) → k ≡ n + 1 → n < length cs → x ≡ get_or cs n x → AreObjects kept (take n cs) → mid ≡ old ++ take n cs → new ≡ mid ++ given_at kept x → new ≡ old ++ flat_map (given_at kept) (take k cs)
  added_one cs old mid new n k x next low is are first more =
      more
      ∙ ap (λ l. l ++ given_at kept x) (first ∙ ap (λ l. old ++ l) (sym (objects_give (take n cs) are)))
      ∙ flat_map_more (given_at kept) old (take n cs) x
      ∙ ap (λ l. old ++ flat_map (given_at kept) l) (sym (one_more cs n k x next low is))

  pub objects_one : (cs : List ℕ) (n k x : ℕ) → k ≡ n + 1 → n < length cs → x ≡ get_or cs n x → AreObjects kept (take n cs) → AreObjects kept (given_at kept x) → AreObjects kept (flat_map (given_at kept) (take k cs))
  objects_one cs n k x next low is are more = subst (AreObjects kept) (sym same) (both_objects (take n cs) (given_at kept x) are more)
    where
      same : flat_map (given_at kept) (take k cs) ≡ take n cs ++ given_at kept x
      same = ap (flat_map (given_at kept)) (one_more cs n k x next low is) ∙ sym (flat_map_more (given_at kept) [] (take n cs) x) ∙ ap (λ l. l ++ given_at kept x) (objects_give (take n cs) are)

  parted : (cs : List ℕ) (i n : ℕ) → i ≤ length cs → flat_map (given_at kept) (take (i + n) cs) ≡ flat_map (given_at kept) (take i cs) ++ flat_map (given_at kept) (take n (take (length cs - i) (drop i cs)))
  parted cs i n low =
      ap (flat_map (given_at kept)) (take_plus cs i n (i + n) refl low)
      ∙ flat_map-append (given_at kept) (take i cs) (take n (drop i cs))
      ∙ ap (λ l. flat_map (given_at kept) (take i cs) ++ flat_map (given_at kept) (take n l)) (sym (take_all (length cs - i) (drop i cs) short))
    where
      short : length (drop i cs) ≤ length cs - i
      short = let left : length (drop i cs) ≡ length cs - i = length-drop i cs in omega arith

  -- what the first give, and some of those that are left
  pub front_given : (cs old mid new : List ℕ) (i n : ℕ) → i ≤ length cs → mid ≡ old ++ flat_map (given_at kept) (take i cs) → new ≡ mid ++ flat_map (given_at kept) (take n (take (length cs - i) (drop i cs))) → new ≡ old ++ flat_map (given_at kept) (take (i + n) cs)
  front_given cs old mid new i n low so_far adds =
      adds
      ∙ ap (λ l. l ++ flat_map (given_at kept) (take n (take (length cs - i) (drop i cs)))) so_far
      ∙ append_assoc old (flat_map (given_at kept) (take i cs)) (flat_map (given_at kept) (take n (take (length cs - i) (drop i cs))))
      ∙ ap (λ l. old ++ l) (sym (parted cs i n low))

  both_true : (a b : Bool) → (a && b) ≡ true → (a ≡ true) × (b ≡ true)
  both_true true b on = (refl, on)
  both_true false b on = absurd (false≢true on)

  pub front_objects : (cs : List ℕ) (i n : ℕ) (a b : Bool) → i ≤ length cs → (a ≡ true → AreObjects kept (flat_map (given_at kept) (take i cs))) → (b ≡ true → AreObjects kept (flat_map (given_at kept) (take n (take (length cs - i) (drop i cs)))))
      → (a && b) ≡ true → AreObjects kept (flat_map (given_at kept) (take (i + n) cs))
  front_objects cs i n a b low first more on =
      let (left, right) = both_true a b on in
      subst (AreObjects kept) (sym (parted cs i n low)) (both_objects (flat_map (given_at kept) (take i cs)) (flat_map (given_at kept) (take n (take (length cs - i) (drop i cs)))) (first left) (more right))

  -- all children in three parts, of which the outer two are objects
  module _ (cs : List ℕ) (start end : ℕ) (others : AreObjectsBut start end kept cs) (none first mid whole : List ℕ) (empty : none ≡ []) (one : first ≡ none ++ take start cs)
      (two : mid ≡ first ++ flat_map (given_at kept) (take (end - start) (drop start cs))) (three : whole ≡ mid ++ take (length cs - end) (drop end cs)) where
    abbrev part : List ℕ
    part = flat_map (given_at kept) (take (end - start) (drop start cs))

    rest : take (length cs - end) (drop end cs) ≡ drop end cs
    rest = let left : length (drop end cs) ≡ length cs - end = length-drop end cs in take_all (length cs - end) (drop end cs) (omega arith)

    in_parts : whole ≡ take start cs ++ (part ++ drop end cs)
    in_parts =
        three
        ∙ ap (λ l. mid ++ l) rest
        ∙ ap (λ l. l ++ drop end cs) (two ∙ ap (λ l. l ++ part) (one ∙ ap (λ l. l ++ take start cs) empty))
        ∙ append_assoc (take start cs) part (drop end cs)

    pub three_given : whole ≡ flat_map (given_at kept) cs
    three_given =
        in_parts
        ∙ (λ i. sym (objects_give (take start cs) others.before) i ++ (part ++ sym (objects_give (drop end cs) others.after) i))
        ∙ (λ i. flat_map (given_at kept) (take start cs) ++ sym (flat_map-append (given_at kept) (take (end - start) (drop start cs)) (drop end cs)) i)
        ∙ sym (flat_map-append (given_at kept) (take start cs) (take (end - start) (drop start cs) ++ drop end cs))
        ∙ ap (flat_map (given_at kept)) (in_three cs start end others.order)

    pub three_objects : AreObjects kept part → AreObjects kept whole
    three_objects are = subst (AreObjects kept) (sym in_parts) (both_objects (take start cs) (part ++ drop end cs) others.before (both_objects part (drop end cs) are others.after))

  -- children that stand in a list of objects are objects
  pub settled : (start end : ℕ) (cs ks list : List ℕ) → AreSharedBut start end cs ks → ks ≡ list → AreObjects kept list → AreObjectsBut start end kept cs
  settled start end cs ks list shared same are = record {
    order = shared.order;
    within = shared.within;
    before = λ n inside. are n (subst (λ l. Contains l n) same (in_front start end cs ks shared n inside));
    after = λ n inside. are n (subst (λ l. Contains l n) same (shared.after n inside));
  }

  -- where all children are those of the list that is kept, nothing changes
  pub same_kept : (id start : ℕ) (part : Inclusion) (cs : List ℕ) → start ≡ length cs → AreObjects kept (take start cs) → take start cs ≡ take start (listed kept id) → IsListOf (kids_at kept id) part start → IsKeptIn kept kept id (made part (flat_map (given_at kept) cs))
  same_kept id start part cs whole are front (is, count) n = elim (finds_tells n id) [
    | inl (on, same) ↦ ap (kids_at kept) same ∙ entry ∙ sym (ap (λ b. cond b (Some (made part (flat_map (given_at kept) cs))) (kids_at kept n)) on)
    | inr (off, apart) ↦ sym (ap (λ b. cond b (Some (made part (flat_map (given_at kept) cs))) (kids_at kept n)) off)
  ]
    where
      all : take start cs ≡ cs
      all = take_all start cs (omega arith)

      list : listed kept id ≡ flat_map (given_at kept) cs
      list = sym (take_all start (listed kept id) (omega arith)) ∙ sym front ∙ sym (objects_give (take start cs) are) ∙ ap (flat_map (given_at kept)) all

      entry : kids_at kept id ≡ Some (made part (flat_map (given_at kept) cs))
      entry = is ∙ ap (λ l. Some (made part l)) list
