-- Nodes that are placed behind their parents.
use Rattle.std.proofs.Common.{◌≡◌, ◌⊎◌, inl, inr, ℕ, zero, suc, ◌+◌, ◌<◌, ◌≤◌, ◌||◌, List, [], ◌∷◌, ◌++◌, length, take, get_or, Bool, true, false, cond, Option, Some, None, refl, sym, ap, subst, ◌∙◌, arith}
use Rattle.std.specs.Prelude.{nat_eq, not, filter, find, IfSome, IfOk, Result, Ok, Err}
use Rattle.std.proofs.Math.Nat.{eq-or-lt_of_le}
use Rattle.std.specs.List.{list_any}
use Rattle.std.proofs.lemmas.Bool.{eqb-true, false≢true, or_parts}
use Rattle.std.proofs.lemmas.Bool.Decides.{eqb_tells}
use Rattle.std.proofs.lemmas.Map.Views.{Contains-from_any}
use Rattle.ax_base.specs.Document.{Document, has, parent, children, ids, IsChild}
use Rattle.ax_base.specs.Trees.{IsTree}
use Rattle.ax_base.proofs.Places.{has_children, depth-level, parent-child}
use Rattle.ax_dom.specs.Among.{is_in}
use Rattle.node_order.specs.Orders.{IsFromAbove}
use Rattle.node_order.specs.Parents.{SomeNodes, parent_at, AreHung, HangsOn, IsOneOf, ArePlaced}
use Rattle.node_order.proofs.Members.{same_is_in, is_in_push, place_of}

find_passes : (p : ℕ → Bool) (xs : List ℕ) → IfSome (find p xs) (λ x. p x ≡ true)
find_passes p [] = tt
find_passes p (x ∷ xs) = go (p x) refl (find_passes p xs)
  where
    go : (b : Bool) → p x ≡ b → IfSome (find p xs) (λ y. p y ≡ true) → IfSome (cond b (Some x) (find p xs)) (λ y. p y ≡ true)
    go true on rest = on
    go false off rest = rest

-- a parent is what a node is a child of, and higher
parent_holds : (d : Document) (n p : ℕ) → parent d n ≡ Some p → IsChild d p n
parent_holds d n p is = Contains-from_any eqb-true n (children d p) (subst (λ o. IfSome o (λ q. list_any (nat_eq n) (children d q) ≡ true)) is (find_passes (λ q. list_any (nat_eq n) (children d q)) (ids d)))

pub hangs_on : (d : Document) (ns : List ℕ) (found : List (ℕ × ℕ)) → AreHung d ns found → (n : ℕ) → is_in ns n ≡ true → IfSome (parent d n) (HangsOn d ns n)
hangs_on d ns found hung n among = go (parent d n) refl
  where
    go : (o : Option ℕ) → parent d n ≡ o → IfSome o (HangsOn d ns n)
    go None is = tt
    go (Some p) is =
        let t = hung.tree in
        let child = parent_holds d n p is in
        let e = depth-level d t p (has_children d p n child) in
        let f = depth-level d t n (t.known p n child) in
        let u = t.deeper p n child in
        record { child = child; among = hung.closed p n child among; higher = omega arith }

-- what is found is the parent
pub found_parent : (d : Document) (ns : List ℕ) (found : List (ℕ × ℕ)) → AreHung d ns found → (n : ℕ) → is_in ns n ≡ true → parent_at found n ≡ parent d n
found_parent d ns found hung n among = hung.parents n ∙ ap (λ b. cond b (parent d n) None) among

module _ (d : Document) (ns placed : List ℕ) (are : ArePlaced d ns placed) (x : ℕ) (there : has d x ≡ true) (among : is_in ns x ≡ true) (ready : (p : ℕ) → IsChild d p x → is_in placed p ≡ true) where
  -- at a place of the nodes with one more behind them is what was there, or that one
  module _ (off : is_in placed x ≡ false) where
    take_before : (l : List ℕ) (i : ℕ) → i ≤ length l → take i (l ++ x ∷ []) ≡ take i l
    take_before l zero le = refl
    take_before [] (suc i) le = absurd (omega arith)
    take_before (y ∷ ys) (suc i) le = ap (λ r. y ∷ r) (take_before ys i (omega arith))

    get_before : (l : List ℕ) (i n : ℕ) → i < length l → get_or (l ++ x ∷ []) i n ≡ get_or l i n
    get_before [] i n low = absurd (omega arith)
    get_before (y ∷ ys) zero n low = refl
    get_before (y ∷ ys) (suc i) n low = get_before ys i n (omega arith)

    get_last : (l : List ℕ) (n : ℕ) → get_or (l ++ x ∷ []) (length l) n ≡ x
    get_last [] n = refl
    get_last (y ∷ ys) n = get_last ys n

    length_more : (l : List ℕ) → length (l ++ x ∷ []) ≡ length l + 1
    length_more [] = refl
    length_more (y ∷ ys) = let rest = length_more ys in omega arith

    take_whole : (l : List ℕ) → take (length l) l ≡ l
    take_whole [] = refl
    take_whole (y ∷ ys) = ap (λ r. y ∷ r) (take_whole ys)

    where_is : (i : ℕ) → i < length (placed ++ x ∷ []) → (i < length placed) ⊎ (i ≡ length placed)
    where_is i low = let more = length_more placed in elim (eq-or-lt_of_le {n = i} {m = length placed} (omega arith)) [ inl end ↦ inr end | inr before ↦ inl before ]

    order_more : IsFromAbove d (placed ++ x ∷ [])
    order_more = record {
      known = λ n on. (elim (pushed n on) [ inl was ↦ are.order.known n was | inr same ↦ subst (λ k. has d k ≡ true) (sym same) there ]);
      once = λ i n low is. (elim (where_is i low) [
        | inl before ↦ ap (λ l. is_in l n) (take_before placed i (omega arith)) ∙ are.order.once i n before (is ∙ get_before placed i n before)
        | inr end ↦
            (let same : n ≡ x = is ∙ ap (λ k. get_or (placed ++ x ∷ []) k n) end ∙ get_last placed n in
            ap (λ l. is_in l n) (take_before placed i (omega arith)) ∙ ap (λ k. is_in (take k placed) n) end ∙ ap (λ l. is_in l n) (take_whole placed) ∙ ap (is_in placed) same ∙ off)
      ]);
      behind = λ i p n low is child. (elim (where_is i low) [
        | inl before ↦ ap (λ l. is_in l p) (take_before placed i (omega arith)) ∙ are.order.behind i p n before (is ∙ get_before placed i n before) child
        | inr end ↦
            (let same : n ≡ x = is ∙ ap (λ k. get_or (placed ++ x ∷ []) k n) end ∙ get_last placed n in
            ap (λ l. is_in l p) (take_before placed i (omega arith)) ∙ ap (λ k. is_in (take k placed) p) end ∙ ap (λ l. is_in l p) (take_whole placed) ∙ ready p (subst (IsChild d p) same child))
      ]);
    }
      where
        pushed : (n : ℕ) → is_in (placed ++ x ∷ []) n ≡ true → (is_in placed n ≡ true) ⊎ (n ≡ x)
        pushed n on = which (is_in placed n) refl
          where
            which : (b : Bool) → is_in placed n ≡ b → (is_in placed n ≡ true) ⊎ (n ≡ x)
            which true was = inl was
            which false not_there = inr (eqb-true n x (ap (λ b. b || nat_eq n x) (sym not_there) ∙ sym (is_in_push placed x n) ∙ on))

    only_more : (n : ℕ) → is_in (placed ++ x ∷ []) n ≡ true → is_in ns n ≡ true
    only_more n on = which (is_in placed n) refl
      where
        which : (b : Bool) → is_in placed n ≡ b → is_in ns n ≡ true
        which true was = are.only n was
        which false not_there = ap (is_in ns) (eqb-true n x (ap (λ b. b || nat_eq n x) (sym not_there) ∙ sym (is_in_push placed x n) ∙ on)) ∙ among

  -- nodes in order with one more, whose parent is among them
  pub placed_more : (after : List ℕ) → after ≡ cond (is_in placed x) placed (placed ++ x ∷ []) → ArePlaced d ns after
  placed_more after is = which (is_in placed x) refl
    where
      which : (b : Bool) → is_in placed x ≡ b → ArePlaced d ns after
      which true on = subst (ArePlaced d ns) (sym (is ∙ ap (λ b. cond b placed (placed ++ x ∷ [])) on)) are
      which false off = subst (ArePlaced d ns) (sym (is ∙ ap (λ b. cond b placed (placed ++ x ∷ [])) off)) (record { order = order_more off; only = only_more off })

-- it is among them, and so are all that were
module _ (placed after : List ℕ) (x : ℕ) (is : after ≡ cond (is_in placed x) placed (placed ++ x ∷ [])) where
  pub added_in : is_in after x ≡ true
  added_in = ap (λ l. is_in l x) is ∙ which (is_in placed x) refl
    where
      or_true : (b : Bool) → (b || true) ≡ true
      or_true true = refl
      or_true false = refl

      which : (b : Bool) → is_in placed x ≡ b → is_in (cond b placed (placed ++ x ∷ [])) x ≡ true
      which true on = on
      which false off = is_in_push placed x x ∙ ap (λ b. is_in placed x || b) (same_is_in x) ∙ or_true (is_in placed x)

  pub kept_all : (n : ℕ) → is_in placed n ≡ true → is_in after n ≡ true
  kept_all n on = ap (λ l. is_in l n) is ∙ which (is_in placed x)
    where
      which : (b : Bool) → is_in (cond b placed (placed ++ x ∷ [])) n ≡ true
      which true = on
      which false = is_in_push placed x n ∙ ap (λ b. b || nat_eq n x) on

-- Nodes that stand each once, and are all among some, are no more than these.
module _ (y : ℕ) where
  -- all but one
  abbrev others : List ℕ → List ℕ
  others l = filter (λ z. not (nat_eq z y)) l

  others_are : (l : List ℕ) (n : ℕ) → nat_eq n y ≡ false → is_in (others l) n ≡ is_in l n
  others_are [] n apart = refl
  others_are (z ∷ zs) n apart = elim (eqb_tells z y) [
    | inl (on, same) ↦ ap (λ b. is_in (cond (not b) (z ∷ others zs) (others zs)) n) on ∙ others_are zs n apart ∙ sym (ap (λ b. b || is_in zs n) (ap (nat_eq n) same ∙ apart))
    | inr (off, _) ↦ ap (λ b. is_in (cond (not b) (z ∷ others zs) (others zs)) n) off ∙ ap (λ b. nat_eq n z || b) (others_are zs n apart)
  ]

  others_most : (l : List ℕ) → length (others l) ≤ length l
  others_most [] = omega arith
  others_most (z ∷ zs) = go (nat_eq z y) (others_most zs)
    where
      go : (b : Bool) → length (others zs) ≤ length zs → length (cond (not b) (z ∷ others zs) (others zs)) ≤ suc (length zs)
      go true rest = omega arith
      go false rest = omega arith

  others_less : (l : List ℕ) → is_in l y ≡ true → length (others l) < length l
  others_less [] on = absurd (false≢true on)
  others_less (z ∷ zs) on = elim (eqb_tells z y) [
    | inl (same, _) ↦ subst (λ b. length (cond (not b) (z ∷ others zs) (others zs)) < suc (length zs)) (sym same) (let rest = others_most zs in omega arith)
    | inr (off, apart) ↦
        subst (λ b. length (cond (not b) (z ∷ others zs) (others zs)) < suc (length zs)) (sym off)
        (let rest = others_less zs (elim (eqb_tells y z) [ inl (_, is) ↦ absurd (apart (sym is)) | inr (other, _) ↦ sym (ap (λ b. b || is_in zs y) other) ∙ on ]) in omega arith)
  ]

abbrev StandOnce : List ℕ → Type 0
StandOnce l = (i n : ℕ) → i < length l → n ≡ get_or l i n → is_in (take i l) n ≡ false

fewer : (l ns : List ℕ) → StandOnce l → ((n : ℕ) → is_in l n ≡ true → is_in ns n ≡ true) → length l ≤ length ns
fewer [] ns once only = omega arith
fewer (y ∷ ys) ns once only =
    let first : is_in ns y ≡ true = only y (ap (λ b. b || is_in ys y) (same_is_in y)) in
    let less = others_less y ns first in
    let rest = fewer ys (others y ns) below (λ n on. others_are y ns n (apart n on) ∙ only n (within n on)) in
    omega arith
  where
    within : (n : ℕ) → is_in ys n ≡ true → (nat_eq n y || is_in ys n) ≡ true
    within n on = ap (λ b. nat_eq n y || b) on ∙ or_true (nat_eq n y)
      where
        or_true : (b : Bool) → (b || true) ≡ true
        or_true true = refl
        or_true false = refl

    both : (i n : ℕ) → i < length ys → n ≡ get_or ys i n → (nat_eq n y ≡ false) × (is_in (take i ys) n ≡ false)
    both i n low is = or_parts (nat_eq n y) (is_in (take i ys) n) (once (suc i) n (omega arith) is)

    below : StandOnce ys
    below i n low is = (both i n low is).1

    apart : (n : ℕ) → is_in ys n ≡ true → nat_eq n y ≡ false
    apart n on = let at = place_of ys n on in (both at.0 n at.1 at.2).0

pub few_placed : (d : Document) (ns placed : List ℕ) → ArePlaced d ns placed → length placed ≤ length ns
few_placed d ns placed are = fewer placed ns are.order.once are.only

-- What is told of a node that is among the nodes of a document.
pub record IsTold (s : SomeNodes) (n : ℕ) (o : Option ℕ) : Type 0 where
  pub value : o ≡ parent s.document n
  pub above : IfSome o (HangsOn s.document s.nodes n)
  pub node : IsOneOf s.document n

pub told : (s : SomeNodes) (found : List (ℕ × ℕ)) → AreHung s.document s.nodes found → (n : ℕ) (o : Option ℕ) → is_in s.nodes n ≡ true → o ≡ parent_at found n → IsTold s n o
told s found hung n o among is =
    let same = is ∙ found_parent s.document s.nodes found hung n among in
    record {
      value = same;
      above = subst (λ q. IfSome q (HangsOn s.document s.nodes n)) (sym same) (hangs_on s.document s.nodes found hung n among);
      node = record { tree = hung.tree; known = hung.known n among };
    }

-- what a call that may fail gives passes a test, where all does that it can give
pub if_given : {V E : Type 0} (r : Result V E) (P Q : V → Type 0) → IfOk r P → ((v : V) → P v → Q v) → IfOk r Q
if_given (Ok v) P Q gives each = each v gives
if_given (Err e) P Q gives each = tt

-- a node that hangs on one that is placed is ready, and so is one that hangs on none
pub ready_below : (d : Document) → IsTree d → (placed : List ℕ) (n q : ℕ) → parent d n ≡ Some q → is_in placed q ≡ true → (p : ℕ) → IsChild d p n → is_in placed p ≡ true
ready_below d t placed n q up on p child = subst (λ k. is_in placed k ≡ true) (some_is q p (sym up ∙ parent-child d t p n child)) on
  where
    some_is : (a b : ℕ) → Some a ≡ Some b → a ≡ b
    some_is a b e = cc

pub ready_top : (d : Document) → IsTree d → (placed : List ℕ) (n : ℕ) → None ≡ parent d n → (p : ℕ) → IsChild d p n → is_in placed p ≡ true
ready_top d t placed n none p child = absurd (no_some p (none ∙ parent-child d t p n child))
  where
    no_some : (a : ℕ) → None ≡ Some a → ⊥
    no_some a e = cc
