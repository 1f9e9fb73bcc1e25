-- Candidates have each id at which the trees differ, and with each object the one that it hangs on.
use Rattle.std.proofs.Common.{◌≡◌, ◌⊎◌, inl, inr, ℕ, zero, suc, ◌-◌, ◌≤◌, List, [], ◌∷◌, ◌++◌, Bool, true, false, cond, not, ◌&&◌, Option, Some, None, Contains, refl, sym, ap, subst, ◌∙◌, arith}
use Rattle.std.specs.Prelude.{nat_eq, filter}
use Rattle.std.specs.Option.{option_eq, option_and_then}
use Rattle.std.specs.List.{flat_map}
use Rattle.std.specs.Cmp.{nat_eq_equiv}
use Rattle.std.proofs.lemmas.Bool.{false≢true, eqb-true}
use Rattle.std.proofs.lemmas.Bool.Decides.{Decides-eqb}
use Rattle.std.proofs.lemmas.Map.Views.{Contains-from_any, list_any-from_Contains}
use Rattle.ax_base.specs.Document.{Document, has, spot, children, IsChild}
use Rattle.ax_base.specs.Context.{is_out}
use Rattle.ax_base.specs.Roles.{ignored}
use Rattle.ax_base.specs.Trees.{IsTree}
use Rattle.ax_base.specs.Kids.{kids, taken, objects}
use Rattle.ax_base.proofs.Joins.{Contains-cases, in_flat_map, Contains-flat_map}
use Rattle.ax_base.proofs.Membership.{Contains-head, Contains-tail}
use Rattle.ax_base.proofs.KidsLaws.{kids-children}
use Rattle.ax_base.proofs.Objects.{kids_known}
use Rattle.ax_dom.specs.Among.{is_in, IsClosedUp}
use Rattle.ax_notice.specs.Candidates.{AreCandidates}
use Rattle.ax_record.specs.declared.record.Record.{Record}
use Rattle.ax_record.specs.Tree.{Tree, record_at, kids_of, parent_of, IsKid}
use Rattle.ax_record.specs.Records.{tree, record_of, object_parent, is_object}
use Rattle.ax_record.proofs.Equalities.{option_equality}
use Rattle.ax_record.proofs.TreeOf.{kids_are, is_one, object_is, kid_is, record_is, object_parent_is, tree_hangs}
use Rattle.tree_diff.specs.Alike.{AreAlikeBut}
use Rattle.tree_diff.specs.Lost.{lost}
use Rattle.tree_diff.specs.Candidates.{is_moved, moved_kids, candidates, IsSortedFrom, HaveAllDiffering}
use Rattle.tree_diff.proofs.Differs.{found_or_same, same_held, never}
use Rattle.tree_diff.proofs.Gone.{gone_found, lost_gone}

pub in_left : (xs ys : List ℕ) (n : ℕ) → Contains xs n → Contains (xs ++ ys) n
in_left [] ys n inside = absurd (omega arith)
in_left (x ∷ xs) ys n inside = elim (Contains-cases n x xs inside) [
  | inl is ↦ subst (Contains (x ∷ (xs ++ ys))) is (Contains-head x (xs ++ ys))
  | inr more ↦ Contains-tail x n (xs ++ ys) (in_left xs ys n more)
]

pub in_right : (xs ys : List ℕ) (n : ℕ) → Contains ys n → Contains (xs ++ ys) n
in_right [] ys n inside = inside
in_right (x ∷ xs) ys n inside = Contains-tail x n (xs ++ ys) (in_right xs ys n inside)

pub either_side : (xs ys : List ℕ) (n : ℕ) → Contains (xs ++ ys) n → Contains xs n ⊎ Contains ys n
either_side [] ys n inside = inr inside
either_side (x ∷ xs) ys n inside = elim (Contains-cases n x (xs ++ ys) inside) [
  | inl is ↦ inl (subst (Contains (x ∷ xs)) is (Contains-head x xs))
  | inr more ↦ (elim (either_side xs ys n more) [
    | inl before ↦ inl (Contains-tail x n xs before)
    | inr after ↦ inr after
  ])
]

none_some : (p : ℕ) → None ≡ Some p → ⊥
none_some p e = cc

same_option : (x y : Option ℕ) → option_eq nat_eq x y ≡ true → x ≡ y
same_option x y on = (option_equality nat_eq Decides-eqb x y).0 on

-- an element that passes is kept
pub kept_by : (test : ℕ → Bool) (xs : List ℕ) (n : ℕ) → Contains xs n → test n ≡ true → Contains (filter test xs) n
kept_by test [] n inside on = absurd (omega arith)
kept_by test (x ∷ xs) n inside on = go (test x) refl (Contains-cases n x xs inside) (λ more. kept_by test xs n more on)
  where
    go : (b : Bool) → test x ≡ b → (x ≡ n) ⊎ Contains xs n → (Contains xs n → Contains (filter test xs) n) → Contains (cond b (x ∷ filter test xs) (filter test xs)) n
    go true is (inl same) rest = subst (Contains (x ∷ filter test xs)) same (Contains-head x (filter test xs))
    go true is (inr more) rest = Contains-tail x n (filter test xs) (rest more)
    go false is (inl same) rest = absurd (false≢true (sym is ∙ ap test same ∙ on))
    go false is (inr more) rest = rest more

-- what is kept is an element
kept_from : (test : ℕ → Bool) (xs : List ℕ) (n : ℕ) → Contains (filter test xs) n → Contains xs n
kept_from test [] n inside = inside
kept_from test (x ∷ xs) n inside = go (test x) inside (λ more. kept_from test xs n more)
  where
    go : (b : Bool) → Contains (cond b (x ∷ filter test xs) (filter test xs)) n → (Contains (filter test xs) n → Contains xs n) → Contains (x ∷ xs) n
    go true here rest = elim (Contains-cases n x (filter test xs) here) [
      | inl same ↦ subst (Contains (x ∷ xs)) same (Contains-head x xs)
      | inr more ↦ Contains-tail x n xs (rest more)
    ]
    go false here rest = Contains-tail x n xs (rest here)

module _ (d : Document) (t : IsTree d) (ns : List ℕ) (closed : IsClosedUp d ns) where
  -- what a child gives is itself, or among its kids
  given : (a b : Bool) (c k : ℕ) (ks : List ℕ) → Contains (cond a [] (cond b ks (c ∷ []))) k → (c ≡ k) ⊎ Contains ks k
  given true b c k ks inside = absurd (omega arith)
  given false true c k ks inside = inr inside
  given false false c k ks inside = elim (Contains-cases k c [] inside) [ inl is ↦ inl is | inr none ↦ absurd (omega arith) ]

  by_child : (p k : ℕ) → is_in ns k ≡ true → ((c : ℕ) → IsChild d p c → Contains (kids d c) k → is_in ns c ≡ true) → (c : ℕ) → IsChild d p c → Contains (taken d c) k → is_in ns p ≡ true
  by_child p k on deeper c child inside = elim (given (is_out d c) (ignored (spot d c)) c k (kids d c) inside) [
    | inl is ↦ closed p c child (ap (is_in ns) is ∙ on)
    | inr below ↦ closed p c child (deeper c child below)
  ]

  -- a node among them has what it hangs on as an object among them
  pub kids_closed : (l p k : ℕ) → 64 - t.level p ≤ l → Contains (kids d p) k → is_in ns k ≡ true → is_in ns p ≡ true
  kids_closed zero p k low kid on =
      let r = in_flat_map (taken d) (children d p) k (subst (λ l. Contains l k) (kids-children d t p) kid) in
      by_child p k on (λ c child below. let deep = t.deeper p c child in let shallow = t.shallow c in absurd (omega arith)) r.0 r.1 r.2
  kids_closed (suc l) p k low kid on =
      let r = in_flat_map (taken d) (children d p) k (subst (λ l. Contains l k) (kids-children d t p) kid) in
      by_child p k on (λ c child below. let deep = t.deeper p c child in let shallow = t.shallow c in kids_closed l c k (omega arith) below on) r.0 r.1 r.2

module _ (old now : Document) (t : IsTree old) (u : IsTree now) (ns : List ℕ) (alike : AreAlikeBut old now ns) (closed : IsClosedUp now ns) where
  abbrev all : List ℕ
  all = candidates (tree old) now ns

  among : (n : ℕ) → is_in ns n ≡ true → Contains ns n
  among n on = Contains-from_any eqb-true n ns on

  is_among : (n : ℕ) → Contains ns n → is_in ns n ≡ true
  is_among n inside = list_any-from_Contains nat_eq_equiv n ns inside

  hung_now : (n k : ℕ) → Contains (objects now) n → Contains (kids now n) k → IsKid (tree now) n k
  hung_now n k one kid = subst (λ l. Contains l k) (sym (kids_are now u n ∙ ap (λ b. cond b (kids now n) []) (is_one now u n one))) kid

  parent_was : (n : ℕ) → parent_of (tree old) n ≡ cond (is_object old n) (object_parent old n) None
  parent_was n = ap (λ o. option_and_then (λ (r : Record). r.parent) o) (record_is old t n) ∙ go (is_object old n)
    where
      go : (b : Bool) → option_and_then (λ (r : Record). r.parent) (cond b (Some (record_of old n)) None) ≡ cond b (object_parent old n) None
      go true = refl
      go false = refl

  -- what hung on an object before
  held_before : (n p : ℕ) → option_eq nat_eq (parent_of (tree old) n) (Some p) ≡ true → object_parent old n ≡ Some p
  held_before n p on = go (is_object old n) (parent_was n) (same_option (parent_of (tree old) n) (Some p) on)
    where
      go : (b : Bool) → parent_of (tree old) n ≡ cond b (object_parent old n) None → parent_of (tree old) n ≡ Some p → object_parent old n ≡ Some p
      go true is same = sym is ∙ same
      go false is same = absurd (none_some p (sym is ∙ same))

  -- each id is a candidate, or has the record that it had
  pub covered : (n : ℕ) → Contains all n ⊎ (record_at (tree old) n ≡ record_at (tree now) n)
  covered n = by_node (has now n) refl
    where
      gone : has now n ≡ false → (b : Bool) → is_object old n ≡ b → Contains all n ⊎ (record_at (tree old) n ≡ record_at (tree now) n)
      gone lost_n true object =
          let f = gone_found old now t u ns alike n (object_is old t n object) lost_n in
          inl (in_right ns (flat_map (moved_kids (tree old) now ns) ns ++ flat_map (lost (tree old) now) ns) n
          (in_right (flat_map (moved_kids (tree old) now ns) ns) (flat_map (lost (tree old) now) ns) n (Contains-flat_map (lost (tree old) now) ns f.0 n (among f.0 f.1) f.2)))
      gone lost_n false none = inr (never old now t u ns alike n lost_n none)

      -- a kid that did not move hangs on what it hung on
      by_kid : (p : ℕ) → Contains (objects now) p → Contains (kids now p) n → is_in ns p ≡ true → (a b : Bool) → is_in ns n ≡ a → option_eq nat_eq (parent_of (tree old) n) (Some p) ≡ b → Contains all n ⊎ (record_at (tree old) n ≡ record_at (tree now) n)
      by_kid p up kid on true b node was = inl (in_left ns (flat_map (moved_kids (tree old) now ns) ns ++ flat_map (lost (tree old) now) ns) n (among n node))
      by_kid p up kid on false true off was = inr (same_held old now t u ns alike n (kids_known now u p n kid, off) (held_before n p was ∙ sym (object_parent_is now u p n up kid)))
      by_kid p up kid on false false off was =
          inl (in_right ns (flat_map (moved_kids (tree old) now ns) ns ++ flat_map (lost (tree old) now) ns) n
          (in_left (flat_map (moved_kids (tree old) now ns) ns) (flat_map (lost (tree old) now) ns) n
          (Contains-flat_map (moved_kids (tree old) now ns) ns p n (among p on) (kept_by (is_moved (tree old) ns p) (kids_of (tree now) p) n (hung_now p n up kid) (λ i. not (was i) && not (off i))))))

      by_node : (b : Bool) → has now n ≡ b → Contains all n ⊎ (record_at (tree old) n ≡ record_at (tree now) n)
      by_node false lost_n = gone lost_n (is_object old n) refl
      by_node true there = elim (found_or_same old now t u ns alike n there) [
        | inl on ↦ inl (in_left ns (flat_map (moved_kids (tree old) now ns) ns ++ flat_map (lost (tree old) now) ns) n (among n on))
        | inr (inl (p, up, kid, on)) ↦ by_kid p up kid on (is_in ns n) (option_eq nat_eq (parent_of (tree old) n) (Some p)) refl refl
        | inr (inr same) ↦ inr same
      ]

  -- what a candidate hangs on is a candidate
  pub up : (p k : ℕ) → IsKid (tree now) p k → Contains all k → Contains all p
  up p k kid inside = in_left ns (flat_map (moved_kids (tree old) now ns) ns ++ flat_map (lost (tree old) now) ns) p (elim (either_side ns _ k inside) [
    | inl node ↦ among p (kids_closed now u ns closed (64 - u.level p) p k (omega arith) (kid_is now u p k kid).1 (is_among k node))
    | inr more ↦ (elim (either_side (flat_map (moved_kids (tree old) now ns) ns) _ k more) [
      | inl below ↦
          (let r = in_flat_map (moved_kids (tree old) now ns) ns k below in
          subst (Contains ns) ((tree_hangs now u).one_list r.0 p k (kept_from (is_moved (tree old) ns r.0) (kids_of (tree now) r.0) k r.2) kid) r.1)
      | inr none ↦
          (let r = in_flat_map (lost (tree old) now) ns k none in
          absurd (false≢true (sym (lost_gone (tree old) now (tree_hangs old t) r.0 k r.2) ∙ kids_known now u p k (kid_is now u p k kid).1)))
    ])
  ])

-- sorted candidates have each id at which the trees differ
pub candidates_differ : (before : Tree) (now : Document) (u : IsTree now) (ns ids : List ℕ) → IsClosedUp now ns → IsSortedFrom (candidates before now ns) ids
    → (old : Document) → IsTree old → before ≡ tree old → AreAlikeBut old now ns → HaveAllDiffering before (tree now) ids
candidates_differ before now u ns ids closed sorted old t is alike = record {
  rising = sorted.rising;
  all = λ n. elim (covered old now t u ns alike closed n) [
    | inl inside ↦ inl (sorted.all n (subst (λ b. Contains (candidates b now ns) n) (sym is) inside))
    | inr same ↦ inr (ap (λ b. record_at b n) is ∙ same)
  ];
}

-- and are those of which something may be told
pub candidates_told : (before : Tree) (now : Document) (u : IsTree now) (ns ids : List ℕ) → IsClosedUp now ns → IsSortedFrom (candidates before now ns) ids
    → (old : Document) → IsTree old → before ≡ tree old → AreAlikeBut old now ns → AreCandidates before (tree now) ids
candidates_told before now u ns ids closed sorted old t is alike = record {
  rising = sorted.rising;
  differ = λ n there. (candidates_differ before now u ns ids closed sorted old t is alike).all n;
  up = λ p k kid inside. sorted.all p (subst (λ b. Contains (candidates b now ns) p) (sym is) (up old now t u ns alike closed p k kid (subst (λ b. Contains (candidates b now ns) k) is (sorted.only k inside))));
}

-- what is gathered, sorted, are the candidates
pub gathered_from : (before : Tree) (now : Document) (ns kids lost_more more sorted : List ℕ) → kids ≡ flat_map (moved_kids before now ns) ns → lost_more ≡ kids ++ flat_map (lost before now) ns → more ≡ lost_more ++ ns → IsSortedFrom more sorted
    → IsSortedFrom (candidates before now ns) sorted
gathered_from before now ns kids lost_more more sorted is then last from = record {
  rising = from.rising;
  all = λ n inside. from.all n (subst (λ l. Contains l n) (sym whole) (elim (either_side ns _ n inside) [ inl node ↦ in_right (below ++ gone) ns n node | inr other ↦ in_left (below ++ gone) ns n other ]));
  only = λ n inside. elim (either_side (below ++ gone) ns n (subst (λ l. Contains l n) whole (from.only n inside))) [ inl other ↦ in_right ns (below ++ gone) n other | inr node ↦ in_left ns (below ++ gone) n node ];
}
  where
    below : List ℕ
    below = flat_map (moved_kids before now ns) ns

    gone : List ℕ
    gone = flat_map (lost before now) ns

    whole : more ≡ (below ++ gone) ++ ns
    whole = last ∙ ap (λ l. l ++ ns) (then ∙ ap (λ l. l ++ gone) is)
