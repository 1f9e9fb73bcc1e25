-- The records that are made anew are those of the tree.
use Rattle.std.proofs.Common.{◌≡◌, ◌⊎◌, inl, inr, ℕ, ◌+◌, ◌<◌, length, get_or, take, drop, append_assoc, List, [], ◌∷◌, ◌++◌, Bool, true, false, cond, not, ◌||◌, ◌&&◌, Option, Some, None, Contains, refl, sym, ap, subst, ◌∙◌, eqb, ◌==◌, arith}
use Rattle.std.specs.Prelude.{filter}
use Rattle.std.specs.Option.{option_map_or}
use Rattle.std.specs.List.{flat_map}
use Rattle.std.specs.Ordering.{nat_cmp}
use Rattle.std.specs.BTreeMap.{insert_entry}
use Rattle.std.specs.Cmp.{nat_eq_equiv}
use Rattle.std.proofs.lemmas.Bool.{eqb-true, false≢true}
use Rattle.std.proofs.lemmas.List.{drop_more, take_more, flat_map_more}
use Rattle.std.proofs.lemmas.Map.Views.{Contains-from_any, list_any-from_Contains}
use Rattle.ax_base.specs.declared.role.Role.{Role}
use Rattle.ax_base.specs.declared.states.Live.{Live}
use Rattle.ax_base.specs.Characters.{Chars}
use Rattle.ax_base.specs.AccessibleNames.{name_of, description_of}
use Rattle.ax_base.specs.Document.{Document, has, spot, body, root}
use Rattle.ax_base.specs.Rects.{HasRectsWithin}
use Rattle.ax_base.specs.Context.{is_out, live_at}
use Rattle.ax_base.specs.Roles.{role, role_of, ignored}
use Rattle.ax_base.specs.States.{value, states, level}
use Rattle.ax_base.specs.Trees.{IsTree}
use Rattle.ax_base.specs.Kids.{kids, objects}
use Rattle.ax_base.proofs.Lookups.{finds_is, lookup-insert_entry}
use Rattle.ax_base.proofs.Joins.{Contains-cases, Contains-flat_map, in_flat_map}
use Rattle.ax_base.proofs.Membership.{Contains-head}
use Rattle.ax_base.proofs.Objects.{objects_known, objects_shown, kids_are_objects}
use Rattle.ax_dom.specs.Among.{is_in}
use Rattle.ax_dom.specs.declared.cell.Cell.{Cell}
use Rattle.ax_dom.specs.NodeMaps.{cell_of, cell_at}
use Rattle.ax_roles.specs.Inclusion.{inclusion_by, is_object_by, inclusion}
use Rattle.ax_fresh.specs.Contents.{record_by, same_record}
use Rattle.ax_fresh.specs.Gathering.{with_records}
use Rattle.ax_fresh.proofs.Put.{with_records-append}
use Rattle.ax_fresh.proofs.Sameness.{record_is as same_record_is}
use Rattle.ax_record.specs.declared.record.Record.{Record}
use Rattle.ax_record.specs.Tree.{Tree, entry_at, record_at, kids_of, IsKid}
use Rattle.ax_record.specs.ObjectTrees.{IsObjectTree}
use Rattle.ax_record.specs.Records.{tree, record_of, object_parent, is_object, frame_of, chars_of, runs_of}
use Rattle.ax_record.proofs.TreeOf.{object_is, is_one, record_is, kids_are, kid_is, tree_hangs}
use Rattle.tree_diff.specs.Alike.{IsAlike}
use Rattle.tree_diff.specs.Lost.{lost}
use Rattle.tree_diff.specs.Candidates.{hung_on, is_moved, moved_kids, candidates, IsSortedFrom}
use Rattle.tree_diff.proofs.Covering.{in_left, in_right, either_side}
use Rattle.tree_diff.proofs.Gone.{lost_gone}
use Rattle.tree_diff.proofs.Losing.{none_gone}
use Rattle.tree_diff.proofs.Moving.{none_moved}
use Rattle.tree_diff.proofs.Visible.{object_from, objects_visible}
use Rattle.dirty_set.proofs.Firsts.{kept_cases}
use Rattle.live_tree.specs.Remaking.{is_same, fresh_at, same_at, staying, remade, IsOrderOf, AreHungOn, AreNotAmong}

pub none_some : {X : Type 0} (x : X) → None ≡ Some x → ⊥
none_some x e = cc

-- a node that is not found is not there
pub no_cell : (d : Document) (n : ℕ) → None ≡ cell_at d n → has d n ≡ false
no_cell d n is = go (has d n) refl is
  where
    go : (b : Bool) → has d n ≡ b → None ≡ cond b (Some (cell_of d n)) None → b ≡ false
    go true there e = absurd (none_some (cell_of d n) e)
    go false gone e = refl

-- one that is found is there, with its place
pub a_cell : (d : Document) (n : ℕ) (c : Cell) → Some c ≡ cell_at d n → (has d n ≡ true) × (c ≡ cell_of d n)
a_cell d n c is = go (has d n) refl is
  where
    go : (b : Bool) → has d n ≡ b → Some c ≡ cond b (Some (cell_of d n)) None → (b ≡ true) × (c ≡ cell_of d n)
    go true there e = (refl, cc)
    go false gone e = absurd (none_some c (sym e))

-- its rectangles are within bounds
pub rects_within : (d : Document) → IsTree d → (n : ℕ) (c : Cell) → Some c ≡ cell_at d n → HasRectsWithin c.body
rects_within d t n c is = subst (λ (x : Cell). HasRectsWithin x.body) (sym (a_cell d n c is).1) (t.within n)

-- the record that is made of it, with what is known of the node, is that of the node
pub made_of : (d : Document) (n : ℕ) (c : Cell) (of : Role) (at : Live) (above : Option ℕ) (below : List ℕ) (name description : Chars) → c ≡ cell_of d n → of ≡ role_of (n == root) c.body → at ≡ live_at d n
    → above ≡ object_parent d n → below ≡ kids d n → name ≡ name_of d n → description ≡ description_of d n → record_by c of at above below name description ≡ record_of d n
made_of d n c of at above below name description is role_is live_is above_is below_is name_is description_is =
    let whole : of ≡ role_of (n == root) (body d n) = role_is ∙ ap (λ (x : Cell). role_of (n == root) x.body) is in
    λ i. record_by (is i) (whole i) (live_is i) (above_is i) (below_is i) (name_is i) (description_is i)

-- a record that passes the test is the one that is found
same_found : (o : Option Record) (r : Record) → option_map_or (λ (was : Record). same_record was r) o false ≡ true → o ≡ Some r
same_found None r e = absurd (false≢true e)
same_found (Some was) r e = ap Some (same_record_is was r e)

-- a document's tree hangs together
pub was_hangs : (kept : Tree) (old : Document) → IsTree old → kept ≡ tree old → IsObjectTree kept
was_hangs kept old u is = subst IsObjectTree (sym is) (tree_hangs old u)

-- those of some that moved are not among the nodes
pub some_stay : (before : Tree) (ns : List ℕ) (n : ℕ) (ks all : List ℕ) → ks ≡ filter (is_moved before ns n) all → AreNotAmong ns ks
some_stay before ns n ks all some k inside = off (hung_on before n k) (is_in ns k) refl (kept_cases (is_moved before ns n) all k (subst (λ l. Contains l k) some inside)).1
  where
    off : (a b : Bool) → is_in ns k ≡ b → (not a && not b) ≡ true → is_in ns k ≡ false
    off true b is e = absurd (false≢true e)
    off false true is e = absurd (false≢true e)
    off false false is e = is

-- one id more
pub one_more : (old so_far after ns : List ℕ) (i x : ℕ) → i < length ns → x ≡ get_or ns i x → so_far ≡ old ++ take i ns → after ≡ so_far ++ x ∷ [] → after ≡ old ++ take (i + 1) ns
one_more old so_far after ns i x low is before step =
    step ∙ ap (λ l. l ++ x ∷ []) before ∙ append_assoc old (take i ns) (x ∷ []) ∙ ap (λ l. old ++ l) (ap (λ y. take i ns ++ y ∷ []) is ∙ sym (take_more ns i x low))

-- what is made of one id more
pub made_more : (f : ℕ → List ℕ) (old so_far after ns : List ℕ) (i x : ℕ) → i < length ns → x ≡ get_or ns i x → so_far ≡ old ++ flat_map f (take i ns) → after ≡ so_far ++ f x → after ≡ old ++ flat_map f (take (i + 1) ns)
made_more f old so_far after ns i x low is before step =
    step ∙ ap (λ l. l ++ f x) before ∙ flat_map_more f old (take i ns) x ∙ ap (λ l. old ++ flat_map f l) (ap (λ y. take i ns ++ y ∷ []) is ∙ sym (take_more ns i x low))

-- what stands at a place of a list is in it
pub in_at : (ns : List ℕ) (i x : ℕ) → i < length ns → x ≡ get_or ns i x → Contains ns x
in_at ns i x low is = (i, low, sym is)

-- a record that is put in at its own id
pub put_is : (d : Document) (es new : List (ℕ × Record)) (object : Record) (m n : ℕ) → new ≡ insert_entry nat_cmp es object.id object → object ≡ record_of d m → m ≡ n → new ≡ insert_entry nat_cmp es n (record_of d n)
put_is d es new object m n is object_is same = is ∙ (λ i. insert_entry nat_cmp es (object_is i).id (object_is i)) ∙ (λ i. insert_entry nat_cmp es (same i) (record_of d (same i)))

-- records that are put in twice, one after another
pub both_made : (d : Document) (first whole : List (ℕ × Record)) (xs ys : List ℕ) → first ≡ with_records d [] xs → whole ≡ with_records d first ys → whole ≡ with_records d [] (xs ++ ys)
both_made d first whole xs ys one both = both ∙ ap (λ es. with_records d es ys) one ∙ sym (with_records-append d [] xs ys)

-- what gives nothing may be left out
given_by_some : (f : ℕ → List ℕ) (keep : ℕ → Bool) (xs : List ℕ) → ((n : ℕ) → keep n ≡ false → f n ≡ []) → flat_map f (filter keep xs) ≡ flat_map f xs
given_by_some f keep [] none = refl
given_by_some f keep (x ∷ xs) none = go (keep x) refl (given_by_some f keep xs none)
  where
    go : (b : Bool) → keep x ≡ b → flat_map f (filter keep xs) ≡ flat_map f xs → flat_map f (cond b (x ∷ filter keep xs) (filter keep xs)) ≡ f x ++ flat_map f xs
    go true is rest = ap (λ l. f x ++ l) rest
    go false is rest = rest ∙ ap (λ l. l ++ flat_map f xs) (sym (none x is))

module _ (d : Document) (t : IsTree d) where
  no_object : (n : ℕ) → (Contains (objects d) n → ⊥) → is_object d n ≡ false
  no_object n none = go (is_object d n) refl
    where
      go : (b : Bool) → is_object d n ≡ b → b ≡ false
      go true on = absurd (none (object_is d t n on))
      go false off = refl

  pub gone_none : (n : ℕ) → has d n ≡ false → is_object d n ≡ false
  gone_none n gone = no_object n (λ object. false≢true (sym gone ∙ objects_known d t n object))

  out_none : (n : ℕ) → is_out d n ≡ true → is_object d n ≡ false
  out_none n out = no_object n (λ object. false≢true (sym (objects_visible d t n object) ∙ out))

  -- a node that is there and not out is an object, unless it is ignored
  shown_one : (n : ℕ) → has d n ≡ true → is_out d n ≡ false → is_object d n ≡ not (ignored (spot d n))
  shown_one n there visible = go (ignored (spot d n)) refl
    where
      go : (b : Bool) → ignored (spot d n) ≡ b → is_object d n ≡ not b
      go true is = no_object n (λ object. false≢true (sym (objects_shown d t n object) ∙ is))
      go false shown = is_one d t n (object_from d t n there visible shown)

  -- how it takes part tells whether it is one
  pub included_one : (n : ℕ) → has d n ≡ true → is_object d n ≡ is_object_by (inclusion d n)
  included_one n there = go (is_out d n) (ignored (spot d n)) refl refl
    where
      go : (a b : Bool) → is_out d n ≡ a → ignored (spot d n) ≡ b → is_object d n ≡ is_object_by (inclusion_by a b)
      go true b out is = out_none n out
      go false true visible is = shown_one n there visible ∙ ap not is
      go false false visible is = shown_one n there visible ∙ ap not is

  kid_of : (n k : ℕ) → Contains (objects d) n → Contains (kids d n) k → IsKid (tree d) n k
  kid_of n k one kid = subst (λ l. Contains l k) (sym (kids_are d t n ∙ ap (λ b. cond b (kids d n) []) (is_one d t n one))) kid

  -- the kids of an object in the tree, and of any other node none
  pub kids_here : (n : ℕ) → is_object d n ≡ true → kids_of (tree d) n ≡ kids d n
  kids_here n one = kids_are d t n ∙ ap (λ b. cond b (kids d n) []) one

  pub no_kids : (n : ℕ) → is_object d n ≡ false → kids_of (tree d) n ≡ []
  no_kids n none = kids_are d t n ∙ ap (λ b. cond b (kids d n) []) none

  -- those of the kids of an object that pass a test hang on it
  pub some_hung : (test : ℕ → Bool) (n : ℕ) (all ks : List ℕ) → Contains (objects d) n → all ≡ kids d n → ks ≡ filter test all → AreHungOn d n ks
  some_hung test n all ks object is some = (object, λ k inside. subst (λ l. Contains l k) is (kept_cases test all k (subst (λ l. Contains l k) some inside)).0)

  -- the records of what is made of one node more
  pub made_step : (f : ℕ → List ℕ) (whole es fresh : List (ℕ × Record)) (ns : List ℕ) (i x : ℕ) → i < length ns → x ≡ get_or ns i x → with_records d es (flat_map f (drop i ns)) ≡ whole
      → fresh ≡ with_records d es (f x) → with_records d fresh (flat_map f (drop (i + 1) ns)) ≡ whole
  made_step f whole es fresh ns i x low is rest step =
      (λ j. with_records d (step j) (flat_map f (drop (i + 1) ns)))
      ∙ sym (with_records-append d es (f x) (flat_map f (drop (i + 1) ns)))
      ∙ sym (ap (λ l. with_records d es (flat_map f l)) (drop_more ns i x low ∙ ap (λ y. y ∷ drop (i + 1) ns) (sym is)))
      ∙ rest

  -- the record of one object more
  pub each_step : (whole es fresh : List (ℕ × Record)) (ns : List ℕ) (i x : ℕ) → i < length ns → x ≡ get_or ns i x → with_records d es (drop i ns) ≡ whole
      → fresh ≡ insert_entry nat_cmp es x (record_of d x) → with_records d fresh (drop (i + 1) ns) ≡ whole
  each_step whole es fresh ns i x low is rest step =
      (λ j. with_records d (step j) (drop (i + 1) ns)) ∙ sym (ap (with_records d es) (drop_more ns i x low ∙ ap (λ y. y ∷ drop (i + 1) ns) (sym is))) ∙ rest

  -- what is found after some records were put in
  found_after : (q : ℕ) (es : List (ℕ × Record)) (ks : List ℕ) → entry_at (with_records d es ks) q ≡ cond (is_in ks q) (Some (record_of d q)) (entry_at es q)
  found_after q es [] = refl
  found_after q es (k ∷ ks) =
      found_after q (insert_entry nat_cmp es k (record_of d k)) ks
      ∙ ap (λ o. cond (is_in ks q) (Some (record_of d q)) o) (lookup-insert_entry q k (record_of d k) es ∙ ap (λ b. cond b (Some (record_of d k)) (entry_at es q)) (finds_is q k))
      ∙ go (eqb q k) (is_in ks q) refl
    where
      go : (a b : Bool) → eqb q k ≡ a → cond b (Some (record_of d q)) (cond a (Some (record_of d k)) (entry_at es q)) ≡ cond (a || b) (Some (record_of d q)) (entry_at es q)
      go true true e = refl
      go true false e = ap (λ j. Some (record_of d j)) (sym (eqb-true q k e))
      go false b e = refl

  module _ (before : Tree) (ns down : List ℕ) (ordered : IsOrderOf d ns down) where
    abbrev shown : List ℕ
    shown = flat_map (fresh_at before d) down

    abbrev stays : List ℕ
    stays = staying before d down

    abbrev below : List ℕ
    below = flat_map (moved_kids before d ns) ns

    abbrev gone : List ℕ
    gone = flat_map (lost before d) ns

    is_among : (n : ℕ) → Contains ns n → is_in ns n ≡ true
    is_among n inside = list_any-from_Contains nat_eq_equiv n ns inside

    -- what is made anew is an object
    remade_object : (n : ℕ) → Contains (remade before d ns down) n → Contains (objects d) n
    remade_object n inside = elim (either_side shown below n inside) [
      | inl first ↦ (let r = in_flat_map (fresh_at before d) down n first in by_node r.0 (is_object d r.0) (not (is_same before d r.0)) refl r.2)
      | inr more ↦
          (let r = in_flat_map (moved_kids before d ns) ns n more in
          let k = kid_is d t r.0 n (kept_cases (is_moved before ns r.0) (kids_of (tree d) r.0) n r.2).0 in
          kids_are_objects d t r.0 n k.0 k.1)
    ]
      where
        by_node : (m : ℕ) (b c : Bool) → is_object d m ≡ b → Contains (cond b (cond c (m ∷ []) []) []) n → Contains (objects d) n
        by_node m true true on first = elim (Contains-cases n m [] first) [ inl is ↦ subst (Contains (objects d)) is (object_is d t m on) | inr none ↦ absurd (omega arith) ]
        by_node m true false on none = absurd (omega arith)
        by_node m false c off none = absurd (omega arith)

    -- what stays has the record that the tree before had
    pub stays_same : (n : ℕ) → Contains stays n → record_at before n ≡ record_at (tree d) n
    stays_same n inside = let r = in_flat_map (same_at before d) down n inside in by_node r.0 (is_object d r.0) (is_same before d r.0) refl refl r.2
      where
        by_node : (m : ℕ) (b c : Bool) → is_object d m ≡ b → is_same before d m ≡ c → Contains (cond b (cond c (m ∷ []) []) []) n → record_at before n ≡ record_at (tree d) n
        by_node m true true on same first = elim (Contains-cases n m [] first) [
          | inl is ↦ subst (λ k. record_at before k ≡ record_at (tree d) k) is (same_found (record_at before m) (record_of d m) same ∙ sym (record_is d t m ∙ ap (λ b. cond b (Some (record_of d m)) None) on))
          | inr none ↦ absurd (omega arith)
        ]
        by_node m true false on same none = absurd (omega arith)
        by_node m false c off same none = absurd (omega arith)

    module _ (hangs : IsObjectTree before) (stay same turned : List ℕ) (still : stay ≡ staying before d down) (in_order : IsSortedFrom stay same) (left : turned ≡ filter (λ n. not (is_in same n)) ns) where
      left_out : (n : ℕ) → not (is_in same n) ≡ false → Contains stays n
      left_out n off = subst (λ l. Contains l n) still (in_order.only n (Contains-from_any eqb-true n same (go (is_in same n) off)))
        where
          go : (b : Bool) → not b ≡ false → b ≡ true
          go true e = refl
          go false e = sym e

      -- on an object whose record stays hangs what hung on it
      kids_stay : (n : ℕ) → Contains stays n → kids_of before n ≡ kids_of (tree d) n
      kids_stay n inside = ap (λ o. option_map_or (λ (r : Record). r.kids) o []) (stays_same n inside)

      none_moves : (n : ℕ) → Contains stays n → moved_kids before d ns n ≡ []
      none_moves n inside = none_moved before hangs ns n (kids_of (tree d) n) (λ k kid. subst (λ l. Contains l k) (sym (kids_stay n inside)) kid)

      none_goes : (n : ℕ) → Contains stays n → lost before d n ≡ []
      none_goes n inside = none_gone before d n (λ k kid.
          let r = kid_is d t n k (subst (λ l. Contains l k) (kids_stay n inside) kid) in
          objects_known d t k (kids_are_objects d t n k r.0 r.1))

      -- what moved hangs on one of the others
      pub moved_turned : flat_map (moved_kids before d ns) turned ≡ flat_map (moved_kids before d ns) ns
      moved_turned = ap (flat_map (moved_kids before d ns)) left ∙ given_by_some (moved_kids before d ns) (λ n. not (is_in same n)) ns (λ n off. none_moves n (left_out n off))

      -- what is gone hung below one of the others
      pub gone_turned : flat_map (lost before d) turned ≡ flat_map (lost before d) ns
      gone_turned = ap (flat_map (lost before d)) left ∙ given_by_some (lost before d) (λ n. not (is_in same n)) ns (λ n off. none_goes n (left_out n off))

    -- an object among the nodes is made anew, or stays
    node_remade : (n : ℕ) → is_in ns n ≡ true → Contains (objects d) n → Contains stays n ⊎ Contains shown n
    node_remade n on object = go (is_same before d n) refl
      where
        there : Contains down n
        there = Contains-from_any eqb-true n down (ordered.same n ∙ on)

        go : (b : Bool) → is_same before d n ≡ b → Contains stays n ⊎ Contains shown n
        go true same = inl (Contains-flat_map (same_at before d) down n n there (subst (λ l. Contains l n) (λ i. cond (sym (is_one d t n object) i) (cond (sym same i) (n ∷ []) []) []) (Contains-head n [])))
        go false other = inr (Contains-flat_map (fresh_at before d) down n n there (subst (λ l. Contains l n) (λ i. cond (sym (is_one d t n object) i) (cond (not (sym other i)) (n ∷ []) []) []) (Contains-head n [])))

    -- an object that is a candidate is made anew, or stays
    object_remade : IsObjectTree before → (n : ℕ) → Contains (candidates before d ns) n → Contains (objects d) n → Contains stays n ⊎ Contains (remade before d ns down) n
    object_remade hangs n inside object = elim (either_side ns (below ++ gone) n inside) [
      | inl node ↦ (elim (node_remade n (is_among n node) object) [ inl same ↦ inl same | inr first ↦ inr (in_left shown below n first) ])
      | inr more ↦ (elim (either_side below gone n more) [
        | inl hung ↦ inr (in_right shown below n hung)
        | inr none ↦ (let r = in_flat_map (lost before d) ns n none in absurd (false≢true (sym (lost_gone before d hangs r.0 n r.2) ∙ objects_known d t n object)))
      ])
    ]

    agree : (a b : Bool) → (a ≡ true → b ≡ true) → (b ≡ true → a ≡ true) → a ≡ b
    agree true b there back = sym (there refl)
    agree false true there back = back refl
    agree false false there back = refl

    -- at each candidate that does not stay is found what the tree has there
    pub remade_found : IsObjectTree before → (near : List ℕ) → IsSortedFrom (candidates before d ns) near → (n : ℕ) → Contains near n → (Contains stays n → ⊥) → entry_at (with_records d [] (remade before d ns down)) n ≡ record_at (tree d) n
    remade_found hangs near sorted n inside moves =
        found_after n [] (remade before d ns down)
        ∙ ap (λ b. cond b (Some (record_of d n)) None) (agree (is_in (remade before d ns down) n) (is_object d n)
        (λ on. is_one d t n (remade_object n (Contains-from_any eqb-true n (remade before d ns down) on)))
        (λ on. list_any-from_Contains nat_eq_equiv n (remade before d ns down) (anew (object_remade hangs n (sorted.only n inside) (object_is d t n on)))))
        ∙ sym (record_is d t n)
      where
        anew : Contains stays n ⊎ Contains (remade before d ns down) n → Contains (remade before d ns down) n
        anew (inl same) = absurd (moves same)
        anew (inr made) = made

-- one object that hangs on another, as a list
pub one_hung : (d : Document) (n k : ℕ) → Contains (objects d) n → Contains (kids d n) k → AreHungOn d n (k ∷ [])
one_hung d n k object kid = (
  object,
  λ q inside. elim (Contains-cases q k [] inside) [ inl is ↦ subst (Contains (kids d n)) is kid | inr none ↦ absurd (omega arith) ],
)

-- a record with another parent
abbrev pub hung_elsewhere : Record → Option ℕ → Record
hung_elsewhere r p = record { id = r.id; role = r.role; name = r.name; description = r.description; value = r.value; states = r.states; level = r.level; live = r.live; frame = r.frame; text = r.text; runs = r.runs; parent = p; kids = r.kids }

-- an object that is alike in two documents has the same record in both, but for its parent
module _ (old now : Document) (u : IsTree old) (t : IsTree now) (n : ℕ) (same : IsAlike old now n) (object : Contains (objects now) n) where
  pub was_object : is_object old n ≡ true
  was_object =
      shown_one old u n same.was (same.out ∙ objects_visible now t n object)
      ∙ ap (λ b. not (ignored (record { id = n; body = b }))) same.body_same
      ∙ ap not (objects_shown now t n object)

  pub moved_record : record_of now n ≡ hung_elsewhere (record_of old n) (object_parent now n)
  moved_record = sym (λ i. record {
    id = n;
    role = role (record { id = n; body = same.body_same i });
    name = same.name i;
    description = same.description i;
    value = value (record { id = n; body = same.body_same i });
    states = states (record { id = n; body = same.body_same i });
    level = level (record { id = n; body = same.body_same i });
    live = same.live i;
    frame = frame_of (same.body_same i);
    text = chars_of (same.body_same i);
    runs = runs_of (same.body_same i);
    parent = object_parent now n;
    kids = same.kids_are i;
  })

  -- it is put in with the object that it hangs on now
  pub moved_put : (es new : List (ℕ × Record)) (copied : Record) (above : ℕ) → new ≡ insert_entry nat_cmp es copied.id (hung_elsewhere copied (Some above)) → Some copied ≡ Some (record_of old n) → object_parent now n ≡ Some above
      → new ≡ insert_entry nat_cmp es n (record_of now n)
  moved_put es new copied above is found held =
      let same : copied ≡ record_of old n = cc in
      is ∙ (λ i. insert_entry nat_cmp es (same i).id (hung_elsewhere (same i) (sym held i))) ∙ (λ i. insert_entry nat_cmp es n (sym moved_record i))

  -- the tree before has the object
  pub was_there : (kept : Tree) → kept ≡ tree old → record_at kept n ≡ Some (record_of old n)
  was_there kept is = ap (λ x. record_at x n) is ∙ record_is old u n ∙ ap (λ b. cond b (Some (record_of old n)) None) was_object
