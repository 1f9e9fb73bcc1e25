-- Each edit leads to a document that follows by its marks.
use Rattle.std.proofs.Common.{◌≡◌, ◌≢◌, inl, inr, ℕ, ◌≤◌, ◌-◌, ◌+◌, List, [], ◌∷◌, ◌++◌, length, Bool, true, false, cond, not, Option, Some, None, Contains, refl, sym, ap, subst, ◌∙◌, eqb}
use Rattle.std.specs.Prelude.{filter, nat_eq}
use Rattle.std.proofs.lemmas.Bool.{false≢true, or_parts, or_left, eqb-true, eq-eqb}
use Rattle.std.proofs.lemmas.Bool.Decides.{eqb_tells}
use Rattle.std.proofs.lemmas.List.Folds.{list_any-append}
use Rattle.ax_base.specs.declared.body.Body.{Body}
use Rattle.ax_base.specs.Document.{Document, root, body, has, ids, children, parent, depth, is_text}
use Rattle.ax_base.specs.Rects.{HasRectsWithin}
use Rattle.ax_base.specs.Runs.{KeepsRuns}
use Rattle.ax_base.specs.Texts.{IsFitting}
use Rattle.ax_base.specs.Trees.{IsTree}
use Rattle.ax_base.proofs.Lookups.{finds, finds_same, finds_tells}
use Rattle.ax_base.proofs.Membership.{Contains-head, Contains-tail}
use Rattle.ax_base.proofs.Places.{parent-child}
use Rattle.ax_base.proofs.Shapes.{HasShapeOf, parent_same}
use Rattle.ax_dom.specs.declared.cell.Cell.{Cell}
use Rattle.ax_dom.specs.declared.edit.Edit.{Edit}
use Rattle.ax_dom.specs.declared.edit.Edit.TheVariants.{Remove, Move}
use Rattle.ax_dom.specs.Places.{placed, placed_before, without}
use Rattle.ax_dom.specs.Subtrees.{subtree, is_within}
use Rattle.ax_dom.specs.Changes.{inserted, with_body, with_focus, removed, moved, unhung_from}
use Rattle.ax_dom.proofs.Agreement.{parents_agree}
use Rattle.ax_dom.proofs.Amended.{shape_amended, body_apart}
use Rattle.ax_dom.proofs.Inserts.{children_is, old_apart, has_kept, has_cases, body_kept, parent_kept}
use Rattle.ax_dom.proofs.Moved.{children_unhung, children_moved, body_moved, has_moved, place_stays}
use Rattle.ax_dom.proofs.Removed.{within_is, is_within_from, has_outside, children_outside, body_outside, left_outside, left_was, cell_left}
use Rattle.ax_dom.proofs.Subtrees.{subtree_has}
use Rattle.ax_dom.proofs.Without.{without_cases, without_none}
use Rattle.ax_dom.specs.Among.{is_in}
use Rattle.dom_ids.specs.References.{listed}
use Rattle.dirty_set.specs.Marking.{named, put, out, left, marked_nodes, marked}
use Rattle.dirty_set.proofs.Follows.{Follows}
use Rattle.dirty_set.proofs.Edits.{in_from, follows_from}

-- a node that is not marked is none of those that the edit names, and no parent that loses a child
unnamed : (old now : Document) (e : Edit) (n q : ℕ) → is_in (marked_nodes old now e) q ≡ false → is_in (named e) n ≡ true → n ≢ q
unnamed old now e n q off on same =
    let parts = or_parts (is_in (named e) q) (is_in (left old e ++ (listed old.focus ++ listed now.focus)) q) (sym (list_any-append (nat_eq q) (named e) (left old e ++ (listed old.focus ++ listed now.focus))) ∙ off) in
    false≢true (sym parts.0 ∙ ap (is_in (named e)) (sym same) ∙ on)

unleft : (old now : Document) (e : Edit) (q : ℕ) → is_in (marked_nodes old now e) q ≡ false → is_in (left old e) q ≡ false
unleft old now e q off =
    let parts = or_parts (is_in (named e) q) (is_in (left old e ++ (listed old.focus ++ listed now.focus)) q) (sym (list_any-append (nat_eq q) (named e) (left old e ++ (listed old.focus ++ listed now.focus))) ∙ off) in
    (or_parts (is_in (left old e) q) (is_in (listed old.focus ++ listed now.focus) q) (sym (list_any-append (nat_eq q) (left old e) (listed old.focus ++ listed now.focus)) ∙ parts.1)).0

pub first_in : (n : ℕ) (ns : List ℕ) → is_in (n ∷ ns) n ≡ true
first_in n ns = in_from (n ∷ ns) n (Contains-head n ns)

no_finds : (n q : ℕ) → n ≢ q → finds n q ≡ false
no_finds n q apart = elim (finds_tells n q) [ inl (_, same) ↦ absurd (apart same) | inr (off, _) ↦ off ]

-- an edit of one node's body
module _ (d : Document) (t : IsTree d) (n : ℕ) (b : Body) (there : has d n ≡ true) (kind : is_text b ≡ is_text (body d n)) (u : IsTree (with_body d n b)) (e : Edit) (names : is_in (named e) n ≡ true) where
  abbrev shape : HasShapeOf d (with_body d n b)
  shape = shape_amended d n b there kind

  pub amended_body : (q : ℕ) → n ≢ q → body d q ≡ body (with_body d n b) q
  amended_body q other = sym (body_apart d n b there kind q (no_finds n q other))

  pub follows_amended : Follows d (with_body d n b) (marked d (with_body d n b) e)
  follows_amended = follows_from d (with_body d n b) e t u (λ q. false)
      (λ q still top. sym (shape.has_same q) ∙ still)
      (λ r is. absurd (false≢true is))
      (λ r still is. absurd (false≢true is))
      (λ q was lost. absurd (false≢true (sym lost ∙ shape.has_same q ∙ was)))
      (λ q still was off. amended_body q (unnamed d (with_body d n b) e n q off names))
      (λ q still was off. sym (shape.children_same q))
      (λ q still top. sym (parent_same d (with_body d n b) shape q))
      (λ q still was. ap (filter (λ c. not false)) (sym (shape.children_same q)))

-- another focus
module _ (d : Document) (t : IsTree d) (f : Option ℕ) (u : IsTree (with_focus d f)) (e : Edit) where
  pub follows_focus : Follows d (with_focus d f) (marked d (with_focus d f) e)
  follows_focus = follows_from d (with_focus d f) e t u (λ q. false)
      (λ q still top. still)
      (λ r is. absurd (false≢true is))
      (λ r still is. absurd (false≢true is))
      (λ q was lost. absurd (false≢true (sym lost ∙ was)))
      (λ q still was off. refl)
      (λ q still was off. refl)
      (λ q still top. refl)
      (λ q still was. refl)

top_is : (n r : ℕ) → eqb r n ≡ true → n ≡ r
top_is n r is = sym (eqb-true r n is)

top_in : (n r : ℕ) (ns : List ℕ) → eqb r n ≡ true → is_in (n ∷ ns) r ≡ true
top_in n r ns is = or_left (nat_eq r n) (is_in ns r) is

-- to leave an id out twice is to leave it out
without_twice : (n : ℕ) (xs : List ℕ) → without n (without n xs) ≡ without n xs
without_twice n xs = without_none n (without n xs) (λ inside. (without_cases n n xs inside).1 refl)

-- what lost no child has all its children still
kept_children : (d now : Document) (t : IsTree d) (e : Edit) (n q : ℕ) → left d e ≡ listed (parent d n) → is_in (marked_nodes d now e) q ≡ false → without n (children d q) ≡ children d q
kept_children d now t e n q is off = without_none n (children d q) (λ child.
    false≢true (sym (unleft d now e q off) ∙ ap (λ l. is_in l q) (is ∙ ap listed (parent-child d t q n child)) ∙ first_in q []))

-- a node is taken out
module _ (d : Document) (t : IsTree d) (n : ℕ) (apart : n ≢ root) (u : IsTree (removed d n)) where
  abbrev gone_doc : Document
  gone_doc = removed d n

  outside : (q : ℕ) → has gone_doc q ≡ true → is_within d n q ≡ false
  outside q still = left_outside d t n apart q still

  lost_within : (q : ℕ) → has d q ≡ true → has gone_doc q ≡ false → Contains (subtree d n) q
  lost_within q was lost = within_is d n q (go (is_within d n q) refl)
    where
      go : (x : Bool) → is_within d n q ≡ x → is_within d n q ≡ true
      go true on = on
      go false off = absurd (false≢true (sym lost ∙ has_outside d t n apart q off ∙ was))

  not_n : (q : ℕ) → has gone_doc q ≡ true → n ≡ q → ⊥
  not_n q still same = false≢true (sym (outside q still) ∙ is_within_from d n q (subst (Contains (subtree d n)) same (subtree_has d t n)))

  pub removed_body : (q : ℕ) → has gone_doc q ≡ true → body d q ≡ body gone_doc q
  removed_body q still = sym (body_outside d t n apart q (outside q still))

  pub follows_removed : Follows d gone_doc (marked d gone_doc (Remove n))
  follows_removed = follows_from d gone_doc (Remove n) t u (λ c. eqb c n)
      (λ q still top. (left_was d t n apart q still).0)
      (λ r is. top_in n r [] is)
      (λ r still is. absurd (not_n r still (top_is n r is)))
      (λ q was lost. (n, eq-eqb n n refl, lost_within q was lost))
      (λ q still was off. removed_body q still)
      (λ q still was off. sym (children_outside d t n apart q (outside q still) ∙ kept_children d gone_doc t (Remove n) n q refl off))
      (λ q still top. ap (λ (c : Cell). c.parent) (cell_left d t n apart q (left_was d t n apart q still).0 (outside q still)))
      (λ q still was. sym (ap (without n) (children_outside d t n apart q (outside q still)) ∙ without_twice n (children d q)))

-- a placed id left out
without_before : (b id : ℕ) (xs : List ℕ) → without id (placed_before b id xs) ≡ without id xs
without_before b id [] = ap (λ x. cond (not x) (id ∷ []) []) (eq-eqb id id refl)
without_before b id (x ∷ xs) = go (eqb x b) (without_before b id xs)
  where
    go : (y : Bool) → without id (placed_before b id xs) ≡ without id xs → without id (cond y (id ∷ x ∷ xs) (x ∷ placed_before b id xs)) ≡ without id (x ∷ xs)
    go true rest = ap (λ y. cond (not y) (id ∷ without id (x ∷ xs)) (without id (x ∷ xs))) (eq-eqb id id refl)
    go false rest = ap (λ l. cond (not (eqb x id)) (x ∷ l) l) rest

without_end : (id : ℕ) (xs : List ℕ) → without id (xs ++ id ∷ []) ≡ without id xs
without_end id [] = ap (λ x. cond (not x) (id ∷ []) []) (eq-eqb id id refl)
without_end id (x ∷ xs) = ap (λ l. cond (not (eqb x id)) (x ∷ l) l) (without_end id xs)

without_placed : (o : Option ℕ) (id : ℕ) (xs : List ℕ) → without id (placed o id xs) ≡ without id xs
without_placed None id xs = without_end id xs
without_placed (Some b) id xs = without_before b id xs

-- a new node
module _ (d : Document) (t : IsTree d) (id into : ℕ) (before : Option ℕ) (b : Body) (new : has d id ≡ false) (old : has d into ≡ true) (low : t.level into ≤ 63) (element : is_text (body d into) ≡ false) (room : length (ids d) ≤ 65536) (fit : IsFitting b) (right : KeepsRuns b) (near : HasRectsWithin b)
    (u : IsTree (inserted d id into before b)) (e : Edit) (names : named e ≡ id ∷ into ∷ []) (puts : put e ≡ id ∷ []) where
  abbrev more : Document
  more = inserted d id into before b

  old_is : (q : ℕ) → has more q ≡ true → eqb q id ≡ false → has d q ≡ true
  old_is q still off = elim (has_cases d t id into before b new old low element room fit right near q still) [
    | inl same ↦ absurd (false≢true (sym off ∙ eq-eqb q id same))
    | inr was ↦ was
  ]

  not_new : (q : ℕ) → has d q ≡ true → q ≢ id
  not_new q was same = false≢true (sym new ∙ ap (has d) (sym same) ∙ was)

  same_list : (q : ℕ) → has d q ≡ true → into ≢ q → children more q ≡ children d q
  same_list q was other =
      children_is d t id into before b new old low element room fit right near q
      ∙ (λ i. cond (old_apart d t id into before b new old low element room fit right near q was i) [] (cond (no_finds into q other i) (placed before id (children d into)) (children d q)))

  hung_same : (q : ℕ) → has d q ≡ true → without id (children d q) ≡ without id (children more q)
  hung_same q was = elim (eqb_tells into q) [
    | inl (_, same) ↦ sym (
        ap (without id) (children_is d t id into before b new old low element room fit right near q
        ∙ (λ i. cond (old_apart d t id into before b new old low element room fit right near q was i) [] (cond (finds_same into q same i) (placed before id (children d into)) (children d q))))
        ∙ without_placed before id (children d into) ∙ ap (λ k. without id (children d k)) same)
    | inr (_, other) ↦ ap (without id) (sym (same_list q was other))
  ]

  pub inserted_body : (q : ℕ) → has d q ≡ true → body d q ≡ body more q
  inserted_body q was = sym (body_kept d t id into before b new old low element room fit right near q was)

  pub follows_inserted : Follows d more (marked d more e)
  follows_inserted = follows_from d more e t u (λ c. eqb c id)
      old_is
      (λ r is. list_any-append (nat_eq r) (put e) (out e) ∙ or_left (is_in (put e) r) (is_in (out e) r) (ap (λ l. is_in l r) puts ∙ top_in id r [] is))
      (λ r still is. ap (λ l. is_in l r) puts ∙ top_in id r [] is)
      (λ q was lost. absurd (false≢true (sym lost ∙ has_kept d t id into before b new old low element room fit right near q was)))
      (λ q still was off. inserted_body q was)
      (λ q still was off. sym (same_list q was (unnamed d more e into q off (ap (λ l. is_in l into) names ∙ in_from (id ∷ into ∷ []) into (Contains-tail id into (into ∷ []) (Contains-head into []))))))
      (λ q still top. sym (parent_kept d t id into before b new old low element room fit right near q (old_is q still top)))
      (λ q still was. hung_same q was)

-- a node in another place
module _ (d : Document) (t : IsTree d) (n into : ℕ) (before : Option ℕ) (apart : n ≢ root) (known : has d n ≡ true) (old : has d into ≡ true) (element : is_text (body d into) ≡ false)
    (out_of : Contains (subtree d n) into → ⊥) (low : (m : ℕ) → Contains (subtree d n) m → depth d into + 1 + (depth d m - depth d n) ≤ 64)
    (u : IsTree (moved d n into before)) where
  abbrev else_where : Document
  else_where = moved d n into before

  same_has : (q : ℕ) → has else_where q ≡ has d q
  same_has q = has_moved d t n into before apart known old element out_of low q

  not_into : (q : ℕ) → into ≢ q → children else_where q ≡ without n (children d q)
  not_into q other =
      children_moved d t n into before apart known old element out_of low q
      ∙ (λ i. cond (no_finds into q other i) (placed before n (children (unhung_from d n) into)) (without n (children d q)))

  hung_moved : (q : ℕ) → without n (children d q) ≡ without n (children else_where q)
  hung_moved q = elim (eqb_tells into q) [
    | inl (_, same) ↦ sym (
        ap (without n) (children_moved d t n into before apart known old element out_of low q
        ∙ (λ i. cond (finds_same into q same i) (placed before n (children (unhung_from d n) into)) (without n (children d q))))
        ∙ without_placed before n (children (unhung_from d n) into)
        ∙ ap (without n) (children_unhung d t n into before apart known old element out_of low into)
        ∙ without_twice n (children d into) ∙ ap (λ k. without n (children d k)) same)
    | inr (_, other) ↦ sym (ap (without n) (not_into q other) ∙ without_twice n (children d q))
  ]

  pub moved_body : (q : ℕ) → body d q ≡ body else_where q
  moved_body q = sym (body_moved d t n into before apart known old element out_of low q)

  pub follows_moved : Follows d else_where (marked d else_where (Move n into before))
  follows_moved = follows_from d else_where (Move n into before) t u (λ c. eqb c n)
      (λ q still top. sym (same_has q) ∙ still)
      (λ r is. top_in n r [] is)
      (λ r still is. top_in n r [] is)
      (λ q was lost. absurd (false≢true (sym lost ∙ same_has q ∙ was)))
      (λ q still was off. moved_body q)
      (λ q still was off. sym (
      not_into q (unnamed d else_where (Move n into before) into q off (in_from (n ∷ into ∷ []) into (Contains-tail n into (into ∷ []) (Contains-head into []))))
      ∙ kept_children d else_where t (Move n into before) n q refl off))
      (λ q still top. parents_agree d else_where t u q (sym (same_has q) ∙ still) still
      (place_stays d t n into before apart known old element out_of low q (sym (same_has q) ∙ still) (λ same. false≢true (sym top ∙ eq-eqb q n same))))
      (λ q still was. hung_moved q)
