-- What each edit that nothing refuses changes.
use Rattle.std.proofs.Common.{◌≡◌, ◌≢◌, ◌⊎◌, inl, inr, ℕ, zero, suc, ◌≤◌, ◌-◌, ◌+◌, List, [], ◌∷◌, ◌++◌, length, Bool, true, false, cond, not, ◌||◌, ◌&&◌, take, Option, Some, None, is_some, Contains, refl, sym, ap, subst, ◌∙◌, arith, eqb}
use Rattle.std.specs.Prelude.{filter, nat_eq, nat_lt, nat_le, flat_map, bytes_eq, codes, unwrap_or}
use Rattle.std.specs.List.{list_any}
use Rattle.std.specs.Option.{option_map_or}
use Rattle.std.specs.Cmp.{nat_eq_equiv}
use Rattle.std.proofs.lemmas.Bool.{false≢true, or_parts, ltb-false, leb-false, eqb-true, eq-eqb}
use Rattle.std.proofs.lemmas.Bool.Decides.{eqb_tells}
use Rattle.std.proofs.lemmas.Map.Views.{list_any-from_Contains}
use Rattle.std.proofs.lemmas.Slice.Eq.{bytes_eq-Decides}
use Rattle.ax_base.specs.Attributes.{value_of, with_value, without_name}
use Rattle.ax_base.specs.declared.attrs.Attr.{Attr}
use Rattle.ax_base.specs.declared.body.Body.{Body}
use Rattle.ax_base.specs.declared.body.Body.TheVariants.{Element, Words}
use Rattle.ax_base.specs.declared.rect.Rect.{Rect}
use Rattle.ax_base.specs.declared.rect.Run.{Run}
use Rattle.ax_base.specs.Characters.{Chars, tokens}
use Rattle.ax_base.specs.Document.{Document, Node, node, root, spot, preorder, body, has, ids, children, depth, lineage, is_text, has_id, IsChild}
use Rattle.ax_base.specs.AccessibleNames.{is_label_for}
use Rattle.ax_base.specs.Rects.{HasRectsWithin}
use Rattle.ax_base.specs.Runs.{KeepsRuns}
use Rattle.ax_base.specs.Texts.{IsFitting}
use Rattle.ax_base.specs.Trees.{IsTree}
use Rattle.ax_base.proofs.Below.{from_below_same}
use Rattle.ax_base.proofs.Joins.{Contains-cases}
use Rattle.ax_base.proofs.Membership.{Contains-head}
use Rattle.ax_base.proofs.Lookups.{finds, finds_same, finds_tells}
use Rattle.ax_base.proofs.Places.{depth-level}
use Rattle.ax_base.proofs.Shapes.{HasShapeOf}
use Rattle.ax_dom.specs.declared.cause.EditCause.TheVariants.{NoNode, UsedId, BadPlace, NotElement, NotText, IntoItself, RootFixed, TooDeep, TooMany, BadRuns, TooLong}
use Rattle.ax_dom.specs.declared.edit.Edit.{Edit}
use Rattle.ax_dom.specs.declared.edit.Edit.TheVariants.{InsertElement, InsertText, Remove, Move, Chars as NewChars, Set, Unset, SetRuns, Frame, Focus}
use Rattle.ax_dom.specs.Among.{is_in}
use Rattle.ax_dom.specs.Bodies.{with_chars, with_attr, without_attr, with_runs, with_frame}
use Rattle.ax_dom.specs.Changes.{edited, no_frame, inserted, with_body, with_focus, removed, moved, unhung_from}
use Rattle.ax_dom.specs.Places.{placed, placed_before, without}
use Rattle.ax_dom.specs.Refusals.{edit_cause, first_cause, lacks_node, reuses_id, lacks_place, wants_element, wants_text, goes_into_itself, removes_root, goes_too_deep, is_one_too_many, breaks_runs, is_too_long}
use Rattle.ax_dom.specs.Subtrees.{subtree, is_within}
use Rattle.ax_dom.specs.Used.{is_used}
use Rattle.ax_dom.proofs.Amended.{shape_amended, body_here, body_apart, kind_stays}
use Rattle.ax_dom.proofs.Bounded.{no_runs_within, no_frame_within}
use Rattle.ax_dom.proofs.Few.{few_nodes}
use Rattle.ax_dom.proofs.Fitting.{text_fits}
use Rattle.ax_dom.proofs.Inserts.{children_is, old_apart, has_cases, body_kept}
use Rattle.ax_dom.proofs.Moved.{children_unhung, children_moved, has_moved, body_moved}
use Rattle.ax_dom.proofs.MovedEntries.{root_above}
use Rattle.ax_dom.proofs.Removed.{children_outside, body_outside, left_outside, left_was, is_within_from}
use Rattle.ax_dom.proofs.Subtrees.{subtree_unfolds, subtree_has, within_child, within_level, lineage_within_subtree}
use Rattle.ax_dom.proofs.Without.{without_cases, without_none}
use Rattle.dom_ids.specs.Hanging.{Rehung, AreTiedAlike, Follows, went, came, shifted}
use Rattle.dom_ids.specs.References.{is_tie, is_text_in, names_text}

no_finds : (n q : ℕ) → n ≢ q → finds n q ≡ false
no_finds n q apart = elim (finds_tells n q) [ inl (_, same) ↦ absurd (apart same) | inr (off, _) ↦ off ]

-- to leave an id out twice is to leave it out
without_twice : (n : ℕ) (xs : List ℕ) → without n (without n xs) ≡ without n xs
without_twice n xs = without_none n (without n xs) (λ inside. (without_cases n n xs inside).1 refl)

-- a placed id left out
without_before : (b id : ℕ) (xs : List ℕ) → without id (placed_before b id xs) ≡ without id xs
without_before b id [] = ap (λ x. cond (not x) (id ∷ []) []) (eq-eqb id id refl)
without_before b id (x ∷ xs) = go (eqb x b) (without_before b id xs)
  where
    go : (y : Bool) → without id (placed_before b id xs) ≡ without id xs → without id (cond y (id ∷ x ∷ xs) (x ∷ placed_before b id xs)) ≡ without id (x ∷ xs)
    go true rest = ap (λ y. cond (not y) (id ∷ without id (x ∷ xs)) (without id (x ∷ xs))) (eq-eqb id id refl)
    go false rest = ap (λ l. cond (not (eqb x id)) (x ∷ l) l) rest

without_end : (id : ℕ) (xs : List ℕ) → without id (xs ++ id ∷ []) ≡ without id xs
without_end id [] = ap (λ x. cond (not x) (id ∷ []) []) (eq-eqb id id refl)
without_end id (x ∷ xs) = ap (λ l. cond (not (eqb x id)) (x ∷ l) l) (without_end id xs)

without_placed : (o : Option ℕ) (id : ℕ) (xs : List ℕ) → without id (placed o id xs) ≡ without id xs
without_placed None id xs = without_end id xs
without_placed (Some b) id xs = without_before b id xs

alike_same : (a b : Body) → a ≡ b → AreTiedAlike a b
alike_same a b is = record { ids_same = λ x. ap (has_id x) is; names_same = λ x. ap (names_text x) is; labels_same = λ x. ap (is_label_for x) is }

is_in_from : (ns : List ℕ) (n : ℕ) → Contains ns n → is_in ns n ≡ true
is_in_from ns n inside = list_any-from_Contains nat_eq_equiv n ns inside

lone_is : (n q : ℕ) → is_in (n ∷ []) q ≡ true → q ≡ n
lone_is n q on = eqb-true q n (go (nat_eq q n) on)
  where
    go : (b : Bool) → (b || false) ≡ true → b ≡ true
    go true e = refl
    go false e = e

lone_apart : (n q : ℕ) → is_in (n ∷ []) q ≡ false → n ≢ q
lone_apart n q off same = false≢true (sym off ∙ is_in_from (n ∷ []) q (subst (Contains (n ∷ [])) same (Contains-head n [])))

body_of_none : (d : Document) (q : ℕ) → has d q ≡ false → body d q ≡ Words [] []
body_of_none d q off = go (node d q) refl off
  where
    go : (o : Option Node) → node d q ≡ o → is_some o ≡ false → body d q ≡ Words [] []
    go None is off = ap (λ o. option_map_or (λ (e : Node). e.body) o (Words [] [])) is
    go (Some e) is off = absurd (false≢true (sym off))

-- an edit of one node's body hangs nothing anew
pub rehung_amended : (d : Document) (t : IsTree d) (n : ℕ) (b : Body) → has d n ≡ true → is_text b ≡ is_text (body d n) → IsTree (with_body d n b) → Rehung d (with_body d n b) (λ c. false)
rehung_amended d t n b there kind u =
    let shape : HasShapeOf d (with_body d n b) = shape_amended d n b there kind in
    record {
      was_tree = t;
      is_tree = u;
      was = λ q still top. sym (shape.has_same q) ∙ still;
      hung = λ q still was. ap (filter (λ c. not false)) (sym (shape.children_same q));
    }

-- an edit of one node: it goes and comes, or what it carries and refers to stays
module _ (d : Document) (t : IsTree d) (n : ℕ) (b : Body) (there : has d n ≡ true) (kind : is_text b ≡ is_text (body d n)) (u : IsTree (with_body d n b)) where
  pub follows_amended : Follows d (with_body d n b) (n ∷ []) (n ∷ []) []
  follows_amended = record {
    top = λ c. false;
    hangs = rehung_amended d t n b there kind u;
    same = λ q stays other. alike_same (body d q) (body (with_body d n b) q) (sym (body_apart d n b there kind q (no_finds n q (lone_apart n q stays))));
    new = λ q come off. absurd (false≢true (sym off ∙ come));
    lost = λ q went off. absurd (false≢true (sym off ∙ went));
    was_below = λ r q is known inside. absurd (false≢true is);
    is_below = λ r q is known inside. absurd (false≢true is);
  }

  pub follows_alike : AreTiedAlike (body d n) b → Follows d (with_body d n b) [] [] []
  follows_alike alike = record {
    top = λ c. false;
    hangs = rehung_amended d t n b there kind u;
    same = λ q stays other. elim (finds_tells n q) [
      | inl (_, same) ↦ subst (λ k. AreTiedAlike (body d k) (body (with_body d n b) k)) same (subst (AreTiedAlike (body d n)) (sym (body_here d n b there kind)) alike)
      | inr (off, _) ↦ alike_same (body d q) (body (with_body d n b) q) (sym (body_apart d n b there kind q off))
    ];
    new = λ q come off. cc;
    lost = λ q went off. cc;
    was_below = λ r q is known inside. absurd (false≢true is);
    is_below = λ r q is known inside. absurd (false≢true is);
  }

-- another focus
pub follows_focus : (d : Document) → IsTree d → (f : Option ℕ) → IsTree (with_focus d f) → Follows d (with_focus d f) [] [] []
follows_focus d t f u = record {
  top = λ c. false;
  hangs = record { was_tree = t; is_tree = u; was = λ q still top. still; hung = λ q still was. refl };
  same = λ q stays other. alike_same (body d q) (body d q) refl;
  new = λ q come off. cc;
  lost = λ q went off. cc;
  was_below = λ r q is known inside. absurd (false≢true is);
  is_below = λ r q is known inside. absurd (false≢true is);
}

-- a removal takes a node out
pub rehung_removed : (d : Document) (t : IsTree d) (n : ℕ) (apart : n ≢ root) → IsTree (removed d n) → Rehung d (removed d n) (λ c. eqb c n)
rehung_removed d t n apart u = record {
  was_tree = t;
  is_tree = u;
  was = λ q still top. (left_was d t n apart q still).0;
  hung = λ q still was. sym (ap (without n) (children_outside d t n apart q (left_outside d t n apart q still)) ∙ without_twice n (children d q));
}

pub follows_removed : (d : Document) (t : IsTree d) (n : ℕ) → n ≢ root → IsTree (removed d n) → Follows d (removed d n) (subtree d n) [] []
follows_removed d t n apart u = record {
  top = λ c. eqb c n;
  hangs = rehung_removed d t n apart u;
  same = λ q stays other. alike_same (body d q) (body (removed d n) q) (sym (body_outside d t n apart q stays));
  new = λ q come off. cc;
  lost = λ q went other. gone q went (has (removed d n) q) refl;
  was_below = λ r q is known inside. inl (is_in_from (subtree d n) q (subst (λ k. Contains (subtree d k) q) (eqb-true r n is) inside));
  is_below = λ r q is known inside. absurd (false≢true (sym (left_outside d t n apart r known) ∙ is_within_from d n r (subst (Contains (subtree d n)) (sym (eqb-true r n is)) (subtree_has d t n))));
}
  where
    gone : (q : ℕ) → is_in (subtree d n) q ≡ true → (b : Bool) → has (removed d n) q ≡ b → b ≡ false
    gone q went true still = absurd (false≢true (sym (left_outside d t n apart q still) ∙ went))
    gone q went false off = refl

-- an insert hangs a new node
module _ (d : Document) (t : IsTree d) (id into : ℕ) (before : Option ℕ) (b : Body) (new : has d id ≡ false) (old : has d into ≡ true) (low : t.level into ≤ 63) (element : is_text (body d into) ≡ false) (room : length (ids d) ≤ 65536) (fit : IsFitting b) (right : KeepsRuns b) (near : HasRectsWithin b)
    (u : IsTree (inserted d id into before b)) where
  abbrev more : Document
  more = inserted d id into before b

  same_list : (q : ℕ) → has d q ≡ true → into ≢ q → children more q ≡ children d q
  same_list q was other =
      children_is d t id into before b new old low element room fit right near q
      ∙ (λ i. cond (old_apart d t id into before b new old low element room fit right near q was i) [] (cond (no_finds into q other i) (placed before id (children d into)) (children d q)))

  hung_same : (q : ℕ) → has d q ≡ true → without id (children d q) ≡ without id (children more q)
  hung_same q was = elim (eqb_tells into q) [
    | inl (_, same) ↦ sym (
        ap (without id) (children_is d t id into before b new old low element room fit right near q
        ∙ (λ i. cond (old_apart d t id into before b new old low element room fit right near q was i) [] (cond (finds_same into q same i) (placed before id (children d into)) (children d q))))
        ∙ without_placed before id (children d into) ∙ ap (λ k. without id (children d k)) same)
    | inr (_, other) ↦ ap (without id) (sym (same_list q was other))
  ]

  pub rehung_inserted : Rehung d more (λ c. eqb c id)
  rehung_inserted = record {
    was_tree = t;
    is_tree = u;
    was = λ q still off. elim (has_cases d t id into before b new old low element room fit right near q still) [
      | inl same ↦ absurd (false≢true (sym off ∙ eq-eqb q id same))
      | inr there ↦ there
    ];
    hung = λ q still was. hung_same q was;
  }

  new_below : (q : ℕ) → Contains (subtree more id) q → is_in (id ∷ []) q ≡ true
  new_below q inside = elim (Contains-cases q id (flat_map (subtree more) (children more id)) (subst (λ l. Contains l q) (subtree_unfolds more u id) inside)) [
    | inl is ↦ is_in_from (id ∷ []) q (subst (Contains (id ∷ [])) is (Contains-head id []))
    | inr below ↦ absurd (nothing below)
  ]
    where
      bare : children more id ≡ []
      bare = children_is d t id into before b new old low element room fit right near id ∙ (λ i. cond (finds_same id id refl i) [] (cond (finds into id) (placed before id (children d into)) (children d id)))

      nothing : Contains (flat_map (subtree more) (children more id)) q → ⊥
      nothing below = let e : Contains [] q = subst (λ l. Contains (flat_map (subtree more) l) q) bare below in omega (arith, e)

  pub follows_inserted : Follows d more [] (id ∷ []) []
  follows_inserted = record {
    top = λ c. eqb c id;
    hangs = rehung_inserted;
    same = λ q stays other. alike_same (body d q) (body more q) (sym (same_body q other (has d q) refl));
    new = λ q come off. ap (has d) (lone_is id q come) ∙ new;
    lost = λ q went off. cc;
    was_below = λ r q is known inside. absurd (false≢true (sym new ∙ ap (has d) (sym (eqb-true r id is)) ∙ known));
    is_below = λ r q is known inside. inl (new_below q (subst (λ k. Contains (subtree more k) q) (eqb-true r id is) inside));
  }
    where
      lost_too : (q : ℕ) → is_in (id ∷ []) q ≡ false → has d q ≡ false → (b : Bool) → has more q ≡ b → b ≡ false
      lost_too q other off true still = elim (has_cases d t id into before b new old low element room fit right near q still) [
        | inl same ↦ absurd (lone_apart id q other (sym same))
        | inr there ↦ absurd (false≢true (sym off ∙ there))
      ]
      lost_too q other off false lost = refl

      same_body : (q : ℕ) → is_in (id ∷ []) q ≡ false → (b : Bool) → has d q ≡ b → body more q ≡ body d q
      same_body q other true there = body_kept d t id into before b new old low element room fit right near q there
      same_body q other false off = body_of_none more q (lost_too q other off (has more q) refl) ∙ sym (body_of_none d q off)

-- a move hangs a node elsewhere
module _ (d : Document) (t : IsTree d) (n into : ℕ) (before : Option ℕ) (apart : n ≢ root) (known : has d n ≡ true) (old : has d into ≡ true) (element : is_text (body d into) ≡ false)
    (out_of : Contains (subtree d n) into → ⊥) (low : (m : ℕ) → Contains (subtree d n) m → depth d into + 1 + (depth d m - depth d n) ≤ 64)
    (u : IsTree (moved d n into before)) where
  abbrev else_where : Document
  else_where = moved d n into before

  not_into : (q : ℕ) → into ≢ q → children else_where q ≡ without n (children d q)
  not_into q other =
      children_moved d t n into before apart known old element out_of low q
      ∙ (λ i. cond (no_finds into q other i) (placed before n (children (unhung_from d n) into)) (without n (children d q)))

  hung_moved : (q : ℕ) → without n (children d q) ≡ without n (children else_where q)
  hung_moved q = elim (eqb_tells into q) [
    | inl (_, same) ↦ sym (
        ap (without n) (children_moved d t n into before apart known old element out_of low q
        ∙ (λ i. cond (finds_same into q same i) (placed before n (children (unhung_from d n) into)) (without n (children d q))))
        ∙ without_placed before n (children (unhung_from d n) into)
        ∙ ap (without n) (children_unhung d t n into before apart known old element out_of low into)
        ∙ without_twice n (children d into) ∙ ap (λ k. without n (children d k)) same)
    | inr (_, other) ↦ sym (ap (without n) (not_into q other) ∙ without_twice n (children d q))
  ]

  pub rehung_moved : Rehung d else_where (λ c. eqb c n)
  rehung_moved = record {
    was_tree = t;
    is_tree = u;
    was = λ q still off. sym (has_moved d t n into before apart known old element out_of low q) ∙ still;
    hung = λ q still was. hung_moved q;
  }

  -- what is below the moved node stays below it
  below_same : subtree d n ≡ subtree else_where n
  below_same = from_below_same preorder (spot d) (spot else_where) (children d) (children else_where) (Contains (subtree d n))
      (λ q inside i. record { id = q; body = sym (body_moved d t n into before apart known old element out_of low q) i })
      (λ q inside. sym (not_into q (λ same. out_of (subst (Contains (subtree d n)) (sym same) inside)) ∙ without_none n (children d q) (λ child. itself q inside child)))
      (λ q c inside child. within_child d t n q c inside child)
      64 n (subtree_has d t n)
    where
      itself : (q : ℕ) → Contains (subtree d n) q → IsChild d q n → ⊥
      itself q inside child = let a = within_level d t n q inside in let b = t.deeper q n child in omega arith

  pub follows_moved : Follows d else_where [] [] (subtree else_where n)
  follows_moved = record {
    top = λ c. eqb c n;
    hangs = rehung_moved;
    same = λ q stays other. alike_same (body d q) (body else_where q) (sym (body_moved d t n into before apart known old element out_of low q));
    new = λ q come off. cc;
    lost = λ q went off. cc;
    was_below = λ r q is there inside. inr (is_in_from (subtree else_where n) q (subst (λ l. Contains l q) below_same (subst (λ k. Contains (subtree d k) q) (eqb-true r n is) inside)));
    is_below = λ r q is there inside. inr (is_in_from (subtree else_where n) q (subst (λ k. Contains (subtree else_where k) q) (eqb-true r n is) inside));
  }

-- what a node carries and refers to stays where its frame, its characters or its runs change
frame_alike : (rect : Rect) (b : Body) → AreTiedAlike b (with_frame rect b)
frame_alike rect (Element tag attrs frame) = record { ids_same = λ x. refl; names_same = λ x. refl; labels_same = λ x. refl }
frame_alike rect (Words chars runs) = record { ids_same = λ x. refl; names_same = λ x. refl; labels_same = λ x. refl }

chars_alike : (new : Chars) (b : Body) → AreTiedAlike b (with_chars new b)
chars_alike new (Element tag attrs frame) = record { ids_same = λ x. refl; names_same = λ x. refl; labels_same = λ x. refl }
chars_alike new (Words chars runs) = record { ids_same = λ x. refl; names_same = λ x. refl; labels_same = λ x. refl }

runs_alike : (new : List Run) (b : Body) → AreTiedAlike b (with_runs new b)
runs_alike new (Element tag attrs frame) = record { ids_same = λ x. refl; names_same = λ x. refl; labels_same = λ x. refl }
runs_alike new (Words chars runs) = record { ids_same = λ x. refl; names_same = λ x. refl; labels_same = λ x. refl }

-- attributes of another name stay
value_stays : (other name value : Chars) (attrs : List Attr) → bytes_eq name other ≡ false → value_of other attrs ≡ value_of other (with_value name value attrs)
value_stays other name value [] apart = ap (λ b. cond b (Some value) None) (sym apart)
value_stays other name value (a ∷ attrs) apart = go (bytes_eq a.name name) refl (value_stays other name value attrs apart)
  where
    go : (b : Bool) → bytes_eq a.name name ≡ b → value_of other attrs ≡ value_of other (with_value name value attrs) → value_of other (a ∷ attrs) ≡ value_of other (cond b (record { name = a.name; value = value } ∷ attrs) (a ∷ with_value name value attrs))
    go true is rest = let off : bytes_eq a.name other ≡ false = ap (λ n. bytes_eq n other) ((bytes_eq-Decides a.name name).0 is) ∙ apart in
        ap (λ b. cond b (Some a.value) (value_of other attrs)) off ∙ ap (λ b. cond b (Some value) (value_of other attrs)) (sym off)
    go false is rest = ap (λ o. cond (bytes_eq a.name other) (Some a.value) o) rest

value_left : (other name : Chars) (attrs : List Attr) → bytes_eq name other ≡ false → value_of other attrs ≡ value_of other (without_name name attrs)
value_left other name [] apart = refl
value_left other name (a ∷ attrs) apart = go (bytes_eq a.name name) refl (value_left other name attrs apart)
  where
    go : (b : Bool) → bytes_eq a.name name ≡ b → value_of other attrs ≡ value_of other (without_name name attrs) → value_of other (a ∷ attrs) ≡ value_of other (cond (not b) (a ∷ without_name name attrs) (without_name name attrs))
    go true is rest = let off : bytes_eq a.name other ≡ false = ap (λ n. bytes_eq n other) ((bytes_eq-Decides a.name name).0 is) ∙ apart in
        ap (λ b. cond b (Some a.value) (value_of other attrs)) off ∙ rest
    go false is rest = ap (λ o. cond (bytes_eq a.name other) (Some a.value) o) rest

-- so what a node carries and refers to stays where an attribute changes that has nothing to do with it
attrs_alike : (tag : Chars) (frame other : Rect) (attrs new : List Attr) → value_of (codes "id") attrs ≡ value_of (codes "id") new → value_of (codes "for") attrs ≡ value_of (codes "for") new
    → value_of (codes "aria-labelledby") attrs ≡ value_of (codes "aria-labelledby") new → value_of (codes "aria-describedby") attrs ≡ value_of (codes "aria-describedby") new → AreTiedAlike (Element tag attrs frame) (Element tag new other)
attrs_alike tag frame other attrs new id_same for_same labelledby_same describedby_same = record {
  ids_same = λ x i. option_map_or (bytes_eq x) (id_same i) false;
  names_same = λ x i. is_text_in (take 8 (tokens (unwrap_or (labelledby_same i) []))) x || is_text_in (take 8 (tokens (unwrap_or (describedby_same i) []))) x;
  labels_same = λ x i. bytes_eq tag (codes "label") && option_map_or (bytes_eq x) (for_same i) false;
}

untied : (name : Chars) → is_tie name ≡ false → (bytes_eq name (codes "id") ≡ false) × (bytes_eq name (codes "for") ≡ false) × (bytes_eq name (codes "aria-labelledby") ≡ false) × (bytes_eq name (codes "aria-describedby") ≡ false)
untied name off =
    let p = or_parts (bytes_eq name (codes "id")) _ off in
    let q = or_parts (bytes_eq name (codes "for")) _ p.1 in
    let r = or_parts (bytes_eq name (codes "aria-labelledby")) (bytes_eq name (codes "aria-describedby")) q.1 in
    (p.0, q.0, r.0, r.1)

attr_alike : (name value : Chars) (b : Body) → is_tie name ≡ false → AreTiedAlike b (with_attr name value b)
attr_alike name value (Words chars runs) off = alike_same (Words chars runs) (Words chars runs) refl
attr_alike name value (Element tag attrs frame) off =
    let p = untied name off in
    attrs_alike tag frame frame attrs (with_value name value attrs) (value_stays (codes "id") name value attrs p.0) (value_stays (codes "for") name value attrs p.1)
    (value_stays (codes "aria-labelledby") name value attrs p.2) (value_stays (codes "aria-describedby") name value attrs p.3)

unset_alike : (name : Chars) (b : Body) → is_tie name ≡ false → AreTiedAlike b (without_attr name b)
unset_alike name (Words chars runs) off = alike_same (Words chars runs) (Words chars runs) refl
unset_alike name (Element tag attrs frame) off =
    let p = untied name off in
    attrs_alike tag frame frame attrs (without_name name attrs) (value_left (codes "id") name attrs p.0) (value_left (codes "for") name attrs p.1)
    (value_left (codes "aria-labelledby") name attrs p.2) (value_left (codes "aria-describedby") name attrs p.3)

-- no cause holds
record IsFree (d : Document) (e : Edit) : Type 0 where
  known : lacks_node d e ≡ false
  fresh : reuses_id d e ≡ false
  place : lacks_place d e ≡ false
  element : wants_element d e ≡ false
  text : wants_text d e ≡ false
  apart : goes_into_itself d e ≡ false
  no_root : removes_root e ≡ false
  low : goes_too_deep d e ≡ false
  few : is_one_too_many d e ≡ false
  runs : breaks_runs d e ≡ false
  short : is_too_long e ≡ false

all_off : (a b c f g h i j k l m : Bool) → first_cause ((a, NoNode) ∷ (b, UsedId) ∷ (c, BadPlace) ∷ (f, NotElement) ∷ (g, NotText) ∷ (h, IntoItself) ∷ (i, RootFixed) ∷ (j, TooDeep) ∷ (k, TooMany) ∷ (l, BadRuns) ∷ (m, TooLong) ∷ []) ≡ None
    → (a ≡ false) × (b ≡ false) × (c ≡ false) × (f ≡ false) × (g ≡ false) × (h ≡ false) × (i ≡ false) × (j ≡ false) × (k ≡ false) × (l ≡ false) × (m ≡ false)
all_off true b c f g h i j k l m none = cc
all_off false true c f g h i j k l m none = cc
all_off false false true f g h i j k l m none = cc
all_off false false false true g h i j k l m none = cc
all_off false false false false true h i j k l m none = cc
all_off false false false false false true i j k l m none = cc
all_off false false false false false false true j k l m none = cc
all_off false false false false false false false true k l m none = cc
all_off false false false false false false false false true l m none = cc
all_off false false false false false false false false false true m none = cc
all_off false false false false false false false false false false true none = cc
all_off false false false false false false false false false false false none = (refl, refl, refl, refl, refl, refl, refl, refl, refl, refl, refl)

free_from : (d : Document) (e : Edit) → edit_cause d e ≡ None → IsFree d e
free_from d e none =
    let all = all_off (lacks_node d e) (reuses_id d e) (lacks_place d e) (wants_element d e) (wants_text d e) (goes_into_itself d e) (removes_root e) (goes_too_deep d e) (is_one_too_many d e) (breaks_runs d e) (is_too_long e) none in
    record { known = all.0; fresh = all.1; place = all.2; element = all.3; text = all.4; apart = all.5; no_root = all.6; low = all.7; few = all.8; runs = all.9; short = all.10 }

shown : (b : Bool) → not b ≡ false → b ≡ true
shown true e = refl
shown false e = sym e

none_at : (p : ℕ → Bool) (xs : List ℕ) (x : ℕ) → list_any p xs ≡ false → Contains xs x → p x ≡ false
none_at p [] x none inside = absurd (omega arith)
none_at p (y ∷ xs) x none inside = elim (Contains-cases x y xs inside) [
  | inl is ↦ ap p (sym is) ∙ (or_parts (p y) (list_any p xs) none).0
  | inr more ↦ none_at p xs x (or_parts (p y) (list_any p xs) none).1 more
]

-- whichever edit it is
module _ (d : Document) (t : IsTree d) (all_inserted : (n : ℕ) → has d n ≡ true → n ≢ root → is_used d n ≡ true) where
  fresh_lacks : (id : ℕ) → (nat_eq id root || is_used d id) ≡ false → has d id ≡ false
  fresh_lacks id free = go (has d id) refl
    where
      parts : (nat_eq id root ≡ false) × (is_used d id ≡ false)
      parts = or_parts (nat_eq id root) (is_used d id) free

      go : (b : Bool) → has d id ≡ b → b ≡ false
      go true there = absurd (false≢true (sym parts.1 ∙ all_inserted id there (λ same. false≢true (sym parts.0 ∙ eq-eqb id root same))))
      go false off = refl

  low_into : (into : ℕ) → has d into ≡ true → nat_lt 64 (depth d into + 1) ≡ false → t.level into ≤ 63
  low_into into there low = let a = ltb-false 64 (depth d into + 1) low in let b = depth-level d t into there in omega arith

  room_left : nat_le 65536 (length d.used) ≡ false → length (ids d) ≤ 65536
  room_left off = let few = few_nodes d t.rising all_inserted in let more = leb-false 65536 (length d.used) off in omega arith

  insert_element : (id into : ℕ) (before : Option ℕ) (tag : Chars) (attrs : List Attr) → edit_cause d (InsertElement id into before tag attrs) ≡ None → IsTree (edited d (InsertElement id into before tag attrs))
      → Follows d (edited d (InsertElement id into before tag attrs)) [] (id ∷ []) []
  insert_element id into before tag attrs none u =
      let free = free_from d (InsertElement id into before tag attrs) none in
      let there = shown (has d into) free.known in
      follows_inserted d t id into before (Element tag attrs no_frame) (fresh_lacks id free.fresh) there (low_into into there free.low) free.element (room_left free.few) tt tt no_frame_within u

  insert_text : (id into : ℕ) (before : Option ℕ) (chars : Chars) → edit_cause d (InsertText id into before chars) ≡ None → IsTree (edited d (InsertText id into before chars))
      → Follows d (edited d (InsertText id into before chars)) [] (id ∷ []) []
  insert_text id into before chars none u =
      let free = free_from d (InsertText id into before chars) none in
      let there = shown (has d into) free.known in
      follows_inserted d t id into before (Words chars []) (fresh_lacks id free.fresh) there (low_into into there free.low) free.element (room_left free.few) (text_fits chars free.short) refl no_runs_within u

  remove : (id : ℕ) → edit_cause d (Remove id) ≡ None → IsTree (edited d (Remove id)) → Follows d (edited d (Remove id)) (subtree d id) [] []
  remove id none u = let free = free_from d (Remove id) none in follows_removed d t id (λ same. false≢true (sym free.no_root ∙ eq-eqb id root same)) u

  move : (id into : ℕ) (before : Option ℕ) → edit_cause d (Move id into before) ≡ None → IsTree (edited d (Move id into before)) → Follows d (edited d (Move id into before)) [] [] (subtree (edited d (Move id into before)) id)
  move id into before none u =
      let free = free_from d (Move id into before) none in
      let known = or_parts (not (has d id)) (not (has d into)) free.known in
      let there = shown (has d id) known.0 in
      let old = shown (has d into) known.1 in
      follows_moved d t id into before
      (λ same. false≢true (sym free.apart ∙ list_any-from_Contains nat_eq_equiv id (lineage d into) (subst (Contains (lineage d into)) (sym same) (root_above d t (t.level into) into old (omega arith)))))
      there old free.element
      (λ inside. false≢true (sym free.apart ∙ list_any-from_Contains nat_eq_equiv id (lineage d into) (lineage_within_subtree d t id into inside)))
      (λ m inside. ltb-false 64 (depth d into + 1 + (depth d m - depth d id)) (none_at (λ m. nat_lt 64 (depth d into + 1 + (depth d m - depth d id))) (subtree d id) m free.low inside))
      u

  set : (id : ℕ) (name value : Chars) → edit_cause d (Set id name value) ≡ None → IsTree (edited d (Set id name value)) → Follows d (edited d (Set id name value)) (went d (Set id name value)) (came (Set id name value)) []
  set id name value none u = go (is_tie name) refl
    where
      there : has d id ≡ true
      there = shown (has d id) (free_from d (Set id name value) none).known

      go : (b : Bool) → is_tie name ≡ b → Follows d (edited d (Set id name value)) (cond b (id ∷ []) []) (cond b (id ∷ []) []) []
      go true is = follows_amended d t id (with_attr name value (body d id)) there (kind_stays (Set id name value) (body d id)) u
      go false off = follows_alike d t id (with_attr name value (body d id)) there (kind_stays (Set id name value) (body d id)) u (attr_alike name value (body d id) off)

  unset : (id : ℕ) (name : Chars) → edit_cause d (Unset id name) ≡ None → IsTree (edited d (Unset id name)) → Follows d (edited d (Unset id name)) (went d (Unset id name)) (came (Unset id name)) []
  unset id name none u = go (is_tie name) refl
    where
      there : has d id ≡ true
      there = shown (has d id) (free_from d (Unset id name) none).known

      go : (b : Bool) → is_tie name ≡ b → Follows d (edited d (Unset id name)) (cond b (id ∷ []) []) (cond b (id ∷ []) []) []
      go true is = follows_amended d t id (without_attr name (body d id)) there (kind_stays (Unset id name) (body d id)) u
      go false off = follows_alike d t id (without_attr name (body d id)) there (kind_stays (Unset id name) (body d id)) u (unset_alike name (body d id) off)

  new_chars : (id : ℕ) (chars : Chars) → edit_cause d (NewChars id chars) ≡ None → IsTree (edited d (NewChars id chars)) → Follows d (edited d (NewChars id chars)) [] [] []
  new_chars id chars none u = follows_alike d t id (with_chars chars (body d id)) (shown (has d id) (free_from d (NewChars id chars) none).known) (kind_stays (NewChars id chars) (body d id)) u (chars_alike chars (body d id))

  set_runs : (id : ℕ) (runs : List Run) → edit_cause d (SetRuns id runs) ≡ None → IsTree (edited d (SetRuns id runs)) → Follows d (edited d (SetRuns id runs)) [] [] []
  set_runs id runs none u = follows_alike d t id (with_runs runs (body d id)) (shown (has d id) (free_from d (SetRuns id runs) none).known) (kind_stays (SetRuns id runs) (body d id)) u (runs_alike runs (body d id))

  frame : (id : ℕ) (rect : Rect) → edit_cause d (Frame id rect) ≡ None → IsTree (edited d (Frame id rect)) → Follows d (edited d (Frame id rect)) [] [] []
  frame id rect none u = follows_alike d t id (with_frame rect (body d id)) (shown (has d id) (free_from d (Frame id rect) none).known) (kind_stays (Frame id rect) (body d id)) u (frame_alike rect (body d id))

edited_follows : (d : Document) (t : IsTree d) → ((n : ℕ) → has d n ≡ true → n ≢ root → is_used d n ≡ true) → (e : Edit) → edit_cause d e ≡ None → IsTree (edited d e) → Follows d (edited d e) (went d e) (came e) (shifted (edited d e) e)
edited_follows d t all (InsertElement id into before tag attrs) none u = insert_element d t all id into before tag attrs none u
edited_follows d t all (InsertText id into before chars) none u = insert_text d t all id into before chars none u
edited_follows d t all (Remove id) none u = remove d t all id none u
edited_follows d t all (Move id into before) none u = move d t all id into before none u
edited_follows d t all (Set id name value) none u = set d t all id name value none u
edited_follows d t all (Unset id name) none u = unset d t all id name none u
edited_follows d t all (NewChars id chars) none u = new_chars d t all id chars none u
edited_follows d t all (SetRuns id runs) none u = set_runs d t all id runs none u
edited_follows d t all (Frame id rect) none u = frame d t all id rect none u
edited_follows d t all (Focus f) none u = follows_focus d t f u

pub edit_follows : (old now : Document) (e : Edit) → IsTree old → IsTree now → ((n : ℕ) → has old n ≡ true → n ≢ root → is_used old n ≡ true) → edit_cause old e ≡ None → now ≡ edited old e → Follows old now (went old e) (came e) (shifted now e)
edit_follows old now e t u all none leads = subst (λ d. IsTree d → Follows old d (went old e) (came e) (shifted d e)) (sym leads) (λ v. edited_follows old t all e none v) u
