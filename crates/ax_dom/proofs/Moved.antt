-- A document with a node, and all below it, in another place is a tree.
use Rattle.std.proofs.Common.{◌≡◌, ◌≢◌, ◌⊎◌, inl, inr, ℕ, suc, ◌+◌, ◌-◌, ◌≤◌, List, [], length, Bool, true, false, cond, Option, Some, None, is_some, Contains, refl, sym, ap, subst, ◌∙◌, arith}
use Rattle.std.specs.Option.{option_map, option_map_or}
use Rattle.std.specs.Ordering.{nat_cmp}
use Rattle.std.specs.BTreeMap.{is_at}
use Rattle.std.specs.List.Sorted.{IsStrictlyIncreasing}
use Rattle.std.proofs.lemmas.Bool.{false≢true}
use Rattle.std.proofs.lemmas.Bool.Decides.{eqb_tells}
use Rattle.std.proofs.lemmas.Map.{keys-set_value}
use Rattle.std.proofs.lemmas.Map.Made.{lookup-map_values, keys_of-map_values}
use Rattle.ax_base.specs.declared.body.Body.TheVariants.{Words}
use Rattle.ax_base.specs.Document.{Document, Node, node, has, root, children, depth, body, is_text, ids, IsChild}
use Rattle.ax_base.specs.Rects.{HasRectsWithin}
use Rattle.ax_base.specs.Runs.{KeepsRuns}
use Rattle.ax_base.specs.Texts.{IsFitting}
use Rattle.ax_base.specs.Trees.{IsTree, HasNoRepeats}
use Rattle.ax_base.proofs.Lookups.{finds, finds_same, found_is, lookup-set_value_at}
use Rattle.ax_base.proofs.Places.{parent-child, depth-level}
use Rattle.ax_dom.specs.NodeMaps.{cell_of}
use Rattle.ax_dom.specs.Places.{placed, without}
use Rattle.ax_dom.specs.Subtrees.{subtree, is_within}
use Rattle.ax_dom.specs.Changes.{unhung_from, moved}
use Rattle.ax_dom.proofs.Agreement.{cells_agree, parents_agree}
use Rattle.ax_dom.proofs.Placed.{placed_cases, placed_keeps, placed_has, placed_once}
use Rattle.ax_dom.proofs.Removed.{unhung_node, within_is, is_within_from, not_within, outside_from}
use Rattle.ax_dom.proofs.Subtrees.{subtree_has, within_child, within_level, within_known, root_apart, outside_child}
use Rattle.ax_dom.proofs.Without.{without_cases, without_keeps, without_once}

module _ (d : Document) (t : IsTree d) (n into : ℕ) (before : Option ℕ) (apart : n ≢ root) (known : has d n ≡ true) (old : has d into ≡ true) (element : is_text (body d into) ≡ false)
    (out : Contains (subtree d n) into → ⊥) (low : (m : ℕ) → Contains (subtree d n) m → depth d into + 1 + (depth d m - depth d n) ≤ 64) where
  -- the node hangs nowhere
  abbrev u : Document
  u = unhung_from d n

  abbrev e : Document
  e = moved d n into before

  pub node_unhung : (q : ℕ) → node u q ≡ option_map (unhung_node n) (node d q)
  node_unhung q = lookup-map_values (unhung_node n) (is_at (nat_cmp q)) d.nodes

  is_some-map : (o : Option Node) → is_some (option_map (unhung_node n) o) ≡ is_some o
  is_some-map None = refl
  is_some-map (Some x) = refl

  children-map : (o : Option Node) → option_map_or (λ (x : Node). x.children) (option_map (unhung_node n) o) [] ≡ without n (option_map_or (λ (x : Node). x.children) o [])
  children-map None = refl
  children-map (Some x) = refl

  body-map : (o : Option Node) → option_map_or (λ (x : Node). x.body) (option_map (unhung_node n) o) (Words [] []) ≡ option_map_or (λ (x : Node). x.body) o (Words [] [])
  body-map None = refl
  body-map (Some x) = refl

  has_unhung : (q : ℕ) → has u q ≡ has d q
  has_unhung q = ap is_some (node_unhung q) ∙ is_some-map (node d q)

  pub children_unhung : (q : ℕ) → children u q ≡ without n (children d q)
  children_unhung q = ap (λ o. option_map_or (λ (x : Node). x.children) o []) (node_unhung q) ∙ children-map (node d q)

  pub body_unhung : (q : ℕ) → body u q ≡ body d q
  body_unhung q = ap (λ o. option_map_or (λ (x : Node). x.body) o (Words [] [])) (node_unhung q) ∙ body-map (node d q)

  abbrev list : List ℕ
  list = placed before n (children u into)

  pub node_moved : (q : ℕ) → node e q ≡ cond (finds into q) (Some (record { body = body u into; children = list })) (node u q)
  node_moved q = lookup-set_value_at q into (record { body = body u into; children = list }) u.nodes (has_unhung into ∙ old)

  pub has_moved : (q : ℕ) → has e q ≡ has d q
  has_moved q = ap is_some (node_moved q) ∙ go (finds into q) refl
    where
      go : (x : Bool) → finds into q ≡ x → is_some (cond x (Some (record { body = body u into; children = list })) (node u q)) ≡ has d q
      go true same = sym (ap (has d) (sym (found_is into q same)) ∙ old)
      go false other = has_unhung q

  abbrev children_after : Bool → List ℕ → List ℕ
  children_after is_into cs = cond is_into list cs

  pub children_moved : (q : ℕ) → children e q ≡ children_after (finds into q) (without n (children d q))
  children_moved q = ap (λ o. option_map_or (λ (x : Node). x.children) o []) (node_moved q) ∙ go (finds into q)
    where
      go : (x : Bool) → option_map_or (λ (x : Node). x.children) (cond x (Some (record { body = body u into; children = list })) (node u q)) [] ≡ children_after x (without n (children d q))
      go true = refl
      go false = children_unhung q

  pub body_moved : (q : ℕ) → body e q ≡ body d q
  body_moved q = ap (λ o. option_map_or (λ (x : Node). x.body) o (Words [] [])) (node_moved q) ∙ go (finds into q) refl
    where
      go : (x : Bool) → finds into q ≡ x → option_map_or (λ (x : Node). x.body) (cond x (Some (record { body = body u into; children = list })) (node u q)) (Words [] []) ≡ body d q
      go true same = body_unhung into ∙ ap (body d) (found_is into q same)
      go false other = body_unhung q

  -- what is in a list of children without n
  unhung_child : (p c : ℕ) → Contains (children u p) c → IsChild d p c × (c ≢ n)
  unhung_child p c inside = without_cases n c (children d p) (subst (λ xs. Contains xs c) (children_unhung p) inside)

  -- a child is an old one of its parent other than the node, or the node
  child_cases : (p c : ℕ) → IsChild e p c → (IsChild d p c × (c ≢ n)) ⊎ ((p ≡ into) × (c ≡ n))
  child_cases p c child = go (finds into p) refl (subst (λ xs. Contains xs c) (children_moved p) child)
    where
      go : (x : Bool) → finds into p ≡ x → Contains (children_after x (without n (children d p))) c → (IsChild d p c × (c ≢ n)) ⊎ ((p ≡ into) × (c ≡ n))
      go true same inside = elim (placed_cases before n c (children u into) inside) [
        | inl was ↦ inl (let r = unhung_child into c was in (subst (λ x. IsChild d x c) (found_is into p same) r.0, r.1))
        | inr is ↦ inr (sym (found_is into p same), is)
      ]
      go false other inside = inl (without_cases n c (children d p) inside)

  child_stays : (p c : ℕ) → IsChild d p c → c ≢ n → IsChild e p c
  child_stays p c child differs = subst (λ xs. Contains xs c) (sym (children_moved p)) (go (finds into p) refl)
    where
      go : (x : Bool) → finds into p ≡ x → Contains (children_after x (without n (children d p))) c
      go true same = placed_keeps before n c (children u into) (subst (λ xs. Contains xs c) (sym (children_unhung into)) (without_keeps n c (children d into) (subst (λ x. IsChild d x c) (sym (found_is into p same)) child) differs))
      go false other = without_keeps n c (children d p) child differs

  pub child_moved : IsChild e into n
  child_moved = subst (λ xs. Contains xs n) (sym (children_moved into)) (subst (λ x. Contains (children_after x (without n (children d into))) n) (sym (finds_same into into refl)) (placed_has before n (children u into)))

  once_moved : (q : ℕ) → HasNoRepeats (children e q)
  once_moved q = subst HasNoRepeats (sym (children_moved q)) (go (finds into q))
    where
      free : Contains (children u into) n → ⊥
      free inside = (unhung_child into n inside).1 refl

      go : (x : Bool) → HasNoRepeats (children_after x (without n (children d q)))
      go true = placed_once before n (children u into) free (subst HasNoRepeats (sym (children_unhung into)) (without_once n (children d into) (t.once into)))
      go false = without_once n (children d q) (t.once q)

  bare_moved : (q : ℕ) → is_text (body e q) ≡ true → children e q ≡ []
  bare_moved q text = children_moved q ∙ go (finds into q) refl
    where
      was : is_text (body d q) ≡ true
      was = ap is_text (sym (body_moved q)) ∙ text

      go : (x : Bool) → finds into q ≡ x → children_after x (without n (children d q)) ≡ []
      go true same = absurd (false≢true (sym element ∙ ap (λ m. is_text (body d m)) (found_is into q same) ∙ was))
      go false other = ap (without n) (t.bare q was)

  pub ids_moved : ids e ≡ ids d
  ids_moved = keys-set_value (is_at (nat_cmp into)) u.nodes (record { body = body u into; children = list }) ∙ keys_of-map_values (unhung_node n) d.nodes

  abbrev level_after : ℕ → ℕ
  level_after q = cond (is_within d n q) (suc (t.level into) + (t.level q - t.level n)) (t.level q)

  level_inside : (q : ℕ) → Contains (subtree d n) q → level_after q ≡ suc (t.level into) + (t.level q - t.level n)
  level_inside q inside = ap (λ x. cond x (suc (t.level into) + (t.level q - t.level n)) (t.level q)) (is_within_from d n q inside)

  level_outside : (q : ℕ) → (Contains (subtree d n) q → ⊥) → level_after q ≡ t.level q
  level_outside q outside = ap (λ x. cond x (suc (t.level into) + (t.level q - t.level n)) (t.level q)) (outside_from d n q outside)

  deeper_moved : (p c : ℕ) → IsChild e p c → level_after c ≡ suc (level_after p)
  deeper_moved p c child = elim (child_cases p c child) [ inl (was, differs) ↦ go (is_within d n p) refl was differs | inr (at, is) ↦ here at is ]
    where
      here : p ≡ into → c ≡ n → level_after c ≡ suc (level_after p)
      here at is =
          let a : level_after n ≡ suc (t.level into) + (t.level n - t.level n) = level_inside n (subtree_has d t n) in
          let b : level_after into ≡ t.level into = level_outside into out in
          ap level_after is ∙ (let sum : level_after n ≡ suc (level_after into) = omega arith in sum) ∙ ap (λ x. suc (level_after x)) (sym at)

      go : (x : Bool) → is_within d n p ≡ x → IsChild d p c → c ≢ n → level_after c ≡ suc (level_after p)
      go true on was differs =
          let inside : Contains (subtree d n) p = within_is d n p on in
          let a = level_inside c (within_child d t n p c inside was) in
          let b = level_inside p inside in
          let f = t.deeper p c was in
          let l = within_level d t n p inside in
          omega arith
      go false off was differs =
          let a = level_outside c (outside_child d t n p c was (not_within d n p off) differs) in
          let b = level_outside p (not_within d n p off) in
          let f = t.deeper p c was in
          omega arith

  shallow_moved : (q : ℕ) → level_after q ≤ 64
  shallow_moved q = go (is_within d n q) refl
    where
      go : (x : Bool) → is_within d n q ≡ x → level_after q ≤ 64
      go true on =
          let inside : Contains (subtree d n) q = within_is d n q on in
          let a = level_inside q inside in
          let f = low q inside in
          let x = depth-level d t into old in
          let y = depth-level d t n known in
          let z = depth-level d t q (within_known d t n q known inside) in
          omega arith
      go false off = let a = level_outside q (not_within d n q off) in let s = t.shallow q in omega arith

  hung_moved : (q : ℕ) → has e q ≡ true → q ≢ root → (p : ℕ) × IsChild e p q
  hung_moved q there top = elim (eqb_tells q n) [
    | inl (_, is) ↦ (into, subst (IsChild e into) (sym is) child_moved)
    | inr (_, differs) ↦ (let place = t.hung q (sym (has_moved q) ∙ there) top in (place.0, child_stays place.0 q place.1 differs))
  ]

  pub tree_moved : IsTree e
  tree_moved = record {
    level = level_after;
    has_root = has_moved root ∙ t.has_root;
    root_level = level_outside root (root_apart d t n apart) ∙ t.root_level;
    root_element = ap is_text (body_moved root) ∙ t.root_element;
    known = λ p c child. has_moved c ∙ (elim (child_cases p c child) [ inl (was, differs) ↦ t.known p c was | inr (at, is) ↦ ap (has d) is ∙ known ]);
    deeper = deeper_moved;
    shallow = shallow_moved;
    one_parent = λ p q c child other. elim (child_cases p c child) [
      | inl (was, differs) ↦ (elim (child_cases q c other) [ inl (also, _) ↦ t.one_parent p q c was also | inr (_, is) ↦ absurd (differs is) ])
      | inr (at, is) ↦ (elim (child_cases q c other) [ inl (_, differs) ↦ absurd (differs is) | inr (also, _) ↦ at ∙ sym also ])
    ];
    hung = hung_moved;
    once = once_moved;
    bare = bare_moved;
    rising = subst IsStrictlyIncreasing (sym ids_moved) t.rising;
    few = subst (λ (ks : List ℕ). length ks ≤ 65537) (sym ids_moved) t.few;
    fits = λ q. subst IsFitting (sym (body_moved q)) (t.fits q);
    runs = λ q. subst KeepsRuns (sym (body_moved q)) (t.runs q);
    within = λ q. subst HasRectsWithin (sym (body_moved q)) (t.within q);
    focused = λ f some. has_moved f ∙ t.focused f some;
  }

  pub place_stays : (q : ℕ) → has d q ≡ true → q ≢ n → (q ≡ root) ⊎ ((p : ℕ) × IsChild d p q × IsChild e p q)
  place_stays q there differs = elim (eqb_tells q root) [ inl (_, is) ↦ inl is | inr (_, below) ↦ inr ((t.hung q there below).0, (t.hung q there below).1, child_stays (t.hung q there below).0 q (t.hung q there below).1 differs) ]

  -- a node that is not within the moved one keeps its cell
  pub cell_outside : (q : ℕ) → has d q ≡ true → is_within d n q ≡ false → cell_of d q ≡ cell_of e q
  unfolding tree_moved
  cell_outside q there off = cells_agree d e t tree_moved q there (has_moved q ∙ there)
      (place_stays q there (λ same. not_within d n q off (subst (Contains (subtree d n)) (sym same) (subtree_has d t n))))
      (sym (level_outside q (not_within d n q off))) (sym (body_moved q))

  pub depth_inside : (q : ℕ) → Contains (subtree d n) q → depth d into + 1 + (depth d q - depth d n) ≡ depth e q
  unfolding tree_moved
  depth_inside q inside =
      let there : has d q ≡ true = within_known d t n q known inside in
      let x = depth-level d t into old in
      let y = depth-level d t n known in
      let z = depth-level d t q there in
      let w : depth e q ≡ level_after q = depth-level e tree_moved q (has_moved q ∙ there) in
      let a = level_inside q inside in
      omega arith

  -- a node within it, other than itself, keeps its parent
  pub cell_inside : (q : ℕ) → Contains (subtree d n) q → q ≢ n → record (cell_of d q) { depth = depth d into + 1 + (depth d q - depth d n) } ≡ cell_of e q
  cell_inside q inside differs =
      let there : has d q ≡ true = within_known d t n q known inside in
      λ i. record { id = q; parent = parents_agree d e t tree_moved q there (has_moved q ∙ there) (place_stays q there differs) i; depth = depth_inside q inside i; body = sym (body_moved q) i }

  -- the node itself hangs on the new parent
  pub cell_itself : record (cell_of d n) { parent = Some into; depth = depth d into + 1 + (depth d n - depth d n) } ≡ cell_of e n
  cell_itself = λ i. record { id = n; parent = sym (parent-child e tree_moved into n child_moved) i; depth = depth_inside n (subtree_has d t n) i; body = sym (body_moved n) i }
