-- A document with a new node is a tree.
use Rattle.std.proofs.Common.{◌≡◌, ◌≢◌, ◌⊎◌, inl, inr, ℕ, suc, ◌+◌, ◌≤◌, List, [], length, Bool, true, false, cond, Option, Some, is_some, Contains, refl, sym, ap, subst, ◌∙◌, arith, add-one}
use Rattle.std.specs.Option.{option_map_or}
use Rattle.std.specs.Ordering.{nat_cmp}
use Rattle.std.specs.BTreeMap.{is_at}
use Rattle.std.specs.BTreeSet.{insert_key}
use Rattle.std.specs.List.Sorted.{IsStrictlyIncreasing}
use Rattle.std.proofs.lemmas.Bool.{false≢true}
use Rattle.std.proofs.lemmas.Bool.Decides.{eqb_tells}
use Rattle.std.proofs.lemmas.Map.{keys-set_value}
use Rattle.std.proofs.lemmas.Map.Made.{is_some-lookup}
use Rattle.ax_base.specs.declared.body.Body.{Body}
use Rattle.ax_base.specs.declared.body.Body.TheVariants.{Words}
use Rattle.ax_base.specs.Document.{Document, Node, node, has, root, children, parent, depth, body, is_text, ids, IsChild}
use Rattle.ax_base.specs.Rects.{HasRectsWithin}
use Rattle.ax_base.specs.Runs.{KeepsRuns}
use Rattle.ax_base.specs.Texts.{IsFitting}
use Rattle.ax_base.specs.Trees.{IsTree, HasNoRepeats}
use Rattle.ax_base.proofs.Places.{has_children, parent-child, parent-root, depth-level}
use Rattle.ax_base.proofs.Lookups.{finds, finds_same, finds_tells, found_is, lookup-insert_entry, lookup-set_value_at, keys-insert_entry, rising-insert_key}
use Rattle.ax_base.proofs.Repeats.{no_repeats-nil}
use Rattle.ax_dom.specs.NodeMaps.{cell_of}
use Rattle.ax_dom.specs.Places.{placed}
use Rattle.ax_dom.specs.Changes.{with_children, inserted}
use Rattle.ax_dom.proofs.Counted.{length-put}
use Rattle.ax_dom.proofs.Placed.{placed_cases, placed_keeps, placed_has, placed_once}

module _ (d : Document) (t : IsTree d) (id into : ℕ) (before : Option ℕ) (b : Body) (new : has d id ≡ false) (old : has d into ≡ true) (low : t.level into ≤ 63) (element : is_text (body d into) ≡ false) (room : length (ids d) ≤ 65536) (fit : IsFitting b) (right : KeepsRuns b) (near : HasRectsWithin b) where
  abbrev e : Document
  e = inserted d id into before b

  abbrev list : List ℕ
  list = placed before id (children d into)

  abbrev node_after : Bool → Bool → Option Node → Option Node
  node_after is_new is_into o = cond is_new (Some (record { body = b; children = [] })) (cond is_into (Some (record { body = body d into; children = list })) o)

  node_is : (q : ℕ) → node e q ≡ node_after (finds q id) (finds into q) (node d q)
  node_is q =
      lookup-insert_entry q id (record { body = b; children = [] }) (with_children d into list)
      ∙ ap (λ o. cond (finds q id) (Some (record { body = b; children = [] })) o) (lookup-set_value_at q into (record { body = body d into; children = list }) d.nodes old)

  abbrev nodes_after : Bool → Bool → List ℕ → List ℕ
  nodes_after is_new is_into cs = cond is_new [] (cond is_into list cs)

  pub children_is : (q : ℕ) → children e q ≡ nodes_after (finds q id) (finds into q) (children d q)
  children_is q = ap (λ o. option_map_or (λ (x : Node). x.children) o []) (node_is q) ∙ go (finds q id) (finds into q)
    where
      go : (x y : Bool) → option_map_or (λ (x : Node). x.children) (node_after x y (node d q)) [] ≡ nodes_after x y (children d q)
      go true y = refl
      go false true = refl
      go false false = refl

  -- a child is an old one of its parent, or the new one
  child_cases : (p c : ℕ) → IsChild e p c → IsChild d p c ⊎ ((p ≡ into) × (c ≡ id))
  child_cases p c child = go (finds p id) (finds into p) refl (subst (λ xs. Contains xs c) (children_is p) child)
    where
      go : (x y : Bool) → finds into p ≡ y → Contains (nodes_after x y (children d p)) c → IsChild d p c ⊎ ((p ≡ into) × (c ≡ id))
      go true y is inside = absurd (omega arith)
      go false true is inside =
          let same : into ≡ p = found_is into p is in
          elim (placed_cases before id c (children d into) inside) [ inl was ↦ inl (subst (λ q. IsChild d q c) same was) | inr new ↦ inr (sym same, new) ]
      go false false is inside = inl inside

  -- a node of the old document is not the new one
  pub old_apart : (q : ℕ) → has d q ≡ true → finds q id ≡ false
  old_apart q there = elim (finds_tells q id) [ inl (_, same) ↦ absurd (false≢true (sym new ∙ ap (has d) (sym same) ∙ there)) | inr (off, _) ↦ off ]

  pub into_apart : finds into id ≡ false
  into_apart = old_apart into old

  child_kept : (p c : ℕ) → IsChild d p c → IsChild e p c
  child_kept p c child = subst (λ xs. Contains xs c) (sym (children_is p)) (go (finds p id) (finds into p) (old_apart p (has_children d p c child)) refl)
    where
      go : (x y : Bool) → x ≡ false → finds into p ≡ y → Contains (nodes_after x y (children d p)) c
      go true y off is = absurd (false≢true (sym off))
      go false true off is = let same : into ≡ p = found_is into p is in placed_keeps before id c (children d into) (subst (λ q. IsChild d q c) (sym same) child)
      go false false off is = child

  child_new : IsChild e into id
  child_new = subst (λ xs. Contains xs id) (sym (children_is into))
      (let off = into_apart in let on = finds_same into into refl in rw (off, on) (placed_has before id (children d into)))

  pub has_new : has e id ≡ true
  has_new = let on = finds_same id id refl in ap is_some (node_is id) ∙ ap (λ x. is_some (node_after x (finds into id) (node d id))) on

  pub has_kept : (q : ℕ) → has d q ≡ true → has e q ≡ true
  has_kept q there = ap is_some (node_is q) ∙ go (finds q id) (finds into q)
    where
      go : (x y : Bool) → is_some (node_after x y (node d q)) ≡ true
      go true y = refl
      go false true = refl
      go false false = there

  pub has_cases : (q : ℕ) → has e q ≡ true → (q ≡ id) ⊎ (has d q ≡ true)
  has_cases q there = go (finds q id) (finds into q) refl refl (sym (ap is_some (node_is q)) ∙ there)
    where
      go : (x y : Bool) → finds q id ≡ x → finds into q ≡ y → is_some (node_after x y (node d q)) ≡ true → (q ≡ id) ⊎ (has d q ≡ true)
      go true y is_new is_into some = inl (found_is q id is_new)
      go false true is_new is_into some = inr (ap (has d) (sym (found_is into q is_into)) ∙ old)
      go false false is_new is_into some = inr some

  pub body_kept : (q : ℕ) → has d q ≡ true → body e q ≡ body d q
  body_kept q there = ap (λ o. option_map_or (λ (x : Node). x.body) o (Words [] [])) (node_is q) ∙ go (finds q id) (finds into q) (old_apart q there) refl
    where
      go : (x y : Bool) → x ≡ false → finds into q ≡ y → option_map_or (λ (x : Node). x.body) (node_after x y (node d q)) (Words [] []) ≡ body d q
      go true y off is = absurd (false≢true (sym off))
      go false true off is = ap (body d) (found_is into q is)
      go false false off is = refl

  body_new : body e id ≡ b
  body_new = ap (λ o. option_map_or (λ (x : Node). x.body) o (Words [] [])) (node_is id) ∙ ap (λ x. option_map_or (λ (x : Node). x.body) (node_after x (finds into id) (node d id)) (Words [] [])) (finds_same id id refl)

  -- what the new body and the old ones have
  each_after : (P : Body → Type 0) → P b → ((q : ℕ) → P (body d q)) → (q : ℕ) → P (body e q)
  each_after P new old q = subst P (sym (ap (λ o. option_map_or (λ (x : Node). x.body) o (Words [] [])) (node_is q))) (go (finds q id) (finds into q))
    where
      go : (x y : Bool) → P (option_map_or (λ (x : Node). x.body) (node_after x y (node d q)) (Words [] []))
      go true y = new
      go false true = old into
      go false false = old q

  not_there : IsChild d into id → ⊥
  not_there child = false≢true (sym new ∙ t.known into id child)

  once_after : (q : ℕ) → HasNoRepeats (children e q)
  once_after q = subst HasNoRepeats (sym (children_is q)) (go (finds q id) (finds into q))
    where
      go : (x y : Bool) → HasNoRepeats (nodes_after x y (children d q))
      go true y = no_repeats-nil
      go false true = placed_once before id (children d into) not_there (t.once into)
      go false false = t.once q

  bare_after : (q : ℕ) → is_text (body e q) ≡ true → children e q ≡ []
  bare_after q text = children_is q ∙ go (finds q id) (finds into q) refl (sym (ap (λ o. is_text (option_map_or (λ (x : Node). x.body) o (Words [] []))) (node_is q)) ∙ text)
    where
      go : (x y : Bool) → finds into q ≡ y → is_text (option_map_or (λ (x : Node). x.body) (node_after x y (node d q)) (Words [] [])) ≡ true → nodes_after x y (children d q) ≡ []
      go true y is text = refl
      go false true is text = absurd (false≢true (sym element ∙ text))
      go false false is text = t.bare q text

  ids_after : ids e ≡ insert_key nat_cmp (ids d) id
  ids_after = keys-insert_entry (with_children d into list) id (record { body = b; children = [] }) ∙ ap (λ ks. insert_key nat_cmp ks id) (keys-set_value (is_at (nat_cmp into)) d.nodes (record { body = body d into; children = list }))

  rising_after : IsStrictlyIncreasing (ids e)
  rising_after = subst IsStrictlyIncreasing (sym ids_after) (rising-insert_key id (ids d) t.rising)

  -- one node more
  few_after : length (ids e) ≤ 65537
  few_after =
      let more = length-put id (ids d) (sym (is_some-lookup (is_at (nat_cmp id)) d.nodes) ∙ new) in
      let same = ap (λ (ks : List ℕ). length ks) ids_after in
      omega arith

  abbrev level_after : ℕ → ℕ
  level_after q = cond (finds q id) (suc (t.level into)) (t.level q)

  level_kept : (q : ℕ) → has d q ≡ true → level_after q ≡ t.level q
  level_kept q there = ap (λ x. cond x (suc (t.level into)) (t.level q)) (old_apart q there)

  level_new : level_after id ≡ suc (t.level into)
  level_new = ap (λ x. cond x (suc (t.level into)) (t.level id)) (finds_same id id refl)

  pub tree_after : IsTree e
  tree_after = record {
    level = level_after;
    has_root = has_kept root t.has_root;
    root_level = level_kept root t.has_root ∙ t.root_level;
    root_element = ap is_text (body_kept root t.has_root) ∙ t.root_element;
    known = λ n c child. elim (child_cases n c child) [ inl was ↦ has_kept c (t.known n c was) | inr (_, is) ↦ ap (has e) is ∙ has_new ];
    deeper = λ n c child. elim (child_cases n c child) [
      | inl was ↦ level_kept c (t.known n c was) ∙ t.deeper n c was ∙ ap suc (sym (level_kept n (has_children d n c was)))
      | inr (at, is) ↦ ap level_after is ∙ level_new ∙ ap suc (sym (ap level_after at ∙ level_kept into old))
    ];
    shallow = λ n. elim (finds n id) as (λ x. cond x (suc (t.level into)) (t.level n) ≤ 64) [ true ↦ omega arith | false ↦ t.shallow n ];
    one_parent = λ m n c child other. elim (child_cases m c child) [
      | inl was ↦ elim (child_cases n c other) [
        | inl too ↦ t.one_parent m n c was too
        | inr (_, is) ↦ absurd (false≢true (sym new ∙ ap (has d) (sym is) ∙ t.known m c was))
      ]
      | inr (at, is) ↦ elim (child_cases n c other) [
        | inl too ↦ absurd (false≢true (sym new ∙ ap (has d) (sym is) ∙ t.known n c too))
        | inr (at', _) ↦ at ∙ sym at'
      ]
    ];
    hung = λ n there top. elim (has_cases n there) [
      | inl is ↦ (into, subst (IsChild e into) (sym is) child_new)
      | inr was ↦ ((t.hung n was top).0, child_kept (t.hung n was top).0 n (t.hung n was top).1)
    ];
    once = once_after;
    bare = bare_after;
    rising = rising_after;
    few = few_after;
    fits = each_after IsFitting fit t.fits;
    runs = each_after KeepsRuns right t.runs;
    within = each_after HasRectsWithin near t.within;
    focused = λ n some. has_kept n (t.focused n some);
  }

  pub parent_kept : (q : ℕ) → has d q ≡ true → parent e q ≡ parent d q
  parent_kept q there = elim (eqb_tells q root) [ inl (_, is) ↦ at_root is | inr (_, apart) ↦ below apart ]
    where
      at_root : q ≡ root → parent e q ≡ parent d q
      at_root is = ap (parent e) is ∙ parent-root e tree_after ∙ sym (ap (parent d) is ∙ parent-root d t)

      below : q ≢ root → parent e q ≡ parent d q
      below apart =
          let p : ℕ = (t.hung q there apart).0 in
          let child : IsChild d p q = (t.hung q there apart).1 in
          parent-child e tree_after p q (child_kept p q child) ∙ sym (parent-child d t p q child)

  depth_kept : (q : ℕ) → has d q ≡ true → depth e q ≡ depth d q
  unfolding tree_after
  depth_kept q there = depth-level e tree_after q (has_kept q there) ∙ level_kept q there ∙ sym (depth-level d t q there)

  depth_new : depth e id ≡ suc (depth d into)
  unfolding tree_after
  depth_new = depth-level e tree_after id has_new ∙ level_new ∙ ap suc (sym (depth-level d t into old))

  pub cell_kept : (q : ℕ) → has d q ≡ true → cell_of d q ≡ cell_of e q
  cell_kept q there = λ i. record { id = q; parent = sym (parent_kept q there) i; depth = sym (depth_kept q there) i; body = sym (body_kept q there) i }

  pub cell_new : record { id = id; parent = Some into; depth = depth d into + 1; body = b } ≡ cell_of e id
  cell_new = λ i. record { id = id; parent = sym (parent-child e tree_after into id child_new) i; depth = (add-one (depth d into) ∙ sym depth_new) i; body = sym body_new i }
