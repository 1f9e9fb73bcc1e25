-- A document without a node and all below it is a tree.
use Rattle.std.proofs.Common.{◌≡◌, ◌≢◌, inl, inr, ℕ, List, [], length, Bool, true, false, cond, not, Option, Some, None, is_some, Contains, refl, sym, ap, subst, ◌∙◌, arith}
use Rattle.std.specs.Prelude.{filter}
use Rattle.std.specs.Option.{option_map, option_map_or}
use Rattle.std.specs.Ordering.{nat_cmp}
use Rattle.std.specs.BTreeMap.{is_at}
use Rattle.std.specs.Cmp.{nat_eq_equiv}
use Rattle.std.specs.List.Sorted.{IsStrictlyIncreasing}
use Rattle.std.proofs.lemmas.Bool.{false≢true, eqb-true}
use Rattle.std.proofs.lemmas.Bool.Decides.{eqb_tells}
use Rattle.std.proofs.lemmas.List.Kept.{IsStrictlyIncreasing-filter}
use Rattle.std.proofs.lemmas.Map.Entries.{lookup-filter-keys}
use Rattle.std.proofs.lemmas.Map.Made.{lookup-map_values, keys_of-map_values}
use Rattle.std.proofs.lemmas.Map.Views.{Contains-from_any, list_any-from_Contains}
use Rattle.ax_base.specs.declared.body.Body.TheVariants.{Words}
use Rattle.ax_base.specs.declared.body.Body.{Body}
use Rattle.ax_base.specs.Document.{Document, Node, node, has, root, children, body, is_text, ids, IsChild}
use Rattle.ax_base.specs.Rects.{HasRectsWithin}
use Rattle.ax_base.specs.Runs.{KeepsRuns}
use Rattle.ax_base.specs.Texts.{IsFitting}
use Rattle.ax_base.specs.Trees.{IsTree, HasNoRepeats}
use Rattle.ax_base.proofs.Membership.{fewer_pass}
use Rattle.ax_base.proofs.Lookups.{found_is}
use Rattle.ax_base.proofs.Repeats.{no_repeats-nil}
use Rattle.ax_dom.specs.NodeMaps.{cell_of}
use Rattle.ax_dom.specs.Places.{without}
use Rattle.ax_dom.specs.Subtrees.{subtree, is_within}
use Rattle.ax_dom.specs.Changes.{unhung, focus_without, removed}
use Rattle.ax_dom.proofs.Agreement.{cells_agree}
use Rattle.ax_dom.proofs.Bounded.{no_runs_within}
use Rattle.ax_dom.proofs.Fitting.{nothing_fits}
use Rattle.ax_dom.proofs.SameEntries.{keys-filter}
use Rattle.ax_dom.proofs.Subtrees.{subtree_has, within_child, root_apart, outside_child}
use Rattle.ax_dom.proofs.Without.{without_cases, without_keeps, without_once}

-- a node that is hung nowhere else than it was, without n among its children
abbrev pub unhung_node : ℕ → Node → Node
unhung_node n x = record { body = x.body; children = without n x.children }

module _ (d : Document) (n : ℕ) where
  pub within_is : (q : ℕ) → is_within d n q ≡ true → Contains (subtree d n) q
  within_is q on = Contains-from_any eqb-true q (subtree d n) on

  pub is_within_from : (q : ℕ) → Contains (subtree d n) q → is_within d n q ≡ true
  is_within_from q inside = list_any-from_Contains nat_eq_equiv q (subtree d n) inside

  pub not_within : (q : ℕ) → is_within d n q ≡ false → Contains (subtree d n) q → ⊥
  not_within q off inside = false≢true (sym off ∙ is_within_from q inside)

  pub outside_from : (q : ℕ) → (Contains (subtree d n) q → ⊥) → is_within d n q ≡ false
  outside_from q out = go (is_within d n q) refl
    where
      go : (x : Bool) → is_within d n q ≡ x → x ≡ false
      go true on = absurd (out (within_is q on))
      go false off = refl

module _ (d : Document) (t : IsTree d) (n : ℕ) (apart : n ≢ root) where
  abbrev e : Document
  e = removed d n

  pub node_left : (q : ℕ) → node e q ≡ cond (not (is_within d n q)) (option_map (unhung_node n) (node d q)) None
  node_left q =
      lookup-filter-keys (is_at (nat_cmp q)) (λ k. not (is_within d n k)) (not (is_within d n q)) (λ k found. ap (λ j. not (is_within d n j)) (sym (found_is q k found))) (unhung n d.nodes)
      ∙ ap (λ o. cond (not (is_within d n q)) o None) (lookup-map_values (unhung_node n) (is_at (nat_cmp q)) d.nodes)

  node_outside : (q : ℕ) → is_within d n q ≡ false → node e q ≡ option_map (unhung_node n) (node d q)
  node_outside q off = node_left q ∙ ap (λ b. cond (not b) (option_map (unhung_node n) (node d q)) None) off

  node_inside : (q : ℕ) → is_within d n q ≡ true → node e q ≡ None
  node_inside q on = node_left q ∙ ap (λ b. cond (not b) (option_map (unhung_node n) (node d q)) None) on

  is_some-map : (o : Option Node) → is_some (option_map (unhung_node n) o) ≡ is_some o
  is_some-map None = refl
  is_some-map (Some x) = refl

  children-map : (o : Option Node) → option_map_or (λ (x : Node). x.children) (option_map (unhung_node n) o) [] ≡ without n (option_map_or (λ (x : Node). x.children) o [])
  children-map None = refl
  children-map (Some x) = refl

  body-map : (o : Option Node) → option_map_or (λ (x : Node). x.body) (option_map (unhung_node n) o) (Words [] []) ≡ option_map_or (λ (x : Node). x.body) o (Words [] [])
  body-map None = refl
  body-map (Some x) = refl

  pub has_outside : (q : ℕ) → is_within d n q ≡ false → has e q ≡ has d q
  has_outside q off = ap is_some (node_outside q off) ∙ is_some-map (node d q)

  pub children_outside : (q : ℕ) → is_within d n q ≡ false → children e q ≡ without n (children d q)
  children_outside q off = ap (λ o. option_map_or (λ (x : Node). x.children) o []) (node_outside q off) ∙ children-map (node d q)

  children_inside : (q : ℕ) → is_within d n q ≡ true → children e q ≡ []
  children_inside q on = ap (λ o. option_map_or (λ (x : Node). x.children) o []) (node_inside q on)

  pub body_outside : (q : ℕ) → is_within d n q ≡ false → body e q ≡ body d q
  body_outside q off = ap (λ o. option_map_or (λ (x : Node). x.body) o (Words [] [])) (node_outside q off) ∙ body-map (node d q)

  body_inside : (q : ℕ) → is_within d n q ≡ true → body e q ≡ Words [] []
  body_inside q on = ap (λ o. option_map_or (λ (x : Node). x.body) o (Words [] [])) (node_inside q on)

  -- what is there is not within the node
  pub left_outside : (q : ℕ) → has e q ≡ true → is_within d n q ≡ false
  left_outside q there = go (is_within d n q) refl
    where
      go : (x : Bool) → is_within d n q ≡ x → x ≡ false
      go true on = absurd (false≢true (ap is_some (sym (node_inside q on)) ∙ there))
      go false off = refl

  -- a child was one, and neither it nor its parent is within the node
  child_left : (p c : ℕ) → IsChild e p c → (is_within d n p ≡ false) × IsChild d p c × (c ≢ n) × (is_within d n c ≡ false)
  child_left p c child = go (is_within d n p) refl
    where
      go : (x : Bool) → is_within d n p ≡ x → (is_within d n p ≡ false) × IsChild d p c × (c ≢ n) × (is_within d n c ≡ false)
      go true on = absurd (nothing (subst (λ xs. Contains xs c) (children_inside p on) child))
        where
          nothing : Contains [] c → ⊥
          nothing inside = omega arith
      go false off =
          let was = without_cases n c (children d p) (subst (λ xs. Contains xs c) (children_outside p off) child) in
          (off, was.0, was.1, outside_from d n c (outside_child d t n p c was.0 (not_within d n p off) was.1))

  child_stays : (p c : ℕ) → IsChild d p c → is_within d n c ≡ false → IsChild e p c
  child_stays p c child off =
      let above : is_within d n p ≡ false = outside_from d n p (λ inside. not_within d n c off (within_child d t n p c inside child)) in
      subst (λ xs. Contains xs c) (sym (children_outside p above)) (without_keeps n c (children d p) child (λ same. not_within d n c off (subst (Contains (subtree d n)) (sym same) (subtree_has d t n))))

  root_outside : is_within d n root ≡ false
  root_outside = outside_from d n root (root_apart d t n apart)

  once_left : (q : ℕ) → HasNoRepeats (children e q)
  once_left q = go (is_within d n q) refl
    where
      go : (x : Bool) → is_within d n q ≡ x → HasNoRepeats (children e q)
      go true on = subst HasNoRepeats (sym (children_inside q on)) no_repeats-nil
      go false off = subst HasNoRepeats (sym (children_outside q off)) (without_once n (children d q) (t.once q))

  bare_left : (q : ℕ) → is_text (body e q) ≡ true → children e q ≡ []
  bare_left q text = go (is_within d n q) refl
    where
      go : (x : Bool) → is_within d n q ≡ x → children e q ≡ []
      go true on = children_inside q on
      go false off = children_outside q off ∙ ap (without n) (t.bare q (ap is_text (sym (body_outside q off)) ∙ text))

  -- what nothing and the old bodies have
  each_left : (P : Body → Type 0) → P (Words [] []) → ((q : ℕ) → P (body d q)) → (q : ℕ) → P (body e q)
  each_left P nothing old q = go (is_within d n q) refl
    where
      go : (x : Bool) → is_within d n q ≡ x → P (body e q)
      go true on = subst P (sym (body_inside q on)) nothing
      go false off = subst P (sym (body_outside q off)) (old q)

  pub ids_left : ids e ≡ filter (λ k. not (is_within d n k)) (ids d)
  ids_left = keys-filter (λ k. not (is_within d n k)) (unhung n d.nodes) ∙ ap (filter (λ k. not (is_within d n k))) (keys_of-map_values (unhung_node n) d.nodes)

  rising_left : IsStrictlyIncreasing (ids e)
  rising_left = subst IsStrictlyIncreasing (sym ids_left) (IsStrictlyIncreasing-filter (λ k. not (is_within d n k)) (ids d) t.rising)

  focused_left : (focus : Option ℕ) → ((f : ℕ) → focus ≡ Some f → has d f ≡ true) → (f : ℕ) → focus_without d n focus ≡ Some f → has e f ≡ true
  focused_left None was f some = cc
  focused_left (Some g) was f some = go (is_within d n g) refl some
    where
      go : (x : Bool) → is_within d n g ≡ x → cond x None (Some g) ≡ Some f → has e f ≡ true
      go true on some = cc
      go false off some = let same : g ≡ f = cc in has_outside f (ap (is_within d n) (sym same) ∙ off) ∙ was f (ap (λ x. Some x) same)

  pub tree_left : IsTree e
  tree_left = record {
    level = t.level;
    has_root = has_outside root root_outside ∙ t.has_root;
    root_level = t.root_level;
    root_element = ap is_text (body_outside root root_outside) ∙ t.root_element;
    known = λ p c child. let was = child_left p c child in has_outside c was.3 ∙ t.known p c was.1;
    deeper = λ p c child. t.deeper p c (child_left p c child).1;
    shallow = t.shallow;
    one_parent = λ p q c child other. t.one_parent p q c (child_left p c child).1 (child_left q c other).1;
    hung = λ q there top.
        let off = left_outside q there in
        let place = t.hung q (sym (has_outside q off) ∙ there) top in
        (place.0, child_stays place.0 q place.1 off);
    once = once_left;
    bare = bare_left;
    rising = rising_left;
    few = let fewer = fewer_pass (λ k. not (is_within d n k)) (ids d) in let same = ap (λ (ks : List ℕ). length ks) ids_left in let was = t.few in omega arith;
    fits = each_left IsFitting nothing_fits t.fits;
    runs = each_left KeepsRuns refl t.runs;
    within = each_left HasRectsWithin no_runs_within t.within;
    focused = λ f some. focused_left d.focus t.focused f some;
  }

  -- what is left keeps its cell
  pub cell_left : (q : ℕ) → has d q ≡ true → is_within d n q ≡ false → cell_of d q ≡ cell_of e q
  unfolding tree_left
  cell_left q there off = cells_agree d e t tree_left q there (has_outside q off ∙ there)
      (elim (eqb_tells q root) [ inl (_, is) ↦ inl is | inr (_, below) ↦ inr ((t.hung q there below).0, (t.hung q there below).1, child_stays (t.hung q there below).0 q (t.hung q there below).1 off) ])
      refl (sym (body_outside q off))

  pub left_was : (q : ℕ) → has e q ≡ true → (has d q ≡ true) × (is_within d n q ≡ false)
  left_was q there = (sym (has_outside q (left_outside q there)) ∙ there, left_outside q there)
