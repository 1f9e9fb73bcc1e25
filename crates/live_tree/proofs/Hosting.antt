-- The objects on which the children of nodes hang.
use Rattle.std.proofs.Common.{◌≡◌, inl, inr, ℕ, zero, suc, ◌-◌, ◌+◌, ◌<◌, ◌≤◌, length, get_or, take, List, [], ◌∷◌, ◌++◌, Bool, true, false, cond, not, ◌&&◌, ◌||◌, Option, Some, None, Contains, refl, sym, ap, subst, ◌∙◌, eqb, arith}
use Rattle.std.specs.Prelude.{nat_eq}
use Rattle.std.specs.Option.{option_map_or}
use Rattle.std.specs.Ordering.{nat_cmp}
use Rattle.std.specs.BTreeMap.{insert_entry}
use Rattle.std.specs.Cmp.{nat_eq_equiv}
use Rattle.std.proofs.lemmas.Bool.{eqb-true, false≢true}
use Rattle.std.proofs.lemmas.Bool.Decides.{eqb_tells}
use Rattle.std.proofs.lemmas.List.{take_more}
use Rattle.std.proofs.lemmas.Map.Views.{list_any-from_Contains}
use Rattle.ax_base.specs.Document.{Document, has, root, parent, spot, children, IsChild}
use Rattle.ax_base.specs.Context.{is_out}
use Rattle.ax_base.specs.Roles.{ignored}
use Rattle.ax_base.specs.Trees.{IsTree}
use Rattle.ax_base.specs.Kids.{kids, taken, objects}
use Rattle.ax_base.proofs.Lookups.{finds_is, lookup-insert_entry}
use Rattle.ax_base.proofs.Joins.{Contains-cases, in_flat_map}
use Rattle.ax_base.proofs.KidsLaws.{kids-children}
use Rattle.ax_base.proofs.Objects.{objects_shown, objects_hung, root_is_object}
use Rattle.ax_base.proofs.Places.{parent-child, parent-root}
use Rattle.ax_dom.specs.Among.{is_in}
use Rattle.ax_fresh.proofs.Above.{find_above, find_here}
use Rattle.ax_record.specs.Records.{object_parent, is_object}
use Rattle.ax_record.proofs.TreeOf.{object_is, is_one, object_parent_is, object_parent-root}
use Rattle.node_order.specs.Orders.{IsFromAbove}
use Rattle.live_tree.specs.Hosts.{host, host_at, host_below, host_above, host_kept, AreHostsOf}

-- one element more behind some
in_more : (xs : List ℕ) (y n : ℕ) → is_in (xs ++ y ∷ []) n ≡ (is_in xs n || eqb n y)
in_more [] y n = go (eqb n y)
  where
    go : (b : Bool) → (b || false) ≡ (false || b)
    go true = refl
    go false = refl
in_more (x ∷ xs) y n = ap (λ b. eqb n x || b) (in_more xs y n) ∙ go (eqb n x)
  where
    go : (a : Bool) → (a || (is_in xs n || eqb n y)) ≡ ((a || is_in xs n) || eqb n y)
    go true = refl
    go false = refl

module _ (d : Document) (t : IsTree d) where
  shut : (n : ℕ) → ignored (spot d n) ≡ true → is_object d n ≡ false
  shut n is = go (is_object d n) refl
    where
      go : (b : Bool) → is_object d n ≡ b → b ≡ false
      go true on = absurd (false≢true (sym (objects_shown d t n (object_is d t n on)) ∙ is))
      go false off = refl

  by_child : (r n p c : ℕ) → IsChild d p n → IsChild d r c → (Contains (kids d c) n → host d p ≡ host d c) → (a b : Bool) → ignored (spot d c) ≡ b → Contains (cond a [] (cond b (kids d c) (c ∷ []))) n → host d p ≡ host d r
  by_child r n p c up child deeper true b is inside = absurd (omega arith)
  by_child r n p c up child deeper false true is inside = deeper inside ∙ find_above d t (is_object d) c r (parent-child d t r c child) (shut c is)
  by_child r n p c up child deeper false false is inside = elim (Contains-cases n c [] inside) [
    | inl same ↦ ap (host d) (t.one_parent p r n up (subst (IsChild d r) same child))
    | inr none ↦ absurd (omega arith)
  ]

  -- what is among the kids of a node hangs below a node with the same host
  under : (l r n p : ℕ) → 64 - t.level r ≤ l → Contains (kids d r) n → IsChild d p n → host d p ≡ host d r
  under zero r n p low kid up =
      let c = in_flat_map (taken d) (children d r) n (subst (λ l. Contains l n) (kids-children d t r) kid) in
      by_child r n p c.0 up c.1 (λ below. let deep = t.deeper r c.0 c.1 in let shallow = t.shallow c.0 in absurd (omega arith)) (is_out d c.0) (ignored (spot d c.0)) refl c.2
  under (suc l) r n p low kid up =
      let c = in_flat_map (taken d) (children d r) n (subst (λ l. Contains l n) (kids-children d t r) kid) in
      by_child r n p c.0 up c.1 (λ below. let deep = t.deeper r c.0 c.1 in let shallow = t.shallow c.0 in under l c.0 n p (omega arith) below up) (is_out d c.0) (ignored (spot d c.0)) refl c.2

  -- an object hangs on the host of its parent
  pub object_parent_host : (n p : ℕ) → Contains (objects d) n → IsChild d p n → object_parent d n ≡ host d p
  object_parent_host n p object up = elim (objects_hung d t n object) [
    | inl is ↦ (let deep = t.deeper p n up in let low = t.root_level in let same : t.level root ≡ t.level n = ap t.level is in absurd (omega arith))
    | inr (q, one, kid) ↦ object_parent_is d t q n one kid ∙ sym (find_here d (is_object d) q (is_one d t q one)) ∙ sym (under (64 - t.level q) q n p (omega arith) kid up)
  ]

  module _ (hosts : List (ℕ × Option ℕ)) (n : ℕ) (there : has d n ≡ true) (kept : (p : ℕ) → IsChild d p n → host_at hosts p ≡ host_kept d p) where
    below_is : (p : ℕ) → IsChild d p n → host_below hosts p ≡ host d p
    below_is p up = ap (λ o. option_map_or (λ (h : Option ℕ). h) o (Some p)) (kept p up) ∙ go (is_object d p) refl
      where
        go : (b : Bool) → is_object d p ≡ b → option_map_or (λ (h : Option ℕ). h) (cond (not b) (Some (host d p)) None) (Some p) ≡ host d p
        go true on = sym (find_here d (is_object d) p on)
        go false off = refl

    above_is : (p : ℕ) → IsChild d p n → host_above hosts (parent d n) ≡ host d p
    above_is p up = ap (host_above hosts) (parent-child d t p n up) ∙ below_is p up

    -- an object hangs on what is kept of its parent
    pub object_hangs : (above : Option ℕ) → above ≡ host_above hosts (parent d n) → is_object d n ≡ true → above ≡ object_parent d n
    object_hangs above is on = is ∙ elim (eqb_tells n root) [
      | inl (_, same) ↦ ap (host_above hosts) (ap (parent d) same ∙ parent-root d t) ∙ sym (object_parent-root d t) ∙ ap (object_parent d) (sym same)
      | inr (_, apart) ↦ (let up = t.hung n there apart in above_is up.0 up.1 ∙ sym (object_parent_host n up.0 (object_is d t n on) up.1))
    ]

    -- the children of any other node hang on the same
    pub other_hangs : (above : Option ℕ) → above ≡ host_above hosts (parent d n) → is_object d n ≡ false → above ≡ host d n
    other_hangs above is off = elim (eqb_tells n root) [
      | inl (_, same) ↦ absurd (false≢true (sym off ∙ ap (is_object d) same ∙ is_one d t root (root_is_object d t)))
      | inr (_, apart) ↦ (let up = t.hung n there apart in is ∙ above_is up.0 up.1 ∙ sym (find_above d t (is_object d) n up.0 (parent-child d t up.0 n up.1) off))
    ]

  -- one node more
  pub one_kept : (old new : List (ℕ × Option ℕ)) (n : ℕ) (above : Option ℕ) → is_object d n ≡ false → above ≡ host d n → new ≡ insert_entry nat_cmp old n above
      → (q : ℕ) → host_at new q ≡ cond (nat_eq q n && not (is_object d n)) (Some (host d n)) (host_at old q)
  one_kept old new n above off is put q =
      ap (λ es. host_at es q) put
      ∙ lookup-insert_entry q n above old
      ∙ ap (λ b. cond b (Some above) (host_at old q)) (finds_is q n)
      ∙ (λ i. cond (eqb q n) (Some (is i)) (host_at old q))
      ∙ ap (λ b. cond b (Some (host d n)) (host_at old q)) (go (eqb q n))
      ∙ ap (λ b. cond (eqb q n && not b) (Some (host d n)) (host_at old q)) (sym off)
    where
      go : (b : Bool) → b ≡ (b && true)
      go true = refl
      go false = refl

  -- an object is none more
  pub none_kept : (old : List (ℕ × Option ℕ)) (n : ℕ) → is_object d n ≡ true → (q : ℕ) → host_at old q ≡ cond (nat_eq q n && not (is_object d n)) (Some (host d n)) (host_at old q)
  none_kept old n on q = go (eqb q n) ∙ ap (λ b. cond (eqb q n && not b) (Some (host d n)) (host_at old q)) (sym on)
    where
      go : (b : Bool) → host_at old q ≡ cond (b && false) (Some (host d n)) (host_at old q)
      go true = refl
      go false = refl

  pub hosts_more : (ns : List ℕ) (i x : ℕ) (old new : List (ℕ × Option ℕ)) → i < length ns → x ≡ get_or ns i x → AreHostsOf d (take i ns) old
      → ((q : ℕ) → host_at new q ≡ cond (nat_eq q x && not (is_object d x)) (Some (host d x)) (host_at old q)) → AreHostsOf d (take (i + 1) ns) new
  hosts_more ns i x old new low is before step q =
      step q
      ∙ same (eqb q x) refl
      ∙ ap (λ o. cond (eqb q x && not (is_object d q)) (Some (host d q)) o) (before q)
      ∙ go (eqb q x) (is_in (take i ns) q) (is_object d q)
      ∙ ap (λ b. cond (b && not (is_object d q)) (Some (host d q)) None) (sym (in_more (take i ns) x q) ∙ ap (λ l. is_in l q) (ap (λ y. take i ns ++ y ∷ []) is ∙ sym (take_more ns i x low)))
    where
      same : (b : Bool) → eqb q x ≡ b → cond (b && not (is_object d x)) (Some (host d x)) (host_at old q) ≡ cond (b && not (is_object d q)) (Some (host d q)) (host_at old q)
      same true e = ap (λ y. cond (true && not (is_object d y)) (Some (host d y)) (host_at old q)) (sym (eqb-true q x e))
      same false e = refl

      go : (e a o : Bool) → cond (e && not o) (Some (host d q)) (cond (a && not o) (Some (host d q)) None) ≡ cond ((a || e) && not o) (Some (host d q)) None
      go true true true = refl
      go true true false = refl
      go true false true = refl
      go true false false = refl
      go false true true = refl
      go false true false = refl
      go false false true = refl
      go false false false = refl

  -- of the parent of the node at hand is kept what should be
  pub parent_kept : (ns : List ℕ) → IsFromAbove d ns → (i x : ℕ) (hosts : List (ℕ × Option ℕ)) → i < length ns → x ≡ get_or ns i x → AreHostsOf d (take i ns) hosts → (p : ℕ) → IsChild d p x → host_at hosts p ≡ host_kept d p
  parent_kept ns order i x hosts low is are p up = are p ∙ ap (λ b. cond (b && not (is_object d p)) (Some (host d p)) None) (order.behind i p x low is up)

-- the node at hand is one of the document
pub node_known : (d : Document) (ns : List ℕ) → IsFromAbove d ns → (i x : ℕ) → i < length ns → x ≡ get_or ns i x → has d x ≡ true
node_known d ns order i x low is = order.known x (list_any-from_Contains nat_eq_equiv x ns (i, low, sym is))
