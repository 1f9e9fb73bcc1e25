-- A node is an object just where it is there, is not out and is not ignored.
use Rattle.std.proofs.Common.{◌≡◌, inl, inr, ℕ, zero, suc, ◌≤◌, [], ◌∷◌, Bool, true, false, cond, Contains, refl, sym, ap, subst, ◌∙◌, arith}
use Rattle.std.specs.List.{list_any}
use Rattle.std.proofs.lemmas.Bool.{or_parts, or_from}
use Rattle.std.proofs.lemmas.Bool.Decides.{eqb_tells}
use Rattle.ax_base.specs.Document.{Document, has, root, spot, children, lineage, ancestors, IsChild}
use Rattle.ax_base.specs.Trees.{IsTree}
use Rattle.ax_base.specs.Roles.{hides, prunes, ignored}
use Rattle.ax_base.specs.Context.{is_out, is_shut, is_hidden, is_presentational_descendant}
use Rattle.ax_base.specs.Kids.{kids, taken, objects}
use Rattle.ax_base.proofs.Joins.{Contains-flat_map}
use Rattle.ax_base.proofs.KidsLaws.{out-child, kids-children, lineage-ancestors, root_visible}
use Rattle.ax_base.proofs.Membership.{Contains-head}
use Rattle.ax_base.proofs.Objects.{kids_are_objects, root_is_object, objects_hung, kids_visible}
use Rattle.ax_base.proofs.Places.{has_children}

module _ (d : Document) (t : IsTree d) where
  -- what is above a node that is not out is not out
  parent_visible : (p n : ℕ) → IsChild d p n → is_out d n ≡ false → is_out d p ≡ false
  parent_visible p n child visible =
      let shut = (or_parts (hides (spot d n)) (is_shut d p) (sym (out-child d t p n child) ∙ visible)).1 in
      let parts = or_parts (is_hidden d p) (list_any (λ a. prunes (spot d a)) (lineage d p)) shut in
      let above = or_parts (prunes (spot d p)) (list_any (λ a. prunes (spot d a)) (ancestors d p)) (ap (list_any (λ a. prunes (spot d a))) (sym (lineage-ancestors d t p (has_children d p n child))) ∙ parts.1) in
      or_from (is_hidden d p) (is_presentational_descendant d p) parts.0 above.1

  -- what a child gives, its parent has among its kids
  gives : (p n k : ℕ) → IsChild d p n → Contains (taken d n) k → Contains (kids d p) k
  gives p n k child inside = subst (λ l. Contains l k) (sym (kids-children d t p)) (Contains-flat_map (taken d) (children d p) n k child inside)

  taken_as : (n : ℕ) (b : Bool) → is_out d n ≡ false → ignored (spot d n) ≡ b → taken d n ≡ cond b (kids d n) (n ∷ [])
  taken_as n b visible is = λ i. cond (visible i) [] (cond (is i) (kids d n) (n ∷ []))

  abbrev HasHolder : ℕ → Type 0
  HasHolder n = (q : ℕ) × Contains (objects d) q × ((k : ℕ) → Contains (kids d n) k → Contains (kids d q) k)

  step : (p n : ℕ) → IsChild d p n → is_out d n ≡ false → HasHolder p → HasHolder n
  step p n child visible (q, object, more) = go (ignored (spot d n)) refl
    where
      go : (b : Bool) → ignored (spot d n) ≡ b → HasHolder n
      go true is = (q, object, λ k inside. more k (gives p n k child (subst (λ l. Contains l k) (sym (taken_as n true visible is)) inside)))
      go false is = (n, kids_are_objects d t q n object (more n (gives p n n child (subst (λ l. Contains l n) (sym (taken_as n false visible is)) (Contains-head n [])))), λ k inside. inside)

  holder_above : (l n : ℕ) → t.level n ≤ l → has d n ≡ true → is_out d n ≡ false → HasHolder n
  holder_above zero n low there visible = elim (eqb_tells n root) [
    | inl (_, is) ↦ (root, root_is_object d t, λ k inside. subst (λ x. Contains (kids d x) k) is inside)
    | inr (_, apart) ↦ (let up = t.hung n there apart in let e = t.deeper up.0 n up.1 in absurd (omega arith))
  ]
  holder_above (suc l) n low there visible = elim (eqb_tells n root) [
    | inl (_, is) ↦ (root, root_is_object d t, λ k inside. subst (λ x. Contains (kids d x) k) is inside)
    | inr (_, apart) ↦ (let up = t.hung n there apart in let e = t.deeper up.0 n up.1 in
        step up.0 n up.1 visible (holder_above l up.0 (omega arith) (has_children d up.0 n up.1) (parent_visible up.0 n up.1 visible)))
  ]

  pub object_from : (n : ℕ) → has d n ≡ true → is_out d n ≡ false → ignored (spot d n) ≡ false → Contains (objects d) n
  object_from n there visible shown = elim (eqb_tells n root) [
    | inl (_, is) ↦ subst (Contains (objects d)) (sym is) (root_is_object d t)
    | inr (_, apart) ↦
        (let up = t.hung n there apart in
        let q = holder_above (t.level up.0) up.0 (omega arith) (has_children d up.0 n up.1) (parent_visible up.0 n up.1 visible) in
        kids_are_objects d t q.0 n q.1 (q.2 n (gives up.0 n n up.1 (subst (λ l. Contains l n) (sym (taken_as n false visible shown)) (Contains-head n [])))))
  ]

  pub objects_visible : (n : ℕ) → Contains (objects d) n → is_out d n ≡ false
  objects_visible n object = elim (objects_hung d t n object) [
    | inl is ↦ ap (is_out d) (sym is) ∙ root_visible d t
    | inr (p, up, kid) ↦ kids_visible d t p n kid
  ]
