-- Kids, from children.
use Rattle.std.proofs.Common.{◌≡◌, ◌≢◌, inl, inr, ℕ, zero, suc, ◌-◌, ◌<◌, ◌≤◌, List, [], ◌∷◌, ◌++◌, map, Contains, Bool, true, false, cond, ◌||◌, refl, sym, ap, subst, ◌∙◌, arith}
use Rattle.std.proofs.lemmas.Bool.Decides.{eqb_tells}
use Rattle.std.specs.List.{flat_map, list_any}
use Rattle.std.specs.Option.{option_map_or, unwrap_or}
use Rattle.ax_base.specs.declared.states.Live.TheVariants.{Off}
use Rattle.ax_base.specs.Document.{Document, has, spot, children, lineage, ancestors, root, IsChild}
use Rattle.ax_base.specs.Trees.{IsTree}
use Rattle.ax_base.specs.Roles.{hides, prunes, ignored}
use Rattle.ax_base.specs.States.{sets_live}
use Rattle.ax_base.specs.Context.{is_hidden, is_presentational_descendant, is_out, is_shut, first_live, live_at}
use Rattle.ax_base.specs.Kids.{standing, kids, kids_from, taken, from_kids}
use Rattle.ax_base.proofs.Below.{from_below_unfolds}
use Rattle.ax_base.proofs.Joins.{in_flat_map}
use Rattle.ax_base.proofs.Places.{parent-child, parent-root, lineage-child, lineage-root}

or-assoc : (a b c : Bool) → ((a || b) || c) ≡ (a || (b || c))
or-assoc true b c = refl
or-assoc false b c = refl

-- where neither of two holds, one of three holds just where the one between them does
only_middle : (a b c : Bool) → (a || c) ≡ false → (a || (b || c)) ≡ b
only_middle true b c none = cc
only_middle false true c none = refl
only_middle false false c none = none

module _ (d : Document) (t : IsTree d) where
  falls : (n c : ℕ) → IsChild d n c → 64 - t.level c < 64 - t.level n
  falls n c child = let e = t.deeper n c child in let s = t.shallow c in omega arith

  pub kids_unfolds : (n : ℕ) → kids d n ≡ kids_from (standing d n) (map (λ c. (standing d c, kids d c)) (children d n))
  kids_unfolds n = from_below_unfolds kids_from (standing d) (children d) (λ n. 64 - t.level n) falls 64 n (omega arith)

  flat_taken : (cs : List ℕ) → kids_from (standing d 0) (map (λ c. (standing d c, kids d c)) cs) ≡ flat_map (taken d) cs
  flat_taken [] = refl
  flat_taken (c ∷ cs) = ap (λ l. taken d c ++ l) (flat_taken cs)

  -- the kids of a node are what its children give
  pub kids-children : (n : ℕ) → kids d n ≡ flat_map (taken d) (children d n)
  kids-children n = kids_unfolds n ∙ flat_taken (children d n)

  only_in : (x y : ℕ) → Contains (x ∷ []) y → x ≡ y
  only_in x y (zero, low, is) = is
  only_in x y (suc k, low, is) = absurd (omega arith)

  -- what a child gives is deeper than what it is a child of
  taken_deeper : (n c k : ℕ) → IsChild d n c → (Contains (kids d c) k → t.level c < t.level k) → Contains (taken d c) k → t.level n < t.level k
  taken_deeper n c k child below inside = go (is_out d c) (ignored (spot d c)) inside
    where
      go : (x y : Bool) → Contains (cond x [] (cond y (kids d c) (c ∷ []))) k → t.level n < t.level k
      go true y inside = absurd (omega arith)
      go false true inside = let e = t.deeper n c child in let more = below inside in omega arith
      go false false inside = let e = t.deeper n c child in let same : t.level c ≡ t.level k = ap t.level (only_in c k inside) in omega arith

  deeper_within : (levels n k : ℕ) → 64 - t.level n ≤ levels → Contains (kids d n) k → t.level n < t.level k
  deeper_within zero n k fits inside =
      let found = in_flat_map (taken d) (children d n) k (subst (λ l. Contains l k) (kids-children n) inside) in
      let e = t.deeper n found.0 found.1 in let s = t.shallow found.0 in absurd (omega arith)
  deeper_within (suc levels) n k fits inside =
      let found = in_flat_map (taken d) (children d n) k (subst (λ l. Contains l k) (kids-children n) inside) in
      let e = t.deeper n found.0 found.1 in
      taken_deeper n found.0 k found.1 (λ more. deeper_within levels found.0 k (omega arith) more) found.2

  -- a kid stands deeper in the document than the object that it hangs on
  pub kids_deeper : (n k : ℕ) → Contains (kids d n) k → t.level n < t.level k
  kids_deeper n k inside = deeper_within 64 n k (omega arith) inside

  -- and so its rank falls
  pub kids_fall : (n k : ℕ) → Contains (kids d n) k → 64 - t.level k < 64 - t.level n
  kids_fall n k inside = let e = kids_deeper n k inside in let s = t.shallow k in omega arith

  -- what is made of an object is made of its kids and of what is made of those
  pub from_kids_unfolds : {A : Type 0} (make : ℕ → List (ℕ × A) → A) (n : ℕ) → from_kids make d n ≡ make n (map (λ c. (c, from_kids make d c)) (kids d n))
  from_kids_unfolds make n = from_below_unfolds make (λ n. n) (kids d) (λ n. 64 - t.level n) kids_fall 64 n (omega arith)

  -- the ancestors of a child are its parent and the parent's ancestors
  pub ancestors-child : (n c : ℕ) → IsChild d n c → ancestors d c ≡ lineage d n
  ancestors-child n c child = ap (λ o. option_map_or (lineage d) o []) (parent-child d t n c child)

  -- a child is out where it hides, or where what is below its parent is out
  pub out-child : (n c : ℕ) → IsChild d n c → is_out d c ≡ (hides (spot d c) || is_shut d n)
  out-child n c child =
      (λ i. list_any (λ a. hides (spot d a)) (lineage-child d t n c child i) || list_any (λ a. prunes (spot d a)) (ancestors-child n c child i))
      ∙ or-assoc (hides (spot d c)) (is_hidden d n) (list_any (λ a. prunes (spot d a)) (lineage d n))

  -- a node's lineage is the node and its ancestors
  pub lineage-ancestors : (n : ℕ) → has d n ≡ true → lineage d n ≡ n ∷ ancestors d n
  lineage-ancestors n there = elim (eqb_tells n root) [ inl (_, is) ↦ at_root is | inr (_, apart) ↦ below apart ]
    where
      at_root : n ≡ root → lineage d n ≡ n ∷ ancestors d n
      at_root is = ap (lineage d) is ∙ lineage-root d t ∙ (λ i. sym is i ∷ option_map_or (lineage d) (sym (parent-root d t) i) []) ∙ ap (λ k. n ∷ ancestors d k) (sym is)

      below : n ≢ root → lineage d n ≡ n ∷ ancestors d n
      below apart = let up = t.hung n there apart in lineage-child d t up.0 n up.1 ∙ ap (λ l. n ∷ l) (sym (ancestors-child up.0 n up.1))

  -- what is below a node is out where the node is hidden, prunes or is pruned
  pub shut-ancestors : (n : ℕ) → has d n ≡ true → is_shut d n ≡ (is_hidden d n || (prunes (spot d n) || is_presentational_descendant d n))
  shut-ancestors n there = ap (λ ns. is_hidden d n || list_any (λ a. prunes (spot d a)) ns) (lineage-ancestors n there)

  -- where a node is not out, what is below it is out just where it prunes
  pub shut-prunes : (n : ℕ) → has d n ≡ true → is_out d n ≡ false → is_shut d n ≡ prunes (spot d n)
  shut-prunes n there visible = shut-ancestors n there ∙ only_middle (is_hidden d n) (prunes (spot d n)) (is_presentational_descendant d n) visible

  -- the root is not out
  pub root_visible : is_out d root ≡ false
  root_visible = λ i. list_any (λ a. hides (spot d a)) (lineage-root d t i) || list_any (λ a. prunes (spot d a)) (option_map_or (lineage d) (parent-root d t i) [])

  -- a child that sets no live has that of its parent
  pub live-child : (n c : ℕ) → IsChild d n c → live_at d c ≡ unwrap_or (sets_live (spot d c)) (live_at d n)
  live-child n c child = ap (first_live d) (lineage-child d t n c child)

  -- and the root that sets none has off
  pub live-root : live_at d root ≡ unwrap_or (sets_live (spot d root)) Off
  live-root = ap (first_live d) (lineage-root d t)
