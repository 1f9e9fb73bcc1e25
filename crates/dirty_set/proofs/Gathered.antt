-- The nodes in tree order that pass, where what changed does not pass.
use Rattle.std.proofs.Common.{◌≡◌, ◌⊎◌, inl, inr, ℕ, zero, suc, ◌≤◌, ◌-◌, List, [], ◌∷◌, ◌++◌, Bool, true, false, cond, not, Contains, refl, sym, ap, ◌∙◌, arith}
use Rattle.std.specs.Prelude.{filter}
use Rattle.std.specs.List.{list_any, flat_map}
use Rattle.std.proofs.lemmas.Bool.{or_left, or_right}
use Rattle.ax_base.specs.declared.body.Body.{Body}
use Rattle.ax_base.specs.Document.{Document, body, has, root, order, children, lineage, IsChild}
use Rattle.ax_base.specs.Trees.{IsTree}
use Rattle.ax_base.proofs.Membership.{Contains-head, Contains-tail}
use Rattle.ax_dom.specs.Subtrees.{subtree}
use Rattle.ax_dom.proofs.Subtrees.{subtree_unfolds, subtree_has, lineage_within_subtree}
use Rattle.ax_dom.specs.Among.{is_in, has_within}
use Rattle.dirty_set.specs.Reach.{Marked, is_at_marks}
use Rattle.dirty_set.proofs.Tests.{any_at}
use Rattle.dirty_set.proofs.Follows.{Follows}
use Rattle.dirty_set.proofs.Firsts.{kept_cases, not_false, not_true}

filter_both : (p : ℕ → Bool) (xs ys : List ℕ) → filter p (xs ++ ys) ≡ filter p xs ++ filter p ys
filter_both p [] ys = refl
filter_both p (x ∷ xs) ys = go (p x) (filter_both p xs ys)
  where
    go : (b : Bool) → filter p (xs ++ ys) ≡ filter p xs ++ filter p ys → cond b (x ∷ filter p (xs ++ ys)) (filter p (xs ++ ys)) ≡ cond b (x ∷ filter p xs) (filter p xs) ++ filter p ys
    go true rest = ap (λ l. x ∷ l) rest
    go false rest = rest

filter_joined : (p : ℕ → Bool) (f : ℕ → List ℕ) (cs : List ℕ) → filter p (flat_map f cs) ≡ flat_map (λ c. filter p (f c)) cs
filter_joined p f [] = refl
filter_joined p f (c ∷ cs) = filter_both p (f c) (flat_map f cs) ∙ ap (λ l. filter p (f c) ++ l) (filter_joined p f cs)

pub filter_no : (p : ℕ → Bool) (xs : List ℕ) → ((x : ℕ) → Contains xs x → p x ≡ false) → filter p xs ≡ []
filter_no p [] each = refl
filter_no p (x ∷ xs) each = ap (λ b. cond b (x ∷ filter p xs) (filter p xs)) (each x (Contains-head x xs)) ∙ filter_no p xs (λ y inside. each y (Contains-tail x y xs inside))

joined_same : (f g : ℕ → List ℕ) (cs : List ℕ) → ((c : ℕ) → Contains cs c → f c ≡ g c) → flat_map f cs ≡ flat_map g cs
joined_same f g [] each = refl
joined_same f g (c ∷ cs) each = λ i. each c (Contains-head c cs) i ++ joined_same f g cs (λ y inside. each y (Contains-tail c y cs inside)) i

pub joined_kept : (f : ℕ → List ℕ) (keep : ℕ → Bool) (cs : List ℕ) → ((c : ℕ) → Contains cs c → keep c ≡ false → f c ≡ []) → flat_map f (filter keep cs) ≡ flat_map f cs
joined_kept f keep [] each = refl
joined_kept f keep (c ∷ cs) each = go (keep c) refl (joined_kept f keep cs (λ y inside. each y (Contains-tail c y cs inside)))
  where
    go : (b : Bool) → keep c ≡ b → flat_map f (filter keep cs) ≡ flat_map f cs → flat_map f (cond b (c ∷ filter keep cs) (filter keep cs)) ≡ f c ++ flat_map f cs
    go true is rest = ap (λ l. f c ++ l) rest
    go false is rest = rest ∙ ap (λ l. l ++ flat_map f cs) (sym (each c (Contains-head c cs) is))

-- the nodes at and below one whose bodies pass, in tree order
abbrev pub gathered : Document → (Body → Bool) → ℕ → List ℕ
gathered d g n = filter (λ k. g (body d k)) (subtree d n)

pub gathered_unfolds : (d : Document) → IsTree d → (g : Body → Bool) (n : ℕ) → gathered d g n ≡ cond (g (body d n)) (n ∷ flat_map (gathered d g) (children d n)) (flat_map (gathered d g) (children d n))
gathered_unfolds d t g n = ap (filter (λ k. g (body d k))) (subtree_unfolds d t n) ∙ ap (λ l. cond (g (body d n)) (n ∷ l) l) (filter_joined (λ k. g (body d k)) (subtree d) (children d n))

module _ (old now : Document) (m : Marked) (s : Follows old now m) (g : Body → Bool)
    (clear_old : (n : ℕ) → (is_in m.nodes n ≡ true) ⊎ ((r : ℕ) × (s.top r ≡ true) × Contains (subtree old r) n) → g (body old n) ≡ false)
    (clear_now : (n : ℕ) → has_within now (is_at_marks m.nodes m.roots now) n ≡ true → g (body now n) ≡ false) where
  marked_here : (n : ℕ) → is_at_marks m.nodes m.roots now n ≡ true → has_within now (is_at_marks m.nodes m.roots now) n ≡ true
  marked_here n on = any_at (is_at_marks m.nodes m.roots now) (subtree now n) n (subtree_has now s.is_tree n) on

  passes_same : (n : ℕ) → has now n ≡ true → has old n ≡ true → g (body old n) ≡ g (body now n)
  passes_same n there was = go (is_in m.nodes n) refl
    where
      go : (b : Bool) → is_in m.nodes n ≡ b → g (body old n) ≡ g (body now n)
      go true on = clear_old n (inl on) ∙ sym (clear_now n (marked_here n (or_left (is_in m.nodes n) (list_any (is_in m.roots) (lineage now n)) on)))
      go false off = ap g (s.bodies n there was off)

  top_was : (r : ℕ) → s.top r ≡ true → gathered old g r ≡ []
  top_was r is = filter_no (λ k. g (body old k)) (subtree old r) (λ k inside. clear_old k (inr (r, is, inside)))

  top_is : (r : ℕ) → has now r ≡ true → s.top r ≡ true → gathered now g r ≡ []
  top_is r there is = filter_no (λ k. g (body now k)) (subtree now r) (λ k inside.
      clear_now k (marked_here k (or_right (is_in m.nodes k) (list_any (is_in m.roots) (lineage now k)) (any_at (is_in m.roots) (lineage now k) r (lineage_within_subtree now s.is_tree r k inside) (s.rooted r there is)))))

  abbrev stays : ℕ → Bool
  stays c = not (s.top c)

  step : (n : ℕ) → has now n ≡ true → has old n ≡ true → ((c : ℕ) → IsChild now n c → has old c ≡ true → gathered old g c ≡ gathered now g c) → gathered old g n ≡ gathered now g n
  step n there was each =
      gathered_unfolds old s.was_tree g n
      ∙ (λ i. cond (passes_same n there was i) (n ∷ below i) (below i))
      ∙ sym (gathered_unfolds now s.is_tree g n)
    where
      below : flat_map (gathered old g) (children old n) ≡ flat_map (gathered now g) (children now n)
      below =
          sym (joined_kept (gathered old g) stays (children old n) (λ c child is. top_was c (not_true (s.top c) is)))
          ∙ ap (flat_map (gathered old g)) (s.hung n there was)
          ∙ joined_same (gathered old g) (gathered now g) (filter stays (children now n)) (λ c inside.
          let r = kept_cases stays (children now n) c inside in
          each c r.0 (s.was c (s.is_tree.known n c r.0) (not_false (s.top c) r.1)))
          ∙ joined_kept (gathered now g) stays (children now n) (λ c child is. top_is c (s.is_tree.known n c child) (not_true (s.top c) is))

  alike : (l n : ℕ) → 64 - s.is_tree.level n ≤ l → has now n ≡ true → has old n ≡ true → gathered old g n ≡ gathered now g n
  alike zero n low there was = step n there was (λ c child old_c. let e = s.is_tree.deeper n c child in let f = s.is_tree.shallow c in absurd (omega arith))
  alike (suc l) n low there was = step n there was (λ c child old_c. let e = s.is_tree.deeper n c child in let f = s.is_tree.shallow c in alike l c (omega arith) (s.is_tree.known n c child) old_c)

  -- the list in tree order of what passes is the same
  pub gathered_same : filter (λ k. g (body old k)) (order old) ≡ filter (λ k. g (body now k)) (order now)
  gathered_same = alike 64 root (omega arith) s.is_tree.has_root s.was_tree.has_root
