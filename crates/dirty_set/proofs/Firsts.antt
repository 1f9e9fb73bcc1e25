-- The first node in tree order that passes, where what changed does not pass.
use Rattle.std.proofs.Common.{◌≡◌, ◌⊎◌, inl, inr, ℕ, zero, suc, ◌≤◌, ◌-◌, List, [], ◌∷◌, Bool, true, false, cond, not, Option, Some, None, Contains, refl, sym, ap, subst, ◌∙◌, arith}
use Rattle.std.specs.Prelude.{filter, find}
use Rattle.std.specs.List.{list_any, flat_map}
use Rattle.std.specs.Option.{option_or}
use Rattle.std.proofs.lemmas.Bool.{or_left, or_right}
use Rattle.std.proofs.lemmas.List.Folds.{find-append}
use Rattle.ax_base.specs.declared.body.Body.{Body}
use Rattle.ax_base.specs.Document.{Document, body, has, root, order, children, lineage, IsChild}
use Rattle.ax_base.specs.Trees.{IsTree}
use Rattle.ax_base.proofs.Joins.{Contains-cases}
use Rattle.ax_base.proofs.Membership.{Contains-head, Contains-tail}
use Rattle.ax_dom.specs.Subtrees.{subtree}
use Rattle.ax_dom.proofs.Subtrees.{subtree_unfolds, subtree_has, lineage_within_subtree}
use Rattle.ax_dom.specs.Among.{is_in, has_within}
use Rattle.dirty_set.specs.Reach.{Marked, is_at_marks}
use Rattle.dirty_set.proofs.Tests.{any_at}
use Rattle.dirty_set.proofs.Follows.{Follows}

-- the first that some give
abbrev pub first_of : (ℕ → Option ℕ) → List ℕ → Option ℕ
first_of f [] = None
first_of f (c ∷ cs) = option_or (f c) (first_of f cs)

find_joined : (test : ℕ → Bool) (f : ℕ → List ℕ) (cs : List ℕ) → find test (flat_map f cs) ≡ first_of (λ c. find test (f c)) cs
find_joined test f [] = refl
find_joined test f (c ∷ cs) = find-append test (f c) (flat_map f cs) ∙ ap (option_or (find test (f c))) (find_joined test f cs)

pub find_no : (test : ℕ → Bool) (xs : List ℕ) → ((x : ℕ) → Contains xs x → test x ≡ false) → find test xs ≡ None
find_no test [] each = refl
find_no test (x ∷ xs) each = ap (λ b. cond b (Some x) (find test xs)) (each x (Contains-head x xs)) ∙ find_no test xs (λ y inside. each y (Contains-tail x y xs inside))

pub first_same : (f g : ℕ → Option ℕ) (cs : List ℕ) → ((c : ℕ) → Contains cs c → f c ≡ g c) → first_of f cs ≡ first_of g cs
first_same f g [] each = refl
first_same f g (c ∷ cs) each = λ i. option_or (each c (Contains-head c cs) i) (first_same f g cs (λ y inside. each y (Contains-tail c y cs inside)) i)

-- what gives nothing may be left out
pub first_kept : (f : ℕ → Option ℕ) (keep : ℕ → Bool) (cs : List ℕ) → ((c : ℕ) → Contains cs c → keep c ≡ false → f c ≡ None) → first_of f (filter keep cs) ≡ first_of f cs
first_kept f keep [] each = refl
first_kept f keep (c ∷ cs) each = go (keep c) refl (first_kept f keep cs (λ y inside. each y (Contains-tail c y cs inside)))
  where
    go : (b : Bool) → keep c ≡ b → first_of f (filter keep cs) ≡ first_of f cs → first_of f (cond b (c ∷ filter keep cs) (filter keep cs)) ≡ option_or (f c) (first_of f cs)
    go true is rest = ap (option_or (f c)) rest
    go false is rest = rest ∙ ap (λ o. option_or o (first_of f cs)) (sym (each c (Contains-head c cs) is))

pub kept_cases : {X : Type 0} (keep : X → Bool) (xs : List X) (x : X) → Contains (filter keep xs) x → Contains xs x × (keep x ≡ true)
kept_cases keep [] x inside = absurd (omega arith)
kept_cases {X} keep (y ∷ xs) x inside = go (keep y) refl inside (λ more. kept_cases keep xs x more)
  where
    go : (b : Bool) → keep y ≡ b → Contains (cond b (y ∷ filter keep xs) (filter keep xs)) x → (Contains (filter keep xs) x → Contains xs x × (keep x ≡ true)) → Contains (y ∷ xs) x × (keep x ≡ true)
    go true is inside rest = elim (Contains-cases x y (filter keep xs) inside) [
      | inl same ↦ (subst (λ z. Contains (y ∷ xs) z) same (Contains-head y xs), ap keep (sym same) ∙ is)
      | inr more ↦ let r = rest more in (Contains-tail y x xs r.0, r.1)
    ]
    go false is inside rest = let r = rest inside in (Contains-tail y x xs r.0, r.1)

pub not_false : (b : Bool) → not b ≡ true → b ≡ false
not_false true e = sym e
not_false false e = refl

pub not_true : (b : Bool) → not b ≡ false → b ≡ true
not_true true e = refl
not_true false e = sym e

-- the first node at or below one whose body passes
abbrev pub first_within : Document → (Body → Bool) → ℕ → Option ℕ
first_within d g n = find (λ k. g (body d k)) (subtree d n)

pub first_unfolds : (d : Document) → IsTree d → (g : Body → Bool) (n : ℕ) → first_within d g n ≡ cond (g (body d n)) (Some n) (first_of (first_within d g) (children d n))
first_unfolds d t g n = ap (find (λ k. g (body d k))) (subtree_unfolds d t n) ∙ ap (λ o. cond (g (body d n)) (Some n) o) (find_joined (λ k. g (body d k)) (subtree d) (children d n))

module _ (old now : Document) (m : Marked) (s : Follows old now m) (g : Body → Bool)
    (clear_old : (n : ℕ) → (is_in m.nodes n ≡ true) ⊎ ((r : ℕ) × (s.top r ≡ true) × Contains (subtree old r) n) → g (body old n) ≡ false)
    (clear_now : (n : ℕ) → has_within now (is_at_marks m.nodes m.roots now) n ≡ true → g (body now n) ≡ false) where
  marked_here : (n : ℕ) → is_at_marks m.nodes m.roots now n ≡ true → has_within now (is_at_marks m.nodes m.roots now) n ≡ true
  marked_here n on = any_at (is_at_marks m.nodes m.roots now) (subtree now n) n (subtree_has now s.is_tree n) on

  passes_same : (n : ℕ) → has now n ≡ true → has old n ≡ true → g (body old n) ≡ g (body now n)
  passes_same n there was = go (is_in m.nodes n) refl
    where
      go : (b : Bool) → is_in m.nodes n ≡ b → g (body old n) ≡ g (body now n)
      go true on = clear_old n (inl on) ∙ sym (clear_now n (marked_here n (or_left (is_in m.nodes n) (list_any (is_in m.roots) (lineage now n)) on)))
      go false off = ap g (s.bodies n there was off)

  top_was : (r : ℕ) → s.top r ≡ true → first_within old g r ≡ None
  top_was r is = find_no (λ k. g (body old k)) (subtree old r) (λ k inside. clear_old k (inr (r, is, inside)))

  top_is : (r : ℕ) → has now r ≡ true → s.top r ≡ true → first_within now g r ≡ None
  top_is r there is = find_no (λ k. g (body now k)) (subtree now r) (λ k inside.
      clear_now k (marked_here k (or_right (is_in m.nodes k) (list_any (is_in m.roots) (lineage now k)) (any_at (is_in m.roots) (lineage now k) r (lineage_within_subtree now s.is_tree r k inside) (s.rooted r there is)))))

  abbrev stays : ℕ → Bool
  stays c = not (s.top c)

  step : (n : ℕ) → has now n ≡ true → has old n ≡ true → ((c : ℕ) → IsChild now n c → has old c ≡ true → first_within old g c ≡ first_within now g c) → first_within old g n ≡ first_within now g n
  step n there was each =
      first_unfolds old s.was_tree g n
      ∙ (λ i. cond (passes_same n there was i) (Some n) (below i))
      ∙ sym (first_unfolds now s.is_tree g n)
    where
      below : first_of (first_within old g) (children old n) ≡ first_of (first_within now g) (children now n)
      below =
          sym (first_kept (first_within old g) stays (children old n) (λ c child is. top_was c (not_true (s.top c) is)))
          ∙ ap (first_of (first_within old g)) (s.hung n there was)
          ∙ first_same (first_within old g) (first_within now g) (filter stays (children now n)) (λ c inside.
          let r = kept_cases stays (children now n) c inside in
          each c r.0 (s.was c (s.is_tree.known n c r.0) (not_false (s.top c) r.1)))
          ∙ first_kept (first_within now g) stays (children now n) (λ c child is. top_is c (s.is_tree.known n c child) (not_true (s.top c) is))

  alike : (l n : ℕ) → 64 - s.is_tree.level n ≤ l → has now n ≡ true → has old n ≡ true → first_within old g n ≡ first_within now g n
  alike zero n low there was = step n there was (λ c child old_c. let e = s.is_tree.deeper n c child in let f = s.is_tree.shallow c in absurd (omega arith))
  alike (suc l) n low there was = step n there was (λ c child old_c. let e = s.is_tree.deeper n c child in let f = s.is_tree.shallow c in alike l c (omega arith) (s.is_tree.known n c child) old_c)

  pub first_in_order : find (λ k. g (body old k)) (order old) ≡ find (λ k. g (body now k)) (order now)
  first_in_order = alike 64 root (omega arith) s.is_tree.has_root s.was_tree.has_root
