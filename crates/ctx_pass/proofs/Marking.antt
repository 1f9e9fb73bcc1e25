-- Marks of nodes.
use Rattle.std.proofs.Common.{◌≡◌, inl, inr, ℕ, ◌||◌, List, [], ◌∷◌, Bool, true, false, cond, Option, Some, refl, sym, ap, subst, ◌∙◌}
use Rattle.std.specs.Prelude.{Result, Ok, Err, OnOk, OnErr}
use Rattle.std.specs.Ordering.{nat_cmp}
use Rattle.std.specs.Map.{lookup}
use Rattle.std.specs.Set.{remove_key}
use Rattle.std.specs.BTreeMap.{is_at, insert_entry}
use Rattle.std.specs.BTreeSet.{insert_key}
use Rattle.std.proofs.lemmas.Bool.{or_parts}
use Rattle.ax_base.proofs.Lookups.{finds, finds_tells, found_is, lookup-insert_entry, list_any-insert_key}
use Rattle.ctx_pass.specs.Marks.{is_marked}

-- whether another has a mark does not change where one loses its own
others_marked : (q k : ℕ) (ks : List ℕ) → finds q k ≡ false → is_marked (remove_key (is_at (nat_cmp k)) ks) q ≡ is_marked ks q
others_marked q k [] off = refl
others_marked q k (x ∷ xs) off = go (finds k x) refl (others_marked q k xs off)
  where
    go : (b : Bool) → finds k x ≡ b → is_marked (remove_key (is_at (nat_cmp k)) xs) q ≡ is_marked xs q → is_marked (cond b xs (x ∷ remove_key (is_at (nat_cmp k)) xs)) q ≡ (finds q x || is_marked xs q)
    go true is rest = ap (λ b. b || is_marked xs q) (sym off ∙ ap (finds q) (found_is k x is))
    go false is rest = ap (λ b. finds q x || b) rest

-- What is kept of each node that has no mark passes.
module _ {X : Type 0} (passes : ℕ → Option X → Type 0) (marks : List ℕ) (kept : List (ℕ × X)) (id : ℕ) (value : X)
    (each : (n : ℕ) → is_marked marks n ≡ false → passes n (lookup (is_at (nat_cmp n)) kept)) where
  elsewhere : (new : List (ℕ × X)) (n : ℕ) → new ≡ insert_entry nat_cmp kept id value → finds n id ≡ false → lookup (is_at (nat_cmp n)) new ≡ lookup (is_at (nat_cmp n)) kept
  elsewhere new n puts off = ap (lookup (is_at (nat_cmp n))) puts ∙ lookup-insert_entry n id value kept ∙ ap (λ b. cond b (Some value) (lookup (is_at (nat_cmp n)) kept)) off

  -- it does so still when a node has got a mark, whether something else is kept of it then or not
  pub once_marked : {V E : Type 0} (r : Result V E) (more : List ℕ) (new : List (ℕ × X)) → more ≡ insert_key nat_cmp marks id → OnOk r (new ≡ insert_entry nat_cmp kept id value) → OnErr r (new ≡ kept)
      → (n : ℕ) → is_marked more n ≡ false → passes n (lookup (is_at (nat_cmp n)) new)
  once_marked {V} {E} r more new marked puts leaves n off = go r puts leaves
    where
      both : (finds n id ≡ false) × (is_marked marks n ≡ false)
      both = or_parts (finds n id) (is_marked marks n) (list_any-insert_key n id marks ∙ ap (λ l. is_marked l n) (sym marked) ∙ off)

      go : (s : Result V E) → OnOk s (new ≡ insert_entry nat_cmp kept id value) → OnErr s (new ≡ kept) → passes n (lookup (is_at (nat_cmp n)) new)
      go (Ok v) is rest = subst (passes n) (sym (elsewhere new n is both.0)) (each n both.1)
      go (Err e) rest same = subst (passes n) (ap (lookup (is_at (nat_cmp n))) (sym same)) (each n both.1)

  -- and when a node has lost its mark, if what is kept of it then passes
  pub once_unmarked : (less : List ℕ) (new : List (ℕ × X)) → less ≡ remove_key (is_at (nat_cmp id)) marks → new ≡ insert_entry nat_cmp kept id value → passes id (Some value)
      → (n : ℕ) → is_marked less n ≡ false → passes n (lookup (is_at (nat_cmp n)) new)
  once_unmarked less new unmarked puts right n off = elim (finds_tells n id) [
    | inl (on, same) ↦ subst (passes n) (sym (ap (lookup (is_at (nat_cmp n))) puts ∙ lookup-insert_entry n id value kept ∙ ap (λ b. cond b (Some value) (lookup (is_at (nat_cmp n)) kept)) on)) (subst (λ k. passes k (Some value)) (sym same) right)
    | inr (apart, other) ↦ subst (passes n) (sym (elsewhere new n puts apart)) (each n (sym (others_marked n id marks apart) ∙ ap (λ l. is_marked l n) (sym unmarked) ∙ off))
  ]
