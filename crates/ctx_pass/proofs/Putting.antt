-- What is kept by node after one more value is put in.
use Rattle.std.proofs.Common.{◌≡◌, inl, inr, ℕ, List, cond, Some, refl, sym, ap, subst, ◌∙◌}
use Rattle.std.specs.Ordering.{nat_cmp}
use Rattle.std.specs.Map.{lookup}
use Rattle.std.specs.BTreeMap.{is_at, insert_entry}
use Rattle.ax_base.proofs.Lookups.{finds, finds_same, finds_tells, lookup-insert_entry}

module _ {X : Type 0} (f : ℕ → X) (old new : List (ℕ × X)) (n : ℕ) (value : X) (right : value ≡ f n) (put : new ≡ insert_entry nat_cmp old n value) where
  found : (q : ℕ) → lookup (is_at (nat_cmp q)) new ≡ cond (finds q n) (Some (f n)) (lookup (is_at (nat_cmp q)) old)
  found q = ap (lookup (is_at (nat_cmp q))) (put ∙ ap (insert_entry nat_cmp old n) right) ∙ lookup-insert_entry q n (f n) old

  -- it is right there
  pub put_here : lookup (is_at (nat_cmp n)) new ≡ Some (f n)
  put_here = found n ∙ ap (λ b. cond b (Some (f n)) (lookup (is_at (nat_cmp n)) old)) (finds_same n n refl)

  -- what was right elsewhere is right
  pub put_keeps : (q : ℕ) → lookup (is_at (nat_cmp q)) old ≡ Some (f q) → lookup (is_at (nat_cmp q)) new ≡ Some (f q)
  put_keeps q was = elim (finds_tells q n) [
    | inl (_, same) ↦ subst (λ k. lookup (is_at (nat_cmp k)) new ≡ Some (f k)) (sym same) put_here
    | inr (off, _) ↦ found q ∙ ap (λ b. cond b (Some (f n)) (lookup (is_at (nat_cmp q)) old)) off ∙ was
  ]
