-- A node with the same parent, level and body in two trees has the same cell.
use Rattle.std.proofs.Common.{◌≡◌, ◌⊎◌, inl, inr, ℕ, true, sym, ap, ◌∙◌}
use Rattle.ax_base.specs.Document.{Document, has, root, parent, depth, body, IsChild}
use Rattle.ax_base.specs.Trees.{IsTree}
use Rattle.ax_base.proofs.Places.{parent-child, parent-root, depth-level}
use Rattle.ax_dom.specs.NodeMaps.{cell_of}

module _ (d e : Document) (t : IsTree d) (u : IsTree e) (q : ℕ) (there : has d q ≡ true) (still : has e q ≡ true) where
  pub parents_agree : (q ≡ root) ⊎ ((p : ℕ) × IsChild d p q × IsChild e p q) → parent d q ≡ parent e q
  parents_agree (inl is) = ap (parent d) is ∙ parent-root d t ∙ sym (ap (parent e) is ∙ parent-root e u)
  parents_agree (inr (p, was, now)) = parent-child d t p q was ∙ sym (parent-child e u p q now)

  pub cells_agree : (q ≡ root) ⊎ ((p : ℕ) × IsChild d p q × IsChild e p q) → t.level q ≡ u.level q → body d q ≡ body e q → cell_of d q ≡ cell_of e q
  cells_agree place levels bodies =
      let depths : depth d q ≡ depth e q = depth-level d t q there ∙ levels ∙ sym (depth-level e u q still) in
      λ i. record { id = q; parent = parents_agree place i; depth = depths i; body = bodies i }
