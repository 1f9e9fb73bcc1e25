-- Contexts of children by those of their parents.
use Rattle.std.proofs.Common.{◌≡◌, inl, inr, ℕ, ◌||◌, List, [], true, cond, Some, None, sym, ap, ◌∙◌}
use Rattle.std.specs.List.{list_any}
use Rattle.std.specs.Prelude.{unwrap_or}
use Rattle.std.specs.Option.{option_map_or}
use Rattle.std.proofs.lemmas.Bool.Decides.{eqb_tells}
use Rattle.ax_base.specs.Document.{Document, root, has, spot, parent, lineage, IsChild}
use Rattle.ax_base.specs.Trees.{IsTree}
use Rattle.ax_base.specs.Roles.{hides, prunes}
use Rattle.ax_base.specs.Context.{is_hidden, is_presentational_descendant}
use Rattle.ax_base.proofs.KidsLaws.{ancestors-child, lineage-ancestors, live-child, live-root}
use Rattle.ax_base.proofs.Places.{has_children, lineage-child, lineage-root, parent-child, parent-root}
use Rattle.ax_dom.specs.declared.cell.Cell.{Cell}
use Rattle.ax_dom.specs.NodeMaps.{cell_of, cell_at}
use Rattle.ctx_pass.specs.declared.contexts.Context.{Context}
use Rattle.ctx_pass.specs.declared.standing.Standing.{Standing}
use Rattle.ctx_pass.specs.Contexts.{context_of, outside, inherited, passed_on, standing, standing_of, handed_on, IsContextKept}

module _ (d : Document) (t : IsTree d) where
  hidden_child : (n c : ℕ) → IsChild d n c → is_hidden d c ≡ (hides (spot d c) || is_hidden d n)
  hidden_child n c child = ap (list_any (λ a. hides (spot d a))) (lineage-child d t n c child)

  pruned_child : (n c : ℕ) → IsChild d n c → is_presentational_descendant d c ≡ (prunes (spot d n) || is_presentational_descendant d n)
  pruned_child n c child = ap (list_any (λ a. prunes (spot d a))) (ancestors-child d t n c child ∙ lineage-ancestors d t n (has_children d n c child))

  -- a child has what its parent hands on, with what it sets itself
  pub context-child : (n c : ℕ) → IsChild d n c → context_of d c ≡ inherited (passed_on (context_of d n) (spot d n)) (spot d c)
  context-child n c child = λ i. record { hidden = hidden_child n c child i; pruned = pruned_child n c child i; live = live-child d t n c child i }

  pub context-root : context_of d root ≡ inherited outside (spot d root)
  context-root = λ i. record {
    hidden = ap (list_any (λ a. hides (spot d a))) (lineage-root d t) i;
    pruned = ap (λ o. list_any (λ a. prunes (spot d a)) (option_map_or (lineage d) o [])) (parent-root d t) i;
    live = live-root d t i;
  }

  module _ (kept : List (ℕ × Standing)) (n : ℕ) (there : has d n ≡ true) (right : (p : ℕ) → has d p ≡ true → IsChild d p n → IsContextKept d kept p) where
    -- a node takes over what is kept of its parent to be handed on
    pub context_handed : context_of d n ≡ inherited (handed_on kept (parent d n)) (spot d n)
    context_handed = elim (eqb_tells n root) [ inl (_, is) ↦ at_root is | inr (_, apart) ↦ below (t.hung n there apart) ]
      where
        at_root : n ≡ root → context_of d n ≡ inherited (handed_on kept (parent d n)) (spot d n)
        at_root is =
            ap (context_of d) is ∙ context-root
            ∙ ap (λ k. inherited k (spot d root)) (ap (handed_on kept) (sym (parent-root d t)))
            ∙ ap (λ k. inherited (handed_on kept (parent d k)) (spot d k)) (sym is)

        below : (p : ℕ) × IsChild d p n → context_of d n ≡ inherited (handed_on kept (parent d n)) (spot d n)
        below (p, child) =
            context-child p n child
            ∙ ap (λ k. inherited k (spot d n)) (sym (ap (handed_on kept) (parent-child d t p n child) ∙ ap (λ o. option_map_or (λ (s : Standing). s.below) o outside) (right p (has_children d p n child) child)))

    -- what is made of its cell is how it stands
    pub standing_made : (cell : Cell) (above : Context) (is : Standing) → Some cell ≡ cell_at d n → above ≡ handed_on kept cell.parent
        → is.here ≡ inherited above (record { id = n; body = cell.body }) → is.below ≡ passed_on (inherited above (record { id = n; body = cell.body })) (record { id = n; body = cell.body })
        → is ≡ standing_of d n
    standing_made cell above is found takes here below =
        (λ i. record { here = here i; below = below i })
        ∙ ap (λ k. made k cell) takes
        ∙ ap (λ x. made (handed_on kept x.parent) x) same
        ∙ ap (λ k. standing k (spot d n)) (sym context_handed)
      where
        made : Context → Cell → Standing
        made k x = standing (inherited k (record { id = n; body = x.body })) (record { id = n; body = x.body })

        same : cell ≡ cell_of d n
        same = ap (λ o. unwrap_or o cell) (found ∙ ap (λ b. cond b (Some (cell_of d n)) None) there)
