-- All nodes of a document.
use Rattle.std.proofs.Common.{◌≡◌, inl, inr, ℕ, List, true, Contains, sym, ap, subst, ◌∙◌, arith}
use Rattle.std.specs.Cmp.{nat_eq_equiv}
use Rattle.std.proofs.lemmas.Bool.{eqb-true, false≢true}
use Rattle.std.proofs.lemmas.Map.Views.{Contains-from_any, list_any-from_Contains}
use Rattle.ax_base.specs.Document.{Document, root, has, order}
use Rattle.ax_base.specs.Trees.{IsTree}
use Rattle.ax_base.proofs.Places.{has_children}
use Rattle.ax_dom.specs.Among.{is_in, IsClosedUp}
use Rattle.ax_dom.proofs.Copied.{in_order}
use Rattle.ax_dom.proofs.Subtrees.{within_parent}
use Rattle.live_tree.specs.declared.passes.Passes.{Passes}
use Rattle.live_tree.specs.Living.{ArePassesBut}

module _ (d : Document) (t : IsTree d) (ns : List ℕ) (is : ns ≡ order d) where
  pub all_there : (n : ℕ) → has d n ≡ true → is_in ns n ≡ true
  all_there n there = list_any-from_Contains nat_eq_equiv n ns (subst (λ l. Contains l n) (sym is) (in_order d t (t.level n) n (omega arith) there))

  pub all_known : (n : ℕ) → is_in ns n ≡ true → has d n ≡ true
  all_known n on = elim (within_parent d t root n (subst (λ l. Contains l n) is (Contains-from_any eqb-true n ns on))) [
    | inl same ↦ ap (has d) same ∙ t.has_root
    | inr (p, child, below) ↦ t.known p n child
  ]

  pub all_closed : IsClosedUp d ns
  all_closed p c child on = all_there p (has_children d p c child)

-- where all nodes are listed, what is kept of the others is right
pub nothing_else : (d : Document) (p : Passes) (ns listed : List ℕ) → listed ≡ ns → ((n : ℕ) → has d n ≡ true → is_in ns n ≡ true) → ArePassesBut d p listed
nothing_else d p ns listed is all = record {
  contexts = λ n there off. absurd (false≢true (sym off ∙ among n there));
  kids = λ n there off. absurd (false≢true (sym off ∙ among n there));
  saids = λ n there off. absurd (false≢true (sym off ∙ among n there));
}
  where
    among : (n : ℕ) → has d n ≡ true → is_in listed n ≡ true
    among n there = ap (λ l. is_in l n) is ∙ all n there
