-- The parents of some nodes are found one after another.
use Rattle.std.proofs.Common.{◌≡◌, inl, inr, ℕ, ◌+◌, ◌<◌, ◌||◌, List, length, take, get_or, Bool, true, false, cond, Some, None, refl, sym, ap, ◌∙◌}
use Rattle.std.specs.Prelude.{nat_eq}
use Rattle.std.specs.Ordering.{nat_cmp}
use Rattle.std.specs.BTreeMap.{insert_entry}
use Rattle.std.proofs.lemmas.List.Folds.{list_any_more}
use Rattle.std.proofs.lemmas.Bool.Decides.{eqb_tells}
use Rattle.ax_base.specs.Document.{Document, parent}
use Rattle.ax_base.proofs.Lookups.{finds_is, lookup-insert_entry}
use Rattle.ax_dom.specs.Among.{is_in}
use Rattle.node_order.specs.Parents.{parent_at, AreParentsOf}

module _ (d : Document) (ns : List ℕ) (i x : ℕ) (low : i < length ns) (is : x ≡ get_or ns i x) (found : List (ℕ × ℕ)) (far : AreParentsOf d (take i ns) found) where
  one_more : (n : ℕ) → is_in (take (i + 1) ns) n ≡ (is_in (take i ns) n || nat_eq n x)
  one_more n = list_any_more (nat_eq n) ns i x low ∙ ap (λ y. is_in (take i ns) n || nat_eq n y) (sym is)

  -- the parent of one more is put in
  pub found_more : (p : ℕ) (new : List (ℕ × ℕ)) → parent d x ≡ Some p → new ≡ insert_entry nat_cmp found x p → AreParentsOf d (take (i + 1) ns) new
  found_more p new up puts n =
      ap (λ es. parent_at es n) puts ∙ lookup-insert_entry n x p found ∙ ap (λ b. cond b (Some p) (parent_at found n)) (finds_is n x)
      ∙ elim (eqb_tells n x) [
        | inl (on, same) ↦ ap (λ b. cond b (Some p) (parent_at found n)) on ∙ sym up ∙ ap (parent d) (sym same) ∙ sym (ap (λ b. cond b (parent d n) None) (one_more n ∙ ap (λ b. is_in (take i ns) n || b) on ∙ or_true (is_in (take i ns) n)))
        | inr (apart, _) ↦ ap (λ b. cond b (Some p) (parent_at found n)) apart ∙ far n ∙ sym (ap (λ b. cond b (parent d n) None) (one_more n ∙ ap (λ b. is_in (take i ns) n || b) apart ∙ or_false (is_in (take i ns) n)))
      ]
    where
      or_true : (b : Bool) → (b || true) ≡ true
      or_true true = refl
      or_true false = refl

      or_false : (b : Bool) → (b || false) ≡ b
      or_false true = refl
      or_false false = refl

  -- one more has none
  pub none_more : None ≡ parent d x → AreParentsOf d (take (i + 1) ns) found
  none_more none n =
      far n ∙ elim (eqb_tells n x) [
        | inl (on, same) ↦ both (is_in (take i ns) n) (is_in (take (i + 1) ns) n) (ap (parent d) same ∙ sym none)
        | inr (apart, _) ↦ sym (ap (λ b. cond b (parent d n) None) (one_more n ∙ ap (λ b. is_in (take i ns) n || b) apart ∙ or_false (is_in (take i ns) n)))
      ]
    where
      or_false : (b : Bool) → (b || false) ≡ b
      or_false true = refl
      or_false false = refl

      both : (a b : Bool) → parent d n ≡ None → cond a (parent d n) None ≡ cond b (parent d n) None
      both true true e = refl
      both true false e = e
      both false true e = sym e
      both false false e = refl
