-- Documents of one shape: the same ids, with the same children.
use Rattle.std.proofs.Common.{◌≡◌, ◌≤◌, ℕ, zero, suc, List, [], ◌∷◌, length, true, Some, Contains, refl, sym, subst, ap, ◌∙◌}
use Rattle.std.specs.Prelude.{find, nat_eq}
use Rattle.std.specs.List.{list_any}
use Rattle.std.specs.List.Sorted.{IsStrictlyIncreasing}
use Rattle.std.specs.Option.{option_map_or}
use Rattle.ax_base.specs.Document.{Document, has, root, ids, body, is_text, children, parent, lineage_within, lineage, ancestors, depth, IsChild}
use Rattle.ax_base.specs.Rects.{HasRectsWithin}
use Rattle.ax_base.specs.Runs.{KeepsRuns}
use Rattle.ax_base.specs.Texts.{IsFitting}
use Rattle.ax_base.specs.Trees.{IsTree, HasNoRepeats}

-- e has the ids of d, with the same children
pub record HasShapeOf (d e : Document) : Type 0 where
  pub ids_same : ids e ≡ ids d
  pub has_same : (n : ℕ) → has e n ≡ has d n
  pub children_same : (n : ℕ) → children e n ≡ children d n
  pub text_same : (n : ℕ) → is_text (body e n) ≡ is_text (body d n)

module _ (d e : Document) (shape : HasShapeOf d e) where
  pub parent_same : (n : ℕ) → parent e n ≡ parent d n
  parent_same n = λ i. find (λ p. list_any (nat_eq n) (shape.children_same p i)) (shape.ids_same i)

  lineage_within_same : (levels n : ℕ) → lineage_within levels e n ≡ lineage_within levels d n
  unfolding lineage_within
  lineage_within_same zero n = refl
  lineage_within_same (suc levels) n = λ i. n ∷ option_map_or (λ p. lineage_within_same levels p i) (parent_same n i) []

  pub lineage_same : (n : ℕ) → lineage e n ≡ lineage d n
  lineage_same n = lineage_within_same 64 n

  pub ancestors_same : (n : ℕ) → ancestors e n ≡ ancestors d n
  ancestors_same n = λ i. option_map_or (λ p. lineage_same p i) (parent_same n i) []

  pub depth_same : (n : ℕ) → depth e n ≡ depth d n
  depth_same n = ap length (ancestors_same n)

  child_was : (n c : ℕ) → IsChild e n c → IsChild d n c
  child_was n c child = subst (λ xs. Contains xs c) (shape.children_same n) child

  child_is : (n c : ℕ) → IsChild d n c → IsChild e n c
  child_is n c child = subst (λ xs. Contains xs c) (sym (shape.children_same n)) child

  pub tree_same : ((n : ℕ) → IsFitting (body e n)) → ((n : ℕ) → KeepsRuns (body e n)) → ((n : ℕ) → HasRectsWithin (body e n)) → ((n : ℕ) → e.focus ≡ Some n → has e n ≡ true) → IsTree d → IsTree e
  tree_same fit right near focused t = record {
    level = t.level;
    has_root = shape.has_same root ∙ t.has_root;
    root_level = t.root_level;
    root_element = shape.text_same root ∙ t.root_element;
    known = λ n c child. shape.has_same c ∙ t.known n c (child_was n c child);
    deeper = λ n c child. t.deeper n c (child_was n c child);
    shallow = t.shallow;
    one_parent = λ m n c child other. t.one_parent m n c (child_was m c child) (child_was n c other);
    hung = λ n there top. let place = t.hung n (sym (shape.has_same n) ∙ there) top in (place.0, child_is place.0 n place.1);
    once = λ n. subst HasNoRepeats (sym (shape.children_same n)) (t.once n);
    bare = λ n text. shape.children_same n ∙ t.bare n (sym (shape.text_same n) ∙ text);
    rising = subst IsStrictlyIncreasing (sym shape.ids_same) t.rising;
    few = subst (λ (ks : List ℕ). length ks ≤ 65537) (sym shape.ids_same) t.few;
    fits = fit;
    runs = right;
    within = near;
    focused = focused;
  }
