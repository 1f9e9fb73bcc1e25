-- The elements that ids name and those that label them, looked up.
use Rattle.std.specs.Prelude.{◌≡◌, ℕ, Bool, false, List, [], ◌∷◌, find}
use Rattle.std.specs.HashMap.{get_by_text}
use Rattle.ax_base.specs.declared.body.Body.{Body}
use Rattle.ax_base.specs.Characters.{Chars}
use Rattle.ax_base.specs.Document.{Document, body, has_id, target}
use Rattle.ax_base.specs.AccessibleNames.{is_label_for, first_label}
use Rattle.ax_names.specs.declared.targets.Targets.{Targets}

-- a look-up gives the first element with an id, and the first `label` for it
pub record AreTargetsOf (d : Document) (t : Targets) : Type 0 where
  pub first : (x : Chars) → get_by_text t.ids x ≡ target d x
  pub label : (x : Chars) → get_by_text t.labels x ≡ first_label d x

-- whether the `id` is exactly x, which is not empty
abbrev pub is_named : Chars → Body → Bool
is_named [] b = false
is_named (c ∷ cs) b = has_id (c ∷ cs) b

-- a look-up gives the first of some nodes with an id, and the first of them that is a `label` for it
pub record AreFirstAmong (d : Document) (ns : List ℕ) (t : Targets) : Type 0 where
  pub first : (x : Chars) → get_by_text t.ids x ≡ find (λ n. is_named x (body d n)) ns
  pub label : (x : Chars) → get_by_text t.labels x ≡ find (λ n. is_label_for x (body d n)) ns
