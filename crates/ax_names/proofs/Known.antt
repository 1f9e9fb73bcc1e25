-- Nodes that are found by what they are.
use Rattle.std.proofs.Common.{◌≡◌, ℕ, List, [], ◌∷◌, Bool, true, false, cond, Some, None, is_some, refl, sym, ap, ◌∙◌}
use Rattle.std.specs.Prelude.{Option, find}
use Rattle.std.specs.Option.{option_map_or}
use Rattle.std.proofs.lemmas.Bool.{true≢false}
use Rattle.ax_base.specs.declared.body.Body.{Body}
use Rattle.ax_base.specs.declared.body.Body.TheVariants.{Words}
use Rattle.ax_base.specs.Characters.{Chars}
use Rattle.ax_base.specs.Document.{Document, Node, node, has, body, order, has_id, target}
use Rattle.ax_base.specs.AccessibleNames.{is_label_for, first_label}

-- the first that passes does
found_passes : (test : ℕ → Bool) (xs : List ℕ) (n : ℕ) → find test xs ≡ Some n → test n ≡ true
found_passes test [] n is = cc
found_passes test (x ∷ xs) n is = go (test x) refl (found_passes test xs n) is
  where
    go : (b : Bool) → test x ≡ b → (find test xs ≡ Some n → test n ≡ true) → cond b (Some x) (find test xs) ≡ Some n → test n ≡ true
    go true e later found = let same : x ≡ n = cc in sym (ap test same) ∙ e
    go false e later found = later found

-- a node is there where it passes a test that an empty text does not
known_by : (d : Document) (n : ℕ) (test : Body → Bool) → test (Words [] []) ≡ false → test (body d n) ≡ true → has d n ≡ true
known_by d n test off on = go (node d n) on
  where
    go : (o : Option Node) → test (option_map_or (λ e. e.body) o (Words [] [])) ≡ true → is_some o ≡ true
    go None passes = absurd (true≢false (sym passes ∙ off))
    go (Some e) passes = refl

pub target_known : (d : Document) (x : Chars) (n : ℕ) → target d x ≡ Some n → has d n ≡ true
target_known d [] n is = cc
target_known d (c ∷ cs) n is = known_by d n (has_id (c ∷ cs)) refl (found_passes (λ m. has_id (c ∷ cs) (body d m)) (order d) n is)

pub label_known : (d : Document) (x : Chars) (n : ℕ) → first_label d x ≡ Some n → has d n ≡ true
label_known d x n is = known_by d n (is_label_for x) refl (found_passes (λ m. is_label_for x (body d m)) (order d) n is)
