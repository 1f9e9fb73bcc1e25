-- What an edit changes of what an index keeps.
use Rattle.std.specs.Prelude.{◌≡◌, ◌⊎◌, ℕ, Bool, true, false, not, filter, if◌then◌else◌, List, [], ◌∷◌, Contains}
use Rattle.ax_base.specs.declared.body.Body.{Body}
use Rattle.ax_base.specs.Characters.{Chars}
use Rattle.ax_base.specs.Document.{Document, body, has, children, has_id}
use Rattle.ax_base.specs.AccessibleNames.{is_label_for}
use Rattle.ax_base.specs.Trees.{IsTree}
use Rattle.ax_dom.specs.declared.edit.Edit.{Edit}
use Rattle.ax_dom.specs.declared.edit.Edit.TheVariants.{InsertElement, InsertText, Remove, Move, Set, Unset}
use Rattle.ax_dom.specs.Among.{is_in}
use Rattle.ax_dom.specs.Subtrees.{subtree}
use Rattle.dom_ids.specs.References.{is_tie, names_text}

-- One document comes from another where some nodes, with all that is below them, are hung anew or taken out.
pub record Rehung (old now : Document) (top : ℕ → Bool) : Type 0 where
  pub was_tree : IsTree old
  pub is_tree : IsTree now
  -- a node that is not hung anew was there
  pub was : (n : ℕ) → has now n ≡ true → top n ≡ false → has old n ≡ true
  -- but for what is hung anew or taken out, a node has the children that it had, in their order
  pub hung : (n : ℕ) → has now n ≡ true → has old n ≡ true → filter (λ c. not (top c)) (children old n) ≡ filter (λ c. not (top c)) (children now n)

-- two nodes have the same `id`, refer to the same texts, and are labels for the same
pub record AreTiedAlike (a b : Body) : Type 0 where
  pub ids_same : (x : Chars) → has_id x a ≡ has_id x b
  pub names_same : (x : Chars) → names_text x a ≡ names_text x b
  pub labels_same : (x : Chars) → is_label_for x a ≡ is_label_for x b

-- One document comes from another where some nodes go, some come, and some are moved; a node that changes goes and comes.
pub record Follows (old now : Document) (gone come moved : List ℕ) : Type 0 where
  pub top : ℕ → Bool
  pub hangs : Rehung old now top
  pub same : (n : ℕ) → is_in gone n ≡ false → is_in come n ≡ false → AreTiedAlike (body old n) (body now n)
  pub new : (n : ℕ) → is_in come n ≡ true → is_in gone n ≡ false → has old n ≡ false
  pub lost : (n : ℕ) → is_in gone n ≡ true → is_in come n ≡ false → has now n ≡ false
  -- what was below a node that is hung anew or taken out goes, or is moved
  pub was_below : (r n : ℕ) → top r ≡ true → has old r ≡ true → Contains (subtree old r) n → (is_in gone n ≡ true) ⊎ (is_in moved n ≡ true)
  -- what is below one that is hung anew comes, or is moved
  pub is_below : (r n : ℕ) → top r ≡ true → has now r ≡ true → Contains (subtree now r) n → (is_in come n ≡ true) ⊎ (is_in moved n ≡ true)

-- the nodes that an edit takes out of a document, or whose names or references it changes
abbrev pub went : Document → Edit → List ℕ
went old (Remove id) = subtree old id
went old (Set id name value) = if is_tie name then id ∷ [] else []
went old (Unset id name) = if is_tie name then id ∷ [] else []
went old _ = []

-- the nodes that an edit puts in, or whose names or references it changes
abbrev pub came : Edit → List ℕ
came (InsertElement id into before tag attrs) = id ∷ []
came (InsertText id into before chars) = id ∷ []
came (Set id name value) = if is_tie name then id ∷ [] else []
came (Unset id name) = if is_tie name then id ∷ [] else []
came _ = []

-- the nodes that an edit hangs elsewhere
abbrev pub shifted : Document → Edit → List ℕ
shifted now (Move id into before) = subtree now id
shifted now _ = []
