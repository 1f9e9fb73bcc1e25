-- The objects of the tree (WAI-ARIA 1.2, section 7: including and excluding elements).
use Rattle.std.specs.Prelude.{ℕ, Bool, if◌then◌else◌, List, [], ◌∷◌, flat_map}
use Rattle.ax_base.specs.Recursion.{from_below}
use Rattle.ax_base.specs.Document.{Document, spot, children, root}
use Rattle.ax_base.specs.Roles.{ignored}
use Rattle.ax_base.specs.Context.{is_out}
use Rattle.ax_base.specs.declared.limits.TheConstants.{MAX_DEPTH}

-- what decides how a child is taken: its id, whether it is left out with what is below it, and whether it is left out alone
pub record Standing : Type 0 where
  pub id : ℕ
  pub out : Bool
  pub ignored : Bool

-- how a node is taken
abbrev pub standing : Document → ℕ → Standing
standing d n = record { id = n; out = is_out d n; ignored = ignored (spot d n) }

-- a child that is out gives nothing, an ignored child gives its kids, any other gives itself
abbrev pub kids_from : Standing → List (Standing × List ℕ) → List ℕ
kids_from n below = flat_map (λ c. if c.0.out then [] else (if c.0.ignored then c.1 else c.0.id ∷ [])) below

-- the objects that hang on a node, in order: what its children give
abbrev pub kids : Document → ℕ → List ℕ
kids d n = from_below kids_from (standing d) (children d) MAX_DEPTH n

-- what a child gives: nothing, its kids or itself
abbrev pub taken : Document → ℕ → List ℕ
taken d c = if is_out d c then [] else (if ignored (spot d c) then kids d c else c ∷ [])

-- what is made of each object out of itself and of its kids, with what is made of those
abbrev pub from_kids : {A : Type 0} → (ℕ → List (ℕ × A) → A) → Document → ℕ → A
from_kids make d n = from_below make (λ k. k) (kids d) MAX_DEPTH n

-- an object, and then what is below each of its kids
abbrev pub objects_from : ℕ → List (ℕ × List ℕ) → List ℕ
objects_from n below = n ∷ flat_map (λ c. c.1) below

-- the objects of the tree, in preorder: what is reached from the root by kids
abbrev pub objects : Document → List ℕ
objects d = from_kids objects_from d root
