-- Some nodes in tree order, and the nodes on the ways to them.
use Rattle.std.specs.Prelude.{◌≡◌, ℕ, true, List, [], ◌∷◌, filter, Option, Some, None}
use Rattle.ax_base.specs.Document.{Document, order}
use Rattle.ax_dom.specs.Among.{is_in, IsClosedUp}

-- the nodes of a document that are among some, in tree order
abbrev pub in_order : Document → List ℕ → List ℕ
in_order d ns = filter (is_in ns) (order d)

-- with some nodes, all that is above them
pub record AreWaysTo (d : Document) (ns : List ℕ) (ways : List ℕ) : Type 0 where
  pub all : (n : ℕ) → is_in ns n ≡ true → is_in ways n ≡ true
  pub closed : IsClosedUp d ways

-- the first of some
abbrev pub first_in : List ℕ → Option ℕ
first_in [] = None
first_in (n ∷ ns) = Some n
