-- What a node takes over from the nodes above it.
use Rattle.std.specs.Prelude.{ℕ, Bool, ◌||◌, List, [], ◌∷◌, unwrap_or}
use Rattle.std.specs.List.{list_any}
use Rattle.ax_base.specs.declared.states.Live.{Live}
use Rattle.ax_base.specs.declared.states.Live.TheVariants.{Off}
use Rattle.ax_base.specs.Document.{Document, spot, lineage, ancestors}
use Rattle.ax_base.specs.Roles.{hides, prunes}
use Rattle.ax_base.specs.States.{sets_live}

-- whether a node or an ancestor of it hides (WAI-ARIA 1.2, section 7.1)
abbrev pub is_hidden : Document → ℕ → Bool
is_hidden d n = list_any (λ a. hides (spot d a)) (lineage d n)

-- whether an ancestor of a node leaves out what is below it
abbrev pub is_presentational_descendant : Document → ℕ → Bool
is_presentational_descendant d n = list_any (λ a. prunes (spot d a)) (ancestors d n)

-- whether a node is out of the tree with all that is below it: it is hidden or pruned
abbrev pub is_out : Document → ℕ → Bool
is_out d n = is_hidden d n || is_presentational_descendant d n

-- whether all that is below a node is out: it is hidden, or it or an ancestor leaves out what is below
abbrev pub is_shut : Document → ℕ → Bool
is_shut d n = is_hidden d n || list_any (λ a. prunes (spot d a)) (lineage d n)

-- the live that the first of some nodes sets which sets one, else off
abbrev pub first_live : Document → List ℕ → Live
first_live d [] = Off
first_live d (n ∷ ns) = unwrap_or (sets_live (spot d n)) (first_live d ns)

-- the live of a node: that of itself or of the nearest ancestor that sets one (this project's profile)
abbrev pub live_at : Document → ℕ → Live
live_at d n = first_live d (lineage d n)
