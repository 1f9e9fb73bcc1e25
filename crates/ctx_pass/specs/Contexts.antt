-- What nodes take over from the nodes above them, as it is kept.
use Rattle.std.specs.Prelude.{◌≡◌, ℕ, Bool, true, false, ◌||◌, List, Option, Some, None, unwrap_or}
use Rattle.std.specs.Option.{option_map_or}
use Rattle.std.specs.Ordering.{nat_cmp}
use Rattle.std.specs.Map.{lookup}
use Rattle.std.specs.BTreeMap.{is_at}
use Rattle.ax_base.specs.declared.states.Live.TheVariants.{Off}
use Rattle.ax_base.specs.Document.{Document, Spot, spot, has}
use Rattle.ax_base.specs.Context.{is_hidden, is_presentational_descendant, live_at}
use Rattle.ax_base.specs.Roles.{hides, prunes}
use Rattle.ax_base.specs.States.{sets_live}
use Rattle.ctx_pass.specs.declared.contexts.Context.{Context}
use Rattle.ctx_pass.specs.declared.standing.Standing.{Standing}
use Rattle.ctx_pass.specs.Marks.{is_marked}

-- the context of a node: whether it is hidden, whether it is pruned, and its live
abbrev pub context_of : Document → ℕ → Context
context_of d n = record { hidden = is_hidden d n; pruned = is_presentational_descendant d n; live = live_at d n }

-- what the root takes over: nothing above it hides, leaves out or sets a live
abbrev pub outside : Context
outside = record { hidden = false; pruned = false; live = Off }

-- the context of a node, from what it takes over
abbrev pub inherited : Context → Spot → Context
inherited above s = record { hidden = hides s || above.hidden; pruned = above.pruned; live = unwrap_or (sets_live s) above.live }

-- what the children of a node take over, from its context
abbrev pub passed_on : Context → Spot → Context
passed_on here s = record { hidden = here.hidden; pruned = prunes s || here.pruned; live = here.live }

-- a context, and what the children of a node take over that has it
abbrev pub standing : Context → Spot → Standing
standing here s = record { here = here; below = passed_on here s }

-- how a node stands: its context, and what its children take over
abbrev pub standing_of : Document → ℕ → Standing
standing_of d n = standing (context_of d n) (spot d n)

-- what is kept of a node
abbrev pub standing_at : List (ℕ × Standing) → ℕ → Option Standing
standing_at kept n = lookup (is_at (nat_cmp n)) kept

-- what a node takes over by what is kept of its parent
abbrev pub handed_on : List (ℕ × Standing) → Option ℕ → Context
handed_on kept None = outside
handed_on kept (Some p) = option_map_or (λ s. s.below) (standing_at kept p) outside

-- the context of a node is kept, and what its children take over
abbrev pub IsContextKept : Document → List (ℕ × Standing) → ℕ → Type 0
IsContextKept d kept n = standing_at kept n ≡ Some (standing_of d n)

-- the same of each node
abbrev pub AreContextsOf : Document → List (ℕ × Standing) → Type 0
AreContextsOf d kept = (n : ℕ) → has d n ≡ true → IsContextKept d kept n

-- whether a node that stands so is out of the tree
abbrev pub puts_out : Standing → Bool
puts_out s = s.here.hidden || s.here.pruned

-- a node without a mark is not out by what is kept of it
abbrev pub OnlyMarkedAreOut : List ℕ → List (ℕ × Standing) → Type 0
OnlyMarkedAreOut marks kept = (n : ℕ) → is_marked marks n ≡ false → option_map_or puts_out (standing_at kept n) false ≡ false
